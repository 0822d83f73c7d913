-- A digit is what it stands for. Assumes nothing.
use Prim.Native.Nat.{ℕ, zero, suc, ◌+◌, ◌-◌, ◌≤◌, ◌<◌}
use native.Mathlib.Omega.{arith}
use native.Mathlib.Nat.{not-suc-le-zero}
use mathlib.Core.Path.{◌≡◌, refl, sym, subst}
use mathlib.Core.Bool.{Bool, true, false, not, ◌&&◌, ◌||◌}
use lib.Dec.{eqb, leb}
use borrow.Author.Tests.{eqb-true, eqb-false, leb-true, le-leb, not-true}
use Rattle.keywords.proofs.Logic.{split, and_left, and_right}
use Rattle.words.specs.Bytes.{is, within, between, is_digit}
use Rattle.hexdigits.specs.Digits.{worth, digit}

-- the test passes at every number below n
abbrev pub all_below : (ℕ → Bool) → ℕ → Bool
all_below p zero = true
all_below p (suc n) = p n && all_below p n

pub below_at : (p : ℕ → Bool) (n d : ℕ) → d < n → all_below p n ≡ true → p d ≡ true
below_at p zero d h t = absurd (not-suc-le-zero h)
below_at p (suc n) d h t =
    split (eqb d n)
    (λ e. subst (λ (x : ℕ). p x ≡ true) (sym (eqb-true d n e)) (and_left (p n) (all_below p n) t))
    (λ e. let f = eqb-false d n e in below_at p n d (omega arith) (and_right (p n) (all_below p n) t))

-- computed at each of the sixteen
abbrev good : ℕ → Bool
good d = eqb (worth (digit d)) d && not (is "_" (digit d))

all-good : all_below good 16 ≡ true
unfolding worth digit is_digit
all-good = refl

pub worth-digit : (d : ℕ) → d < 16 → worth (digit d) ≡ d
worth-digit d h = eqb-true _ _ (and_left _ _ (below_at good 16 d h all-good))

pub digit-no-underscore : (d : ℕ) → d < 16 → is "_" (digit d) ≡ false
digit-no-underscore d h = not-true _ (and_right (eqb (worth (digit d)) d) _ (below_at good 16 d h all-good))

-- where a decimal digit lies
pub digit-least : (b : ℕ) → is_digit b ≡ true → 48 ≤ b
unfolding is_digit
digit-least b e = leb-true 48 b (and_left (leb 48 b) (leb b 57) e)

pub digit-most : (b : ℕ) → is_digit b ≡ true → b ≤ 57
unfolding is_digit
digit-most b e = leb-true b 57 (and_right (leb 48 b) (leb b 57) e)

-- what a byte stands for, by where it lies
module _ (b : ℕ) where
  pub worth-decimal : is_digit b ≡ true → b - 48 ≡ worth b
  unfolding worth
  worth-decimal e = rw e

  pub worth-capital : is_digit b ≡ false → 65 ≤ b → b ≤ 70 → b - 65 + 10 ≡ worth b
  unfolding worth
  worth-capital e l h = rw (e, le-leb 65 b l, le-leb b 70 h)

-- how much a byte stands for at most
pub worth-most : (b : ℕ) → worth b < 16
unfolding worth is_digit
worth-most b =
    split (between "0" "9" b)
    (λ e. rw e (omega (arith, most 48 57 e)))
    (λ e.
    split (between "A" "F" b)
    (λ f. rw (e, f) (omega (arith, most 65 70 f)))
    (λ f. split (between "a" "f" b) (λ g. rw (e, f, g) (omega (arith, most 97 102 g))) (λ g. rw (e, f, g) (omega arith))))
  where
    most : (lo hi : ℕ) → within lo hi b ≡ true → b ≤ hi
    most lo hi e = leb-true b hi (and_right (leb lo b) (leb b hi) e)

pub worth-most-decimal : (b : ℕ) → is_digit b ≡ true → worth b < 10
worth-most-decimal b e = omega (arith, worth-decimal b e, digit-most b e)

-- an H in capitals is the one that is written
abbrev pub is_capital : ℕ → Bool
is_capital b = is_digit b || between "A" "F" b

abbrev unchanged : ℕ → Bool
unchanged b = not (is_capital b) || eqb (digit (worth b)) b

all-unchanged : all_below unchanged 71 ≡ true
unfolding worth digit is_digit
all-unchanged = refl

pub digit-worth : (b : ℕ) → is_capital b ≡ true → digit (worth b) ≡ b
digit-worth b e = eqb-true _ b (subst (λ (c : Bool). not c || eqb (digit (worth b)) b ≡ true) e (below_at unchanged 71 b low all-unchanged))
  where
    low : b < 71
    low =
        split (is_digit b)
        (λ f. omega (arith, digit-most b f))
        (λ f. omega (arith, leb-true b 70 (and_right (leb 65 b) (leb b 70) (subst (λ (c : Bool). c || between "A" "F" b ≡ true) f e))))
