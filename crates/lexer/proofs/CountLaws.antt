-- How many digits and underscores a number has before a place. Assumes nothing.
use Prim.Native.Nat.{ℕ, suc, ◌+◌, ◌-◌, ◌≤◌}
use native.Mathlib.Omega.{arith}
use mathlib.Core.Path.{◌≡◌, refl, sym, ◌∙◌, ap, subst}
use mathlib.Core.Bool.{true, false}
use mathlib.Core.List.{List, [], ◌∷◌}
use lib.ListN.{get_or, take, drop, length-take}
use lib.Seq.{drop-drop, take-nil}
use borrow.Author.Tests.{not-true}
use Rattle.std.specs.Prelude.{Ok, Err}
use Rattle.keywords.proofs.Logic.{split, and_left, and_right, and-false, every}
use Rattle.words.specs.Bytes.{is, is_digit, is_hexdigit}
use Rattle.grammar.specs.Form.{Set, D, H, no, ◌or◌, one_of, holds}
use Rattle.grammar.specs.Answers.{count, is_hex, integer_digits}
use Rattle.grammar.specs.Runs.{char, sees, part}
use Rattle.grammar.proofs.Seen.{inside, inside-holds, seen-in, seen-holds}
use Rattle.grammar.proofs.Counts.{count-append, count-few, none_before}
use Rattle.grammar.proofs.Places.{Only, Counted, Hex}
use Rattle.lexer.specs.Eaten.{tally, groups, Digits}
use Rattle.lexer.proofs.SpanLaws.{tail, seen, part-snoc}

-- digits and underscores are not the same
pub record Apart (t : Set) : Type 0 where
  pub digit : inside t t ≡ true
  pub digit-out : inside t (no (one_of "_")) ≡ true
  pub line : inside (char "_") (one_of "_") ≡ true
  pub line-out : inside (char "_") (no t) ≡ true

pub decimal-apart : Apart D
unfolding is_digit
decimal-apart = record { digit = refl; digit-out = refl; line = refl; line-out = refl }

pub hex-apart : Apart H
unfolding is_digit is_hexdigit
hex-apart = record { digit = refl; digit-out = refl; line = refl; line-out = refl }

pub counted_none : (t : Set) (s : List ℕ) (at : ℕ) → Counted t s at at 0 0
counted_none t s at = let n : at - at ≡ 0 = omega arith in record { digits = rw n; underscores = rw n }

-- behind a byte of the set v
module _ (t : Set) {s : List ℕ} {from at n u : ℕ} (o : from ≤ at) (p : Counted t s from at n u) (v : Set) (h : sees v (drop at s) ≡ true) where
  abbrev next : ℕ
  next = get_or s at 0

  one_on : (w : Set) → count w (part s from (at + 1)) ≡ count w (part s from at) + count w (next ∷ [])
  one_on w = rw (part-snoc s from at o (seen-in v s at h)) (count-append w (part s from at) (next ∷ []))

  within : (w : Set) → inside v w ≡ true → count w (part s from (at + 1)) ≡ count w (part s from at) + 1
  within w i = one_on w ∙ rw (inside-holds v w i next (seen-holds v s at h))

  outside : (w : Set) → inside v (no w) ≡ true → count w (part s from (at + 1)) ≡ count w (part s from at)
  outside w i = one_on w ∙ rw (not-true (holds w next) (inside-holds v (no w) i next (seen-holds v s at h))) (omega arith)

  pub counted-digit : inside v t ≡ true → inside v (no (one_of "_")) ≡ true → Counted t s from (at + 1) (n + 1) u
  counted-digit i j = record { digits = within t i ∙ ap (λ (k : ℕ). k + 1) p.digits; underscores = outside (one_of "_") j ∙ p.underscores }

  pub counted-line : inside v (no t) ≡ true → inside v (one_of "_") ≡ true → Counted t s from (at + 1) n (u + 1)
  counted-line i j = record { digits = outside t i ∙ p.digits; underscores = within (one_of "_") j ∙ ap (λ (k : ℕ). k + 1) p.underscores }

  pub counted-other : inside v (no t) ≡ true → inside v (no (one_of "_")) ≡ true → Counted t s from (at + 1) n u
  counted-other i j = record { digits = outside t i ∙ p.digits; underscores = outside (one_of "_") j ∙ p.underscores }

-- behind a run of digits
module _ {t : Set} (apart : Apart t) (s : List ℕ) (from : ℕ) where
  abbrev Told : Digits → Type 0
  Told (Ok a) = Counted t s from a.cursor.at a.digits a.underscores
  Told (Err b) = Unit {0}

  counts : (l : List ℕ) (g i n u : ℕ) → drop i s ≡ l → from ≤ i → Counted t s from i n u → Told (groups t g i n u l)
  unfolding groups
  counts [] g i n u e o p = p
  counts (b ∷ l) g i n u e o p =
      split (holds t b)
      (λ x. rw x (counts l g (i + 1) (n + 1) u (tail s i b l e) (omega arith) (counted-digit t o p t (seen s i b l e t x) apart.digit apart.digit-out)))
      (λ x. split (holds (char "_") b)
      (λ z. split (sees t l)
      (λ f. rw (x, z, f) (counts l (i + 1) (i + 1) n (u + 1) (tail s i b l e) (omega arith)
      (counted-line t o p (char "_") (seen s i b l e (char "_") z) apart.line-out apart.line)))
      (λ f. rw (x, z, f) tt))
      (λ z. rw (x, z) p))

  pub counted-run : (i n u : ℕ) → from ≤ i → Counted t s from i n u → {e d v : ℕ} → Ok (tally e d v) ≡ groups t i i n u (drop i s) → Counted t s from e d v
  counted-run i n u o p f = subst Told (sym f) (counts (drop i s) i i n u refl o p)

-- no more than there are bytes
pub counted-few : {t : Set} → Apart t → {s : List ℕ} {from at n u : ℕ} → Counted t s from at n u → n + u ≤ at
counted-few {t} apart {s} {from} {at} c =
    let w = part s from at in
    omega (arith, count-few t (one_of "_") apart.digit-out w, length-take (at - from) (drop from s), c.digits, c.underscores)

-- An integer of D and underscores has no `x`, and so its D are its digits.
no-hex : (w : List ℕ) → every (holds (D or one_of "_")) w ≡ true → is_hex w ≡ false
unfolding is_digit
no-hex [] e = refl
no-hex (a ∷ []) e = refl
no-hex (a ∷ b ∷ w) e =
    let second = and_left (holds (D or one_of "_") b) _ (and_right (holds (D or one_of "_") a) _ e) in
    rw (not-true (holds (char "x" or char "X") b) (inside-holds (D or one_of "_") (no (char "x" or char "X")) refl b second)) (and-false (is "0" a))

pub decimal-digits : {s : List ℕ} {from at n u : ℕ} → Only (D or one_of "_") s from at → Counted D s from at n u → integer_digits (part s from at) ≡ n
decimal-digits {s} {from} {at} o c = rw (no-hex (part s from at) o) c.digits

-- The digits of a hexadecimal one are the H behind `0x`.
take-hex : (k : ℕ) (l : List ℕ) → is_hex (take (suc (suc k)) l) ≡ is_hex l
take-hex k [] = refl
take-hex k (a ∷ []) = refl
take-hex k (a ∷ b ∷ l) = refl

drop-take : (k : ℕ) (l : List ℕ) → drop 2 (take (suc (suc k)) l) ≡ take k (drop 2 l)
drop-take k [] = sym (take-nil k)
drop-take k (a ∷ []) = sym (take-nil k)
drop-take k (a ∷ b ∷ l) = refl

module _ {s : List ℕ} {from i at n u : ℕ} (p : Hex s from i) (o : i ≤ at) (c : Counted H s i at n u) where
  abbrev more : ℕ
  more = at - i

  whole : part s from at ≡ take (suc (suc more)) (drop from s)
  whole = let two = p.two in let k : at - from ≡ suc (suc more) = omega arith in rw k

  begins : is_hex (part s from at) ≡ true
  begins = rw (whole, take-hex more (drop from s)) p.begins

  behind-two : drop 2 (part s from at) ≡ part s i at
  behind-two = rw (whole, drop-take more (drop from s), drop-drop, ← p.two)

  pub hex-digits : integer_digits (part s from at) ≡ n
  hex-digits = rw (begins, behind-two) c.digits

  pub hex-underscores : count (one_of "_") (part s from at) ≡ u
  hex-underscores = none_before (part s from at) begins ∙ rw behind-two c.underscores
