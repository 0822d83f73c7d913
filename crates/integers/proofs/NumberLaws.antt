-- The numbers that digits name: read a digit at a time, within a limit, and below a power of the base. Assumes nothing.
use Prim.Native.Nat.{ℕ, ◌+◌, ◌*◌, ◌^◌, ◌≤◌, ◌<◌}
use Prim.Native.Char.{code}
use native.Mathlib.Omega.{arith}
use native.Mathlib.Nat.{pow-zero, pow-succ', le_trans, mul-le-mul_left, mul-le-mul_right, mul-one, one-mul, mul_assoc, add-mul}
use native.Mathlib.Numerals.{add-one}
use mathlib.Core.Path.{◌≡◌, refl, sym, ◌∙◌, ap, subst}
use mathlib.Core.Bool.{Bool, true, false, ◌||◌}
use mathlib.Core.List.{List, [], ◌∷◌}
use lib.ListN.{length, get_or, drop, drop_of_length-le}
use lib.Seq.{drop-cons}
use borrow.Author.Tests.{eq-eqb, ne_eqb}
use Rattle.keywords.proofs.Logic.{split, and_left, and_right, or-false, every}
use Rattle.words.specs.Bytes.{is}
use Rattle.hexdigits.specs.Digits.{worth}
use Rattle.grammar.specs.Form.{Set, ◌or◌, one_of, holds}
use Rattle.grammar.specs.Answers.{count}
use Rattle.integers.specs.Numbers.{digits, number, value}

-- a number is never below what stood before its last digits
number-least : (base n : ℕ) (ds : List ℕ) → 0 < base → n ≤ number base n ds
unfolding number
number-least base n [] p = omega arith
number-least base n (d ∷ ds) p =
    let m : n * 1 ≤ n * base = mul-le-mul_left n p in
    let step : n ≤ n * base + d = omega (arith, mul-one n) in
    le_trans step (number-least base (n * base + d) ds p)

-- a text read up to a place, with n named so far: with the bytes from there on that names what all of them name
pub record Naming (base : ℕ) (w : List ℕ) (n i : ℕ) : Type 0 where
  pub upto : i ≤ length w
  pub names : number base n (digits (drop i w)) ≡ value base w

pub naming-begins : {base : ℕ} {w : List ℕ} → Naming base w 0 0
naming-begins = record { upto = omega arith; names = refl }

module _ {base : ℕ} {w : List ℕ} {n i : ℕ} (f : Naming base w n i) where
  pub naming-digit : i < length w → (get_or w i 0 ≡ code "_" → ⊥) → {d : ℕ} → d ≡ worth (get_or w i 0) → Naming base w (n * base + d) (i + 1)
  unfolding digits number
  naming-digit h u {d} e =
      let step : number base n (digits (drop i w)) ≡ number base (n * base + d) (digits (drop (i + 1) w)) =
      rw (drop-cons w i 0 h, ne_eqb (get_or w i 0) (code "_") u, add-one i, e) in
      record { upto = omega arith; names = sym step ∙ f.names }

  pub naming-underscore : i < length w → get_or w i 0 ≡ code "_" → Naming base w n (i + 1)
  unfolding digits
  naming-underscore h u =
      let step : digits (drop i w) ≡ digits (drop (i + 1) w) = rw (drop-cons w i 0 h, eq-eqb (get_or w i 0) (code "_") u, add-one i) in
      record { upto = omega arith; names = sym (ap (number base n) step) ∙ f.names }

  pub naming-ends : length w ≤ i → n ≡ value base w
  unfolding digits number
  naming-ends h = let end : number base n (digits (drop i w)) ≡ n = rw (drop_of_length-le w {i = i} h) in sym end ∙ f.names

  pub naming-least : 0 < base → n ≤ value base w
  naming-least p = subst (λ (x : ℕ). n ≤ x) f.names (number-least base n (digits (drop i w)) p)

-- a digit d behind n, and the limit most * base + last: beyond it, or not
module _ (base most last n d : ℕ) where
  pub beyond : last < base → most < n → most * base + last < n * base + d
  beyond l h = let m : (most + 1) * base ≤ n * base = mul-le-mul_right base (omega arith) in omega (arith, add-mul most 1 base, one-mul base)

  pub beyond-last : n ≡ most → last < d → most * base + last < n * base + d
  beyond-last e h = rw e (omega arith)

  pub stays-below : d ≤ base + last → n < most → n * base + d ≤ most * base + last
  stays-below l h = let m : (n + 1) * base ≤ most * base = mul-le-mul_right base (omega arith) in omega (arith, add-mul n 1 base, one-mul base)

  pub stays_at : n ≡ most → d ≤ last → n * base + d ≤ most * base + last
  stays_at e h = rw e (omega arith)

-- digits of a set: those of a base, and no underscores
pub record Worthy (base : ℕ) (t : Set) : Type 0 where
  pub small : (b : ℕ) → holds t b ≡ true → worth b < base
  pub no-underscore : (b : ℕ) → holds t b ≡ true → is "_" b ≡ false

-- so many of them name less than that power of the base
number-most : (base : ℕ) (t : Set) → Worthy base t → (n : ℕ) (w : List ℕ) → every (holds (t or one_of "_")) w ≡ true
    → number base n (digits w) < (n + 1) * base ^ count t w
unfolding digits number
number-most base t ok n [] e = rw (pow-zero base) (omega (arith, mul-one (n + 1)))
number-most base t ok n (b ∷ w) e =
    let rest = and_right (holds (t or one_of "_") b) _ e in
    split (holds t b)
    (λ f.
    let d = worth b in
    let p = base ^ count t w in
    let l = number-most base t ok (n * base + d) w rest in
    let m : (n * base + d + 1) * p ≤ (n + 1) * base * p = mul-le-mul_right p (omega (arith, ok.small b f, add-mul n 1 base, one-mul base)) in
    rw (f, ok.no-underscore b f, pow-succ' base (count t w)) (omega (arith, mul_assoc (n + 1) base p)))
    (λ f.
    let u = sym (or-false (is "_" b)) ∙ sym (ap (λ (x : Bool). x || (is "_" b || false)) f) ∙ and_left (holds (t or one_of "_") b) _ e in
    rw (f, u) (number-most base t ok n w rest))

pub value-most : (base : ℕ) (t : Set) → Worthy base t → (w : List ℕ) → every (holds (t or one_of "_")) w ≡ true → value base w < base ^ count t w
value-most base t ok w e = omega (arith, number-most base t ok 0 w e, one-mul (base ^ count t w))
