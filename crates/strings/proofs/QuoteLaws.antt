-- Quotes doubled, and made single again. Assumes nothing.
use Prim.Native.Nat.{ℕ, ◌+◌, ◌-◌, ◌*◌, ◌≤◌, ◌<◌}
use native.Mathlib.Omega.{arith}
use native.Mathlib.Numerals.{add-one}
use mathlib.Core.Path.{◌≡◌, refl}
use mathlib.Core.Bool.{Bool, true, false, cond, not}
use mathlib.Core.List.{List, [], ◌∷◌, ◌++◌}
use lib.Dec.{eqb}
use lib.ListN.{length, get_or, drop, length-append, drop_of_length-le}
use lib.Seq.{take_at, drop-cons}
use borrow.Author.Tests.{not-true, eq-eqb, ne_eqb}
use Rattle.keywords.proofs.Logic.{split, and_left, and_right, every}
use Rattle.words.specs.Bytes.{is}
use Rattle.strings.specs.Quotes.{inner, undoubled, unquoted, doubled, quoted}

-- how long
pub undoubled-short : (q : ℕ) (out : Bool) (w : List ℕ) → length (undoubled q out w) ≤ length w
unfolding undoubled
undoubled-short q out [] = omega arith
undoubled-short q true (b ∷ w) = omega (arith, undoubled-short q false w)
undoubled-short q false (b ∷ w) = omega (arith, undoubled-short q (eqb b q) w)

pub doubled-short : (q : ℕ) (v : List ℕ) → length (doubled q v) ≤ length v * 2
unfolding doubled
doubled-short q [] = omega arith
doubled-short q (b ∷ v) = split (eqb b q) (λ e. rw e (omega (arith, doubled-short q v))) (λ e. rw e (omega (arith, doubled-short q v)))

pub quoted-long : (q : ℕ) (v : List ℕ) → length (quoted q v) ≡ length (doubled q v) + 2
unfolding quoted
quoted-long q v = omega (arith, length-append (doubled q v) (q ∷ []))

-- there and back
pub undoubled-doubled : (q : ℕ) (v : List ℕ) → undoubled q false (doubled q v) ≡ v
unfolding doubled undoubled
undoubled-doubled q [] = refl
undoubled-doubled q (b ∷ v) = split (eqb b q) (λ e. rw (e, undoubled-doubled q v)) (λ e. rw (e, undoubled-doubled q v))

-- where the quote stands nowhere, nothing is doubled
pub undoubled-without : (q : ℕ) (w : List ℕ) → every (λ b. not (eqb b q)) w ≡ true → undoubled q false w ≡ w
unfolding undoubled
undoubled-without q [] e = refl
undoubled-without q (b ∷ w) e =
    let f = not-true (eqb b q) (and_left (not (eqb b q)) (every (λ x. not (eqb x q)) w) e) in
    rw (f, undoubled-without q w (and_right (not (eqb b q)) (every (λ x. not (eqb x q)) w) e))

-- between two bytes
pub inner-between : (q c : ℕ) (v : List ℕ) → inner (q ∷ v ++ c ∷ []) ≡ v
inner-between q c v = take_at v (c ∷ []) (length (q ∷ v ++ c ∷ []) - 2) (omega (arith, length-append v (c ∷ [])))

pub unquoted-between : (q c : ℕ) (v : List ℕ) → is "[" q ≡ false → unquoted (q ∷ v ++ c ∷ []) ≡ undoubled q false v
unfolding unquoted
unquoted-between q c v e = rw (e, inner-between q c v)

-- a body's byte, and what is left behind it
pub undoubled-step : (q : ℕ) (out : Bool) (w : List ℕ) (i : ℕ) → i < length w
    → undoubled q out (drop i w) ≡ cond out (undoubled q false (drop (i + 1) w)) (get_or w i 0 ∷ undoubled q (eqb (get_or w i 0) q) (drop (i + 1) w))
unfolding undoubled
undoubled-step q out w i h = rw (drop-cons w i 0 h, add-one i)

pub undoubled-end : (q : ℕ) (out : Bool) (w : List ℕ) (i : ℕ) → length w ≤ i → undoubled q out (drop i w) ≡ []
unfolding undoubled
undoubled-end q out w i h = rw (drop_of_length-le w {i = i} h)

pub doubled-at : (q : ℕ) (v : List ℕ) (i : ℕ) → i < length v
    → doubled q (drop i v) ≡ get_or v i 0 ∷ cond (eqb (get_or v i 0) q) (get_or v i 0 ∷ doubled q (drop (i + 1) v)) (doubled q (drop (i + 1) v))
unfolding doubled
doubled-at q v i h = rw (drop-cons v i 0 h, add-one i)

-- a quote adds two bytes, any other byte one
pub doubled-twice : (q : ℕ) (v : List ℕ) (i : ℕ) → i < length v → get_or v i 0 ≡ q → length (doubled q (drop i v)) ≡ 2 + length (doubled q (drop (i + 1) v))
doubled-twice q v i h e = rw (doubled-at q v i h, eq-eqb (get_or v i 0) q e) (omega arith)

pub doubled-once : (q : ℕ) (v : List ℕ) (i : ℕ) → i < length v → (get_or v i 0 ≡ q → ⊥) → length (doubled q (drop i v)) ≡ 1 + length (doubled q (drop (i + 1) v))
doubled-once q v i h e = rw (doubled-at q v i h, ne_eqb (get_or v i 0) q e) (omega arith)

pub doubled-end : (q : ℕ) (v : List ℕ) (i : ℕ) → length v ≤ i → doubled q (drop i v) ≡ []
unfolding doubled
doubled-end q v i h = rw (drop_of_length-le v {i = i} h)
