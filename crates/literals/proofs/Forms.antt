-- What was written has the form of its class. Assumes nothing.
use Prim.Native.Nat.{ℕ, ◌/◌, ◌%◌, ◌<◌}
use native.Mathlib.Omega.{arith}
use mathlib.Core.Path.{◌≡◌, refl, sym, ◌∙◌, ap}
use mathlib.Core.Bool.{true, not}
use mathlib.Core.List.{List, [], ◌∷◌, ◌++◌, append-nil}
use mathlib.Core.Logic.{inl, inr}
use lib.Dec.{eqb, ltb}
use lib.Pow.{are_bytes}
use lib.ListN.{length}
use borrow.Author.Tests.{eq-eqb, ltb-true}
use Rattle.keywords.proofs.Logic.{split, and_left, and_right, every}
use Rattle.words.specs.Bytes.{is_digit, is_hexdigit}
use Rattle.grammar.specs.Form.{Set, D, H, no, holds, Has, stop, more, one, ◌·◌, ◌∣◌, many, text, lit, run, some}
use Rattle.grammar.specs.Classes.{dig, hex_integer, opened, x}
use Rattle.hexdigits.specs.Digits.{digit}
use Rattle.hexdigits.proofs.DigitLaws.{all_below, below_at}
use Rattle.integers.specs.Numbers.{padded, width}
use Rattle.integers.specs.Integers.{decimal, hexadecimal}
use Rattle.integers.proofs.WritingLaws.{padded-every, padded-long, width_some}
use Rattle.strings.specs.Quotes.{doubled, quoted}
use Rattle.blobs.specs.Blobs.{hexed, blob_literal}

-- runs
runs : (t : Set) (w : List ℕ) → every (holds t) w ≡ true → Has (run t) w
runs t [] e = stop
runs t (b ∷ w) e = more {u = b ∷ []} {v = w} refl (and_left (holds t b) (every (holds t) w) e) (runs t w (and_right (holds t b) (every (holds t) w) e))

some-run : (t : Set) (w : List ℕ) → 0 < length w → every (holds t) w ≡ true → Has (some t) w
some-run t [] h e = absurd (omega arith)
some-run t (b ∷ w) h e = (b ∷ [], w, refl, and_left (holds t b) (every (holds t) w) e, runs t w (and_right (holds t b) (every (holds t) w) e))

-- digits that were written are digits
all-D : all_below (λ d. holds D (digit d)) 10 ≡ true
unfolding digit is_digit
all-D = refl

all-H : all_below (λ d. holds H (digit d)) 16 ≡ true
unfolding digit is_digit is_hexdigit
all-H = refl

pub decimal-form : (n : ℕ) → Has (dig ∣ hex_integer) (decimal n)
unfolding decimal
decimal-form n =
    let w = padded 10 (width 19 n) n in
    let digits = padded-every (holds D) 10 (width 19 n) n (omega arith) all-D in
    inl (w, [], sym (append-nil w), some-run D w (omega (arith, padded-long 10 (width 19 n) n, width_some 19 n)) digits, stop)

pub hexadecimal-form : (n : ℕ) → Has (dig ∣ hex_integer) (hexadecimal n)
unfolding hexadecimal
hexadecimal-form n =
    let w = padded 16 16 n in
    let digits = padded-every (holds H) 16 16 n (omega arith) all-H in
    inr (
      48 ∷ 120 ∷ [],
      w,
      refl,
      (48 ∷ [], 120 ∷ [], refl, (48 ∷ [], [], refl, refl, refl), refl),
      (w, [], sym (append-nil w), some-run H w (omega (arith, padded-long 16 16 n)) digits, stop),
    )

-- in a body each quote is doubled
body-form : (t : Set) (q : ℕ) → ((b : ℕ) → holds t b ≡ eqb b q) → (v : List ℕ) → Has (many (one (no t) ∣ one t · one t)) (doubled q v)
unfolding doubled
body-form t q is [] = stop
body-form t q is (b ∷ v) =
    split (eqb b q)
    (λ e. rw e (more {u = b ∷ b ∷ []} {v = doubled q v} refl (inr (b ∷ [], b ∷ [], refl, is b ∙ e, is b ∙ e)) (body-form t q is v)))
    (λ e. rw e (more {u = b ∷ []} {v = doubled q v} refl (inl (ap not (is b ∙ e))) (body-form t q is v)))

pub quoted-form : (t : Set) (q : ℕ) → ((b : ℕ) → holds t b ≡ eqb b q) → (v : List ℕ) → Has (opened t · text (q ∷ [])) (quoted q v)
unfolding quoted
quoted-form t q is v =
    (q ∷ doubled q v, q ∷ [], refl, (q ∷ [], doubled q v, refl, is q ∙ eq-eqb q q refl, body-form t q is v), (q ∷ [], [], refl, eq-eqb q q refl, refl))

-- pairs of H
pairs-form : (v : List ℕ) → are_bytes v ≡ true → Has (many (one H · one H)) (hexed v)
unfolding hexed
pairs-form [] e = stop
pairs-form (b ∷ v) e =
    let l : b < 256 = ltb-true b 256 (and_left (ltb b 256) (are_bytes v) e) in
    let h : holds H (digit (b / 16)) ≡ true = below_at (λ d. holds H (digit d)) 16 (b / 16) (omega arith) all-H in
    let k : holds H (digit (b % 16)) ≡ true = below_at (λ d. holds H (digit d)) 16 (b % 16) (omega arith) all-H in
    more {u = digit (b / 16) ∷ digit (b % 16) ∷ []} {v = hexed v} refl (digit (b / 16) ∷ [], digit (b % 16) ∷ [], refl, h, k)
    (pairs-form v (and_right (ltb b 256) (are_bytes v) e))

pub blob-form : (v : List ℕ) → are_bytes v ≡ true → Has (x · lit "'" · many (one H · one H) · lit "'") (blob_literal v)
unfolding blob_literal
blob-form v e = (
  120 ∷ [],
  39 ∷ hexed v ++ 39 ∷ [],
  refl,
  refl,
  (39 ∷ [], hexed v ++ 39 ∷ [], refl, (39 ∷ [], [], refl, refl, refl), (hexed v, 39 ∷ [], refl, pairs-form v e, (39 ∷ [], [], refl, refl, refl))),
)
