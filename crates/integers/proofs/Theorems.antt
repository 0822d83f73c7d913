-- For readers. An integer is read and written in one way, what was written is read again, and a literal that stands as it is written is
-- written again. Assumes nothing.
use Prim.Native.Nat.{ℕ, suc, ◌-◌, ◌^◌, ◌≤◌, ◌<◌}
use native.Mathlib.Omega.{arith}
use mathlib.Core.Path.{◌≡◌, refl, sym, ◌∙◌, ap, subst}
use mathlib.Core.Bool.{Bool, true, false, cond, not, ◌&&◌, true≢false}
use mathlib.Core.List.{List, [], ◌∷◌}
use lib.Dec.{eqb, leb}
use lib.IntN.{ℤ, pos, negsuc}
use lib.ListN.{length}
use lib.Signed.{mag}
use borrow.Author.Tests.{eqb-true, eqb-false, leb-true, not-true}
use Rattle.keywords.proofs.Logic.{split, and_left, and_right, every}
use Rattle.words.specs.Bytes.{is, is_digit}
use Rattle.hexdigits.specs.Digits.{worth, digit}
use Rattle.hexdigits.proofs.DigitLaws.{is_capital, worth-decimal, digit-least}
use Rattle.grammar.specs.declared.profile.Profile.{Profile}
use Rattle.grammar.specs.Answers.{is_hex}
use Rattle.std.specs.Prelude.{Result, Ok, Err}
use Rattle.buffers.specs.declared.written.NoRoom.{NoRoom}
use Rattle.buffers.specs.Buffers.{valued}
use Rattle.buffers.proofs.Theorems as Buffers
use Rattle.spans.proofs.Theorems.{reads-unique}
use Rattle.integers.specs.declared.reading.IntegerError.{IntegerError}
use Rattle.integers.specs.declared.reading.IntegerError.TheVariants.{NotThatLiteral, OutOfRange}
use Rattle.integers.specs.Numbers.{value, padded, width}
use Rattle.integers.specs.Integers.{bits_of, up_to, integer_of, decimal, hexadecimal, integer_literal}
use Rattle.integers.specs.Calls.{said_of, ReadsInteger, WritesInteger}
use Rattle.integers.proofs.SignLaws.{in-range, in-range-only, signed_low, signed_high, signed-bits}
use Rattle.integers.proofs.ReadingLaws.{decimal-no-hex}
use Rattle.integers.proofs.WritingLaws.{padded-every}
use Rattle.integers.proofs.RoundLaws.{value-padded, width-bound, plain-hexadecimal, padded-value, one_again, more-again}

-- two answers that say the same are the same
read_same : (r q : Result ℤ IntegerError) → said_of r ≡ said_of q → r ≡ q
read_same (Ok v) (Ok z) e = let f : v ≡ z = cc in ap Ok f
read_same (Ok v) (Err NotThatLiteral) e = absurd (let z : ◌≡◌ {A = ℕ} 0 1 = cc in omega arith)
read_same (Ok v) (Err OutOfRange) e = absurd (let z : ◌≡◌ {A = ℕ} 0 1 = cc in omega arith)
read_same (Err NotThatLiteral) (Ok v) e = absurd (let z : ◌≡◌ {A = ℕ} 0 1 = cc in omega arith)
read_same (Err NotThatLiteral) (Err NotThatLiteral) e = refl
read_same (Err NotThatLiteral) (Err OutOfRange) e = absurd (let z : ◌≡◌ {A = ℕ} 11 12 = cc in omega arith)
read_same (Err OutOfRange) (Ok v) e = absurd (let z : ◌≡◌ {A = ℕ} 0 1 = cc in omega arith)
read_same (Err OutOfRange) (Err NotThatLiteral) e = absurd (let z : ◌≡◌ {A = ℕ} 12 11 = cc in omega arith)
read_same (Err OutOfRange) (Err OutOfRange) e = refl

pub read-unique : (p : Profile) (s : List ℕ) (start n : ℕ) (r q : Result ℤ IntegerError) → ReadsInteger p s start n r → ReadsInteger p s start n q → r ≡ q
unfolding ReadsInteger
read-unique p s start n r q f g = read_same r q (reads-unique f g)

pub written-unique : (v : ℤ) (old new new' : List ℕ) (r q : Result ℕ NoRoom) → WritesInteger v old r new → WritesInteger v old q new' → (r ≡ q) × (new ≡ new')
unfolding WritesInteger
written-unique v old new new' r q f g = Buffers.written-unique r q f g

all-decimal : (k n : ℕ) → every is_digit (padded 10 k n) ≡ true
unfolding is_digit digit
all-decimal k n = padded-every is_digit 10 k n (omega arith) refl

-- every 64-bit integer
pub read_back : (v : ℤ) → mag v < 2 ^ 63 → integer_of (integer_literal v) ≡ valued v
unfolding integer_of integer_literal decimal hexadecimal bits_of
read_back (pos n) h =
    let k = width 19 n in
    let e : value 10 (padded 10 k n) ≡ n = value-padded 10 k n (omega arith) (omega arith) (width-bound 19 n (omega arith)) in
    rw (decimal-no-hex (padded 10 k n) (all-decimal k n), e, in-range 9223372036854775807 n (omega arith)) (ap valued (signed_low n h))
read_back (negsuc k) h =
    let n = bits_of (negsuc k) in
    let e : value 16 (padded 16 16 n) ≡ n = value-padded 16 16 n (omega arith) (omega arith) (omega arith) in
    rw (e, in-range 18446744073709551615 n (omega arith)) (ap valued (signed-bits (negsuc k) h))

-- as the call writes: D of which the first is no `0` if another follows; or `0x` and sixteen H in capitals, the bits of a negative value
unfoldable pub canonical : List ℕ → Bool
canonical [] = false
canonical (a ∷ []) = is_digit a
canonical (a ∷ b ∷ w) =
    cond (is "x" b)
    (is "0" a && every is_capital w && eqb (length w) 16 && leb (2 ^ 63) (value 16 w))
    (not (is "0" a) && every is_digit (a ∷ b ∷ w))

decimal-again : (w : List ℕ) (v : ℤ) → is_hex w ≡ false → (value 10 w ≤ 9223372036854775807 → decimal (value 10 w) ≡ w) → integer_of w ≡ valued v
    → integer_literal v ≡ w
unfolding integer_of integer_literal
decimal-again w v i h e =
    let (l, s) = in-range-only 9223372036854775807 (value 10 w) v (rw i at e) in
    ap integer_literal (sym s ∙ signed_low (value 10 w) (omega arith)) ∙ h l

hexadecimal-again : (w : List ℕ) (v : ℤ) → every is_capital w ≡ true → length w ≡ 16 → 2 ^ 63 ≤ value 16 w
    → up_to 18446744073709551615 (value 16 w) ≡ valued v → integer_literal v ≡ 48 ∷ 120 ∷ w
unfolding integer_literal bits_of hexadecimal
hexadecimal-again w v c l h e =
    let n = value 16 w in
    let (m, s) = in-range-only 18446744073709551615 n v e in
    let b : 2 ^ 64 - suc (2 ^ 64 - suc n) ≡ n = omega arith in
    let d : padded 16 16 n ≡ w = subst (λ (k : ℕ). padded 16 k n ≡ w) l (padded-value plain-hexadecimal w c) in
    ap integer_literal (sym s ∙ signed_high n h) ∙ rw (b, d)

some_first : (a : ℕ) → is_digit a ≡ true → (a ≡ 48 → ⊥) → 0 < worth a
some_first a e f = omega (arith, worth-decimal a e, digit-least a e)

pub again : (w : List ℕ) (v : ℤ) → canonical w ≡ true → integer_of w ≡ valued v → integer_literal v ≡ w
unfolding canonical integer_of
again [] v c e = absurd (true≢false (sym c))
again (a ∷ []) v c e = decimal-again (a ∷ []) v refl (λ l. one_again a c) e
again (a ∷ b ∷ w) v c e =
    split (is "x" b)
    (λ x.
    let two = is "0" a && every is_capital w in
    let l = eqb (length w) 16 in
    let h = leb (2 ^ 63) (value 16 w) in
    let all : two && l && h ≡ true = rw x at c in
    let long = and_left (two && l) h all in
    let both = and_left two l long in
    let zero = and_left (is "0" a) (every is_capital w) both in
    hexadecimal-again w v
    (and_right (is "0" a) (every is_capital w) both)
    (eqb-true (length w) 16 (and_right two l long))
    (leb-true (2 ^ 63) (value 16 w) (and_right (two && l) h all))
    (rw (zero, x) at e)
    ∙ rw (eqb-true a 48 zero, eqb-true b 120 x))
    (λ x.
    let all : not (is "0" a) && every is_digit (a ∷ b ∷ w) ≡ true = rw x at c in
    let no_zero = eqb-false a 48 (not-true (is "0" a) (and_left (not (is "0" a)) _ all)) in
    let ds = and_right (not (is "0" a)) (every is_digit (a ∷ b ∷ w)) all in
    let some = some_first a (and_left (is_digit a) _ ds) no_zero in
    decimal-again (a ∷ b ∷ w) v (decimal-no-hex (a ∷ b ∷ w) ds) (λ l. more-again a (b ∷ w) ds some (omega arith)) e)
