-- What the bytes of an integer are: D or H, and underscores; so few digits name a number that fits. Assumes nothing.
use Prim.Native.Nat.{ℕ, ◌+◌, ◌-◌, ◌^◌, ◌≤◌, ◌<◌}
use native.Mathlib.Omega.{arith}
use native.Mathlib.Nat.{le_trans, pow-le-pow_right}
use mathlib.Core.Path.{◌≡◌, refl, sym, ◌∙◌, ap, subst}
use mathlib.Core.Bool.{Bool, true, false, ◌||◌, true≢false}
use mathlib.Core.List.{List, [], ◌∷◌, ◌++◌}
use mathlib.Core.Logic.{inl, inr}
use lib.ListN.{length, take, drop, length-drop}
use lib.Seq.{take_all}
use borrow.Author.Tests.{not-true}
use Rattle.keywords.specs.Kinds.{kind}
use Rattle.keywords.proofs.Logic.{and_left, and_right, and-false, or-false, every}
use Rattle.words.specs.Bytes.{is, is_digit, is_hexdigit}
use Rattle.hexdigits.proofs.DigitLaws.{worth-most, worth-most-decimal}
use Rattle.grammar.specs.declared.profile.Profile.{Profile}
use Rattle.grammar.specs.Form.{Set, D, H, byte, no, ◌or◌, one_of, holds, Form, lit, run, some, many, ◌·◌, ◌∣◌, Single, stop, more, Has}
use Rattle.grammar.specs.Classes.{dig, hex_integer}
use Rattle.grammar.specs.Answers.{is_hex, count, sum, integer_digits}
use Rattle.grammar.specs.Runs.{char}
use Rattle.grammar.proofs.Seen.{inside, inside-holds}
use Rattle.grammar.proofs.Equal.{within}
use Rattle.buffers.specs.Buffers.{Said}
use Rattle.spans.specs.Spans.{span, IsTokenWith}
use Rattle.spans.proofs.TokenLaws.{some-digits, integer-form, integer-sum}
use Rattle.spans.proofs.ReadingLaws.{part-is}
use Rattle.std.specs.Prelude.{Result}
use lib.IntN.{ℤ}
use Rattle.integers.specs.declared.reading.IntegerError.{IntegerError}
use Rattle.integers.specs.Numbers.{value}
use Rattle.integers.specs.Integers.{up_to, integer_of}
use Rattle.integers.specs.Calls.{said_of, ReadsInteger}
use Rattle.integers.proofs.NumberLaws.{Worthy, value-most}

-- what stands behind `0x`, as the code takes it
rest-whole : (w : List ℕ) → take (length w - 2) (drop 2 w) ≡ drop 2 w
rest-whole w = take_all (length w - 2) (drop 2 w) (omega (arith, length-drop 2 w))

-- a text of one byte; and of bytes of a set
single : (t : Set) (w : List ℕ) → Single t w → (b : ℕ) × (w ≡ b ∷ []) × (holds t b ≡ true)
single t [] h = absurd h
single t (b ∷ []) h = (b, refl, h)
single t (b ∷ c ∷ w) h = absurd h

run-every : (t : Set) (w : List ℕ) → Has (run t) w → every (holds t) w ≡ true
run-every t w stop = refl
run-every t w (more {u = u} {v = v} e p m) = let (b, f, h) = single t u p in rw (e, f, h) (run-every t v m)

-- bytes of a set without `x` do not begin with `0x`
no-hex : (t : Set) → inside t (no (char "x" or char "X")) ≡ true → (w : List ℕ) → every (holds t) w ≡ true → is_hex w ≡ false
no-hex t i [] e = refl
no-hex t i (a ∷ []) e = refl
no-hex t i (a ∷ b ∷ w) e =
    let second = and_left (holds t b) _ (and_right (holds t a) _ e) in
    rw (not-true (holds (char "x" or char "X") b) (inside-holds t (no (char "x" or char "X")) i b second)) (and-false (is "0" a))

pub decimal-no-hex : (w : List ℕ) → every is_digit w ≡ true → is_hex w ≡ false
unfolding is_digit
decimal-no-hex w e = no-hex D refl w e

-- a Dig is D and underscores
dig-every : (w : List ℕ) → Has dig w → every (holds (D or one_of "_")) w ≡ true
unfolding is_digit
dig-every w h = run-every (D or one_of "_") w (within 60 dig (run (D or one_of "_")) refl w h)

-- behind `0x` stand H and underscores
abbrev hex_dig : Form
hex_dig = some H · many (lit "_" · some H)

hex-parts : (w : List ℕ) → Has hex_integer w → (is_hex w ≡ true) × Has hex_dig (drop 2 w)
hex-parts w (u, v, e, (p, q, f, (x, y, g, s, z), t), h) =
    let (a, i, k) = single (byte 48) x s in
    let (b, j, l) = single (one_of "xX") q t in
    let all = joined e f g i z j in
    (rw (all, k) (ap (λ (c : Bool). is "x" b || c) (sym (or-false (is "X" b))) ∙ l), rw all h)
  where
    joined : {w u v p q x y : List ℕ} {a b : ℕ} → w ≡ u ++ v → u ≡ p ++ q → p ≡ x ++ y → x ≡ a ∷ [] → y ≡ [] → q ≡ b ∷ []
        → w ≡ a ∷ b ∷ v
    joined e f g i z j = rw (e, f, g, i, z, j)

hex-every : (w : List ℕ) → Has hex_dig w → every (holds (H or one_of "_")) w ≡ true
unfolding is_digit is_hexdigit
hex-every w h = run-every (H or one_of "_") w (within 60 hex_dig (run (H or one_of "_")) refl w h)

decimal-every : (w : List ℕ) → Has (dig ∣ hex_integer) w → is_hex w ≡ false → every (holds (D or one_of "_")) w ≡ true
decimal-every w (inl h) e = dig-every w h
decimal-every w (inr h) e = absurd (true≢false (sym (hex-parts w h).0 ∙ e))

hexadecimal-every : (w : List ℕ) → Has (dig ∣ hex_integer) w → is_hex w ≡ true → every (holds (H or one_of "_")) (drop 2 w) ≡ true
unfolding is_digit
hexadecimal-every w (inl h) e = absurd (true≢false (sym e ∙ no-hex (D or one_of "_") refl w (dig-every w h)))
hexadecimal-every w (inr h) e = hex-every (drop 2 w) (hex-parts w h).1

-- so few digits of a base
few : (base : ℕ) (t : Set) (k : ℕ) → Worthy base t → 0 < base → (w : List ℕ) → every (holds (t or one_of "_")) w ≡ true → count t w ≤ k
    → value base w < base ^ k
few base t k ok p w e h = le_trans (value-most base t ok w e) (pow-le-pow_right p h)

decimals : Worthy 10 D
unfolding is_digit
decimals = record {
  small = λ b h. worth-most-decimal b h;
  no-underscore = λ b h. sym (or-false (is "_" b)) ∙ not-true _ (inside-holds D (no (one_of "_")) refl b h);
}

hexadecimals : Worthy 16 H
unfolding is_digit is_hexdigit
hexadecimals = record {
  small = λ b h. worth-most b;
  no-underscore = λ b h. sym (or-false (is "_" b)) ∙ not-true _ (inside-holds H (no (one_of "_")) refl b h);
}

-- what `value_of` asks of an integer's bytes: decimal ones of up to 18 digits fit, and hexadecimal ones of up to 16
abbrev pub Fit : List ℕ → ℕ → Type 0
Fit w d = (is_hex w ≡ false → d ≤ 18 → value 10 w < 10 ^ 18) × (is_hex w ≡ true → d ≤ 16 → value 16 (drop 2 w) < 16 ^ 16)

integer-fits : (w : List ℕ) (d : ℕ) → Has (dig ∣ hex_integer) w → d ≡ sum (integer_digits w) → Fit w d
integer-fits w d h c = (
  λ e l. let n : d ≡ sum (count D w) = rw e at c in few 10 D 18 decimals (omega arith) w (decimal-every w h e) (omega arith),
  λ e l. let n : d ≡ sum (count H (drop 2 w)) = rw e at c in few 16 H 16 hexadecimals (omega arith) (drop 2 w) (hexadecimal-every w h e) (omega arith),
)

pub number_fits : (p : Profile) (s : List ℕ) (start n d : ℕ) → IsTokenWith p s start n (kind "TK_INTEGER") d → Fit (take (start + n - start) (drop start s)) d
number_fits p s start n d h =
    subst (λ (w : List ℕ). Fit w d) (sym (part-is s start n))
    (integer-fits (span s start n) d (integer-form p s start n (some-digits p s start n (kind "TK_INTEGER") d h)) (integer-sum p s start n d h))

pub part-read : (p : Profile) (s : List ℕ) (start n d : ℕ) → IsTokenWith p s start n (kind "TK_INTEGER") d → (r : Result ℤ IntegerError)
    → said_of r ≡ integer_of (take (start + n - start) (drop start s)) → ReadsInteger p s start n r
unfolding ReadsInteger
part-read p s start n d h r e = inr (some-digits p s start n (kind "TK_INTEGER") d h, e ∙ ap integer_of (part-is s start n))

-- the value of either
module _ (w : List ℕ) {a : Said} where
  pub decimal-is : is_hex w ≡ false → a ≡ up_to 9223372036854775807 (value 10 w) → a ≡ integer_of w
  unfolding integer_of
  decimal-is e h = h ∙ rw e

  pub hexadecimal-is : is_hex w ≡ true → a ≡ up_to 18446744073709551615 (value 16 (take (length w - 2) (drop 2 w))) → a ≡ integer_of w
  unfolding integer_of
  hexadecimal-is e h = h ∙ rw (e, rest-whole w)
