-- Answers at an offset are those at the text's beginning, told from further off; none of them is a refusal of a stream's own. Assumes nothing.
use Prim.Native.Nat.{ℕ, ◌+◌}
use native.Mathlib.Omega.{arith}
use mathlib.Core.Path.{◌≡◌, refl, sym, ◌∙◌, ap}
use mathlib.Core.Bool.{not, true≢false}
use mathlib.Core.List.{List}
use lib.Dec.{eqb}
use lib.ListN.{length}
use Rattle.grammar.specs.Classes.{Class, blank_run, line_comment, block_comment, operator, string, quoted_name, integer, float, blob, parameter}
use Rattle.grammar.specs.Classes.{word, illegal, unrecognized, bang, open_quote, open_blob, odd_blob, bad_parameter, underscore, word_after_integer}
use Rattle.grammar.specs.Classes.{word_after_fraction, no_exponent, word_after_exponent, no_hexdigit, underscore_after_x, hex_underscore, word_after_hex}
use Rattle.grammar.specs.Answers.{Answer, token, end, refusal, answer}
use Rattle.ahead.specs.Ahead.{span_end}
use Rattle.ahead.proofs.Each.{each-class}
use Rattle.stream.specs.Calls.{shift}
use Rattle.stream.specs.Refusals.{own}

-- a token; a refusal that leaves the offset at the start; and one that leaves it behind its span
token-shift : (k at n d u : ℕ) → token k at n (at + n) d u ≡ shift at (token k 0 n (0 + n) d u)
token-shift k at n d u =
    let start : at ≡ at + 0 = omega arith in
    let next : at + n ≡ at + (0 + n) = omega arith in
    ap (λ (x : ℕ). token k x n (at + n) d u) start ∙ ap (λ (x : ℕ). token k (at + 0) n x d u) next

refused-shift : (k at from n : ℕ) → refusal k (at + from) n at ≡ shift at (refusal k (0 + from) n 0)
refused-shift k at from n =
    let start : at + from ≡ at + (0 + from) = omega arith in
    let next : at ≡ at + 0 = omega arith in
    ap (λ (x : ℕ). refusal k x n at) start ∙ ap (λ (x : ℕ). refusal k (at + (0 + from)) n x) next

passed-shift : (k at n : ℕ) → refusal k at n (at + n) ≡ shift at (refusal k 0 n (0 + n))
passed-shift k at n =
    let start : at ≡ at + 0 = omega arith in
    let next : at + n ≡ at + (0 + n) = omega arith in
    ap (λ (x : ℕ). refusal k x n (at + n)) start ∙ ap (λ (x : ℕ). refusal k (at + 0) n x) next

-- The answer of a class at an offset is its answer at 0, told from that offset on.
pub shift-answer : (c : Class) (at : ℕ) (w : List ℕ) → answer c at w ≡ shift at (answer c 0 w)
unfolding answer
shift-answer blank_run at w = token-shift _ at (length w) _ _
shift-answer line_comment at w = token-shift _ at (length w) _ _
shift-answer block_comment at w = token-shift _ at (length w) _ _
shift-answer operator at w = token-shift _ at (length w) _ _
shift-answer string at w = token-shift _ at (length w) _ _
shift-answer quoted_name at w = token-shift _ at (length w) _ _
shift-answer integer at w = token-shift _ at (length w) _ _
shift-answer float at w = token-shift _ at (length w) _ _
shift-answer blob at w = token-shift _ at (length w) _ _
shift-answer parameter at w = token-shift _ at (length w) _ _
shift-answer word at w = token-shift _ at (length w) _ _
shift-answer illegal at w = token-shift _ at (length w) _ _
shift-answer unrecognized at w = passed-shift _ at (length w)
shift-answer bang at w = refused-shift _ at _ _
shift-answer open_quote at w = refused-shift _ at _ _
shift-answer open_blob at w = refused-shift _ at _ _
shift-answer odd_blob at w = refused-shift _ at _ _
shift-answer bad_parameter at w = refused-shift _ at _ _
shift-answer underscore at w = refused-shift _ at _ _
shift-answer word_after_integer at w = refused-shift _ at _ _
shift-answer word_after_fraction at w = refused-shift _ at _ _
shift-answer no_exponent at w = refused-shift _ at _ _
shift-answer word_after_exponent at w = refused-shift _ at _ _
shift-answer no_hexdigit at w = refused-shift _ at _ _
shift-answer underscore_after_x at w = refused-shift _ at _ _
shift-answer hex_underscore at w = refused-shift _ at _ _
shift-answer word_after_hex at w = refused-shift _ at _ _

-- the place behind its span is told from there too
pub span-shift : (at : ℕ) (a : Answer) → span_end (shift at a) ≡ at + span_end a
span-shift at (token k start n next d u) = omega arith
span-shift at (end offset) = refl
span-shift at (refusal k start n offset) = omega arith

-- the number of a refusal, and 0 for any other answer
abbrev number_of : Answer → ℕ
number_of (token k start n next d u) = 0
number_of (end offset) = 0
number_of (refusal k start n offset) = k

-- No class answers that a lexeme is too long.
pub no_own : (c : Class) (at : ℕ) (w : List ℕ) → answer c at w ≡ own "LexemeTooLong" at → ⊥
unfolding answer
no_own c at w e =
    let other = each-class (λ c. not (eqb (number_of (answer c at w)) 14)) refl c in
    true≢false (sym other ∙ ap (λ (a : Answer). not (eqb (number_of a) 14)) e)
