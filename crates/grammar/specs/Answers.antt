-- What each class of document 01 answers, as numbers. Assumes nothing.
use Rattle.std.specs.Prelude.{ℕ, suc, ◌+◌, ◌-◌, max, min, Bool, true, false, cond, ◌&&◌, ◌||◌, List, [], ◌∷◌, eqb, length, take, drop}
use Prim.Native.String.{String}
use Rattle.keywords.specs.Kinds.{kind}
use Rattle.keywords.specs.Words.{kind_in}
use Rattle.words.specs.Bytes.{is}
use Rattle.words.specs.Word.{kind_of}
use Rattle.grammar.specs.Form.{Set, D, H, no, one_of, holds}
use Rattle.grammar.specs.Classes.{Class, blank_run, line_comment, block_comment, operator, string, quoted_name, integer, float, blob, parameter}
use Rattle.grammar.specs.Classes.{word, illegal, unrecognized, bang, open_quote, open_blob, odd_blob, bad_parameter, underscore, word_after_integer}
use Rattle.grammar.specs.Classes.{word_after_fraction, no_exponent, word_after_exponent, no_hexdigit, underscore_after_x, hex_underscore, word_after_hex}
use Rattle.grammar.specs.Classes.{operators}
use Rattle.grammar.specs.Refusals.{refusal_number}

-- a token with its kind, start, length, next offset, and how many digits and underscores it has; End with its offset; or a refusal with
-- its number, span and resulting offset
pub data Answer : Type 0 where
  token : (kind start length next digits underscores : ℕ) → Answer
  end : (offset : ℕ) → Answer
  refusal : (number start length offset : ℕ) → Answer

abbrev pub is_refusal : Answer → Bool
is_refusal (token kind start length next digits underscores) = false
is_refusal (end offset) = false
is_refusal (refusal number start length offset) = true

-- past the end of the text: the empty span, and the offset as given
abbrev pub past_end : ℕ → Answer
past_end at = refusal (refusal_number "OffsetPastEnd") 0 0 at

-- how many bytes of a set w has
abbrev pub count : Set → List ℕ → ℕ
count s [] = 0
count s (b ∷ w) = cond (holds s b) (suc (count s w)) (count s w)

-- the most that a sum says, which is a number of 32 bits: so many, or more
abbrev pub most : ℕ
most = 4294967295

abbrev pub sum : ℕ → ℕ
sum n = min n most

-- an integer that begins with `0x` or `0X` has as digits the H behind that, any other its D
abbrev pub is_hex : List ℕ → Bool
is_hex [] = false
is_hex (a ∷ []) = false
is_hex (a ∷ b ∷ w) = is "0" a && (is "x" b || is "X" b)

abbrev pub integer_digits : List ℕ → ℕ
integer_digits w = cond (is_hex w) (count H (drop 2 w)) (count D w)

-- a legal lexeme w at an offset; and a number, which alone has digits and underscores
abbrev pub legal : ℕ → ℕ → List ℕ → Answer
legal k at w = token k at (length w) (at + length w) 0 0

abbrev pub numeral : ℕ → ℕ → List ℕ → ℕ → Answer
numeral k at w digits = token k at (length w) (at + length w) (sum digits) (sum (count (one_of "_") w))

-- a malformed one: its span from a place of w on, with a length; it leaves the offset at the start
abbrev pub refused : String → ℕ → ℕ → ℕ → Answer
refused name at from n = refusal (refusal_number name) (at + from) n at

abbrev pub whole : String → ℕ → List ℕ → Answer
whole name at w = refused name at 0 (length w)

-- where the first byte of a set stands in w, its length where there is none; and the place after the last one, 0 where there is none
abbrev pub first : Set → List ℕ → ℕ
first s [] = 0
first s (b ∷ w) = cond (holds s b) 0 (suc (first s w))

abbrev pub after_last : Set → List ℕ → ℕ
after_last s [] = 0
after_last s (b ∷ w) = cond (eqb (after_last s w) 0) (cond (holds s b) 1 0) (suc (after_last s w))

-- w without its last byte, a trailing S or `_`
abbrev pub init : List ℕ → List ℕ
init w = take (length w - 1) w

-- from a place of w through its end, and to before its last byte
abbrev pub to_end : String → ℕ → List ℕ → ℕ → Answer
to_end name at w from = refused name at from (length w - from)

abbrev pub to_last : String → ℕ → List ℕ → ℕ → Answer
to_last name at w from = refused name at from (length (init w) - from)

-- the answer of a class for its lexeme w at an offset
unfoldable pub answer : Class → ℕ → List ℕ → Answer
answer blank_run at w = legal (kind "TK_NONE") at w
answer line_comment at w = legal (kind "TK_NONE") at w
answer block_comment at w = legal (kind "TK_NONE") at w
answer operator at w = legal (kind_in operators w) at w
answer string at w = legal (kind "TK_STRING") at w
answer quoted_name at w = legal (kind "TK_ID") at w
answer integer at w = numeral (kind "TK_INTEGER") at w (integer_digits w)
answer float at w = numeral (kind "TK_FLOAT") at w (count D w)
answer blob at w = legal (kind "TK_BLOB") at w
answer parameter at w = legal (kind "TK_VARIABLE") at w
-- from the word list, ASCII letters folded, else TK_ID
answer word at w = legal (kind_of w) at w
answer illegal at w = legal (kind "TK_ILLEGAL") at w
-- 1, whole span; the only refusal that leaves the offset after the lexeme
answer unrecognized at w = refusal (refusal_number "UnrecognizedToken") at (length w) (at + length w)
-- `!` 7, a quote never closed 2: whole span
answer bang at w = whole "ExpectedEqualsSign" at w
answer open_quote at w = whole "UnterminatedLiteral" at w
-- a blob never closed 2, one with an odd number of H 1: whole span
answer open_blob at w = whole "UnterminatedLiteral" at w
answer odd_blob at w = whole "UnrecognizedToken" at w
-- 1, whole span
answer bad_parameter at w = whole "UnrecognizedToken" at w
-- 3, through the `_`. It begins after the previous `_` of the same digit run, else at the run's start: in both cases after the last
-- byte before that `_` that is no digit. The integer part's run starts after its first digit, hence at least 1.
answer underscore at w = to_end "BadNumber" at w (max 1 (after_last (no D) (init w)))
-- 3, the Dig only; 4, from the dot to before S
answer word_after_integer at w = to_last "BadNumber" at w 0
answer word_after_fraction at w = to_last "BadFractionalPart" at w (first (one_of ".") w)
-- 5, from `e` through the sign; 5, from `e` to before S
answer no_exponent at w = to_end "BadExponentPart" at w (first (one_of "eE") w)
answer word_after_exponent at w = to_last "BadExponentPart" at w (first (one_of "eE") w)
-- 6, (start, 2); 3, length 0 after the `x`; 3, from the last group through `_`; 3, the whole integer
answer no_hexdigit at w = refused "MalformedHexInteger" at 0 2
answer underscore_after_x at w = refused "BadNumber" at 2 0
answer hex_underscore at w = to_end "BadNumber" at w (after_last (no H) (init w))
answer word_after_hex at w = to_last "BadNumber" at w 0
