-- Where a byte leads from a reading: the arrows of each, of which the first that fits is taken; without one it leads to Dead. Assumes
-- nothing.
use Rattle.std.specs.Prelude.{ℕ, Bool, true, false, not, cond, List, [], ◌∷◌}
use Rattle.grammar.specs.declared.profile.Profile.{Profile}
use Rattle.grammar.specs.Form.{Set, D, H, S, C, blank, no, ◌or◌, any, one_of, holds}
use Rattle.grammar.specs.Classes.{U, by}
use Rattle.grammar.specs.Runs.{char}
use Rattle.readings.specs.declared.reading.Reading.{Reading}
use Rattle.readings.specs.declared.reading.Reading.TheVariants.{Dead, Whole, Start, Run, Operator, Quoted, Named, Number}
use Rattle.readings.specs.declared.reading.Run as R
use Rattle.readings.specs.declared.reading.Run.TheVariants.{Blanks, Word, X, Stray, Line, Block, BlockStar}
use Rattle.readings.specs.declared.reading.Operator as O
use Rattle.readings.specs.declared.reading.Operator.TheVariants.{Equals, Ampersand, Minus, Pointer, Less, Greater, Bar, Slash}
use Rattle.readings.specs.declared.reading.Quoted as Q
use Rattle.readings.specs.declared.reading.Quoted.TheVariants.{Quote, QuoteTwice, DoubleQuote, DoubleQuoteTwice}
use Rattle.readings.specs.declared.reading.Quoted.TheVariants.{Backtick, BacktickTwice, Bracket, Blob}
use Rattle.readings.specs.declared.reading.Named as N
use Rattle.readings.specs.declared.reading.Named.TheVariants.{Sigil, SigilColon, Colon, At, Name, NameColon, Paren, Question}
use Rattle.readings.specs.declared.reading.Number as M
use Rattle.readings.specs.declared.reading.Number.TheVariants.{Zero, Digits, DigitsUnderscore, DigitsDot, Dot, Fraction, E, Sign}
use Rattle.readings.specs.declared.reading.Number.TheVariants.{Exponent, ExponentUnderscore, ZeroX, Hex, HexUnderscore}

pub record Arrow : Type 0 where
  pub on : Set
  pub to : Reading

infix 75 ◌to◌
abbrev pub ◌to◌ : Set → Reading → Arrow
t to r = record { on = t; to = r }

abbrev pub follow : List Arrow → ℕ → Reading
follow [] b = Dead
follow (x ∷ l) b = let more = follow l b in cond (holds x.on b) x.to more

-- from the start by a byte that is no blank, letter or digit; of four of these the profile decides what they begin
abbrev pub mark : Profile → List Arrow
mark p =
    char "." to Number Dot ∷ char "-" to Operator Minus ∷ char "/" to Operator Slash ∷ one_of "=!" to Operator Equals ∷
    char "<" to Operator Less ∷ char ">" to Operator Greater ∷ char "|" to Operator Bar ∷
    char "'" to Quoted Quote ∷ char "\"" to Quoted DoubleQuote ∷ char "`" to Quoted Backtick ∷
    char "$" to Named Sigil ∷ char "?" to Named Question ∷
    char "&" to by p (Operator Ampersand) Whole ∷ char "@" to by p (Named At) (Named Sigil) ∷
    char ":" to by p (Named Colon) (Named Sigil) ∷ char "[" to by p Whole (Quoted Bracket) ∷
    U to Run Stray ∷ any to Whole ∷ []

-- from the start
abbrev pub first : Profile → List Arrow
first p =
    blank to Run Blanks ∷ one_of "xX" to Run X ∷ S or char "#" to Run Word ∷ char "0" to Number Zero ∷ D to Number Digits ∷ mark p

abbrev pub in_run : R.Run → List Arrow
in_run Blanks = blank to Run Blanks ∷ []
in_run Word = C to Run Word ∷ []
in_run X = char "'" to Quoted Blob ∷ C to Run Word ∷ []
in_run Stray = no blank to Run Stray ∷ []
in_run Line = char "\n" to Whole ∷ any to Run Line ∷ []
in_run Block = char "*" to Run BlockStar ∷ any to Run Block ∷ []
in_run BlockStar = char "/" to Whole ∷ char "*" to Run BlockStar ∷ any to Run Block ∷ []

abbrev pub in_operator : O.Operator → List Arrow
in_operator Equals = char "=" to Whole ∷ []
in_operator Ampersand = char "&" to Whole ∷ []
in_operator Minus = char "-" to Run Line ∷ char ">" to Operator Pointer ∷ []
in_operator Pointer = char ">" to Whole ∷ []
in_operator Less = one_of "<=>" to Whole ∷ []
in_operator Greater = one_of "=>" to Whole ∷ []
in_operator Bar = char "|" to Whole ∷ []
in_operator Slash = char "*" to Run Block ∷ []

abbrev pub in_quoted : Q.Quoted → List Arrow
in_quoted Quote = char "'" to Quoted QuoteTwice ∷ any to Quoted Quote ∷ []
in_quoted QuoteTwice = char "'" to Quoted Quote ∷ []
in_quoted DoubleQuote = char "\"" to Quoted DoubleQuoteTwice ∷ any to Quoted DoubleQuote ∷ []
in_quoted DoubleQuoteTwice = char "\"" to Quoted DoubleQuote ∷ []
in_quoted Backtick = char "`" to Quoted BacktickTwice ∷ any to Quoted Backtick ∷ []
in_quoted BacktickTwice = char "`" to Quoted Backtick ∷ []
in_quoted Bracket = char "]" to Whole ∷ any to Quoted Bracket ∷ []
in_quoted Blob = char "'" to Whole ∷ H to Quoted Blob ∷ []

abbrev pub in_named : N.Named → List Arrow
in_named Sigil = C to Named Name ∷ char ":" to Named SigilColon ∷ []
in_named SigilColon = char ":" to Named Sigil ∷ []
in_named Colon = S to Named Name ∷ char ":" to Named SigilColon ∷ []
in_named At = char ">" to Whole ∷ C to Named Name ∷ char ":" to Named SigilColon ∷ []
in_named Name = C to Named Name ∷ char ":" to Named NameColon ∷ char "(" to Named Paren ∷ []
in_named NameColon = char ":" to Named Name ∷ []
in_named Paren = char ")" to Whole ∷ no blank to Named Paren ∷ []
in_named Question = D to Named Question ∷ []

abbrev pub in_digits : List Arrow
in_digits =
    D to Number Digits ∷ char "." to Number DigitsDot ∷ char "_" to Number DigitsUnderscore ∷ one_of "eE" to Number E ∷ S to Whole ∷ []

-- behind `e` or its sign
abbrev pub at_exponent : Profile → List Arrow
at_exponent p = D to Number Exponent ∷ char "_" to by p (Number ExponentUnderscore) Dead ∷ []

abbrev pub in_number : Profile → M.Number → List Arrow
in_number p Zero = one_of "xX" to Number ZeroX ∷ in_digits
in_number p Digits = in_digits
in_number p DigitsUnderscore = D to Number Digits ∷ []
in_number p DigitsDot = D to Number Fraction ∷ one_of "eE" to Number E ∷ []
in_number p Dot = D to Number Fraction ∷ []
in_number p Fraction = D to Number Fraction ∷ char "_" to Number Dot ∷ one_of "eE" to Number E ∷ S to Whole ∷ []
in_number p E = one_of "+-" to Number Sign ∷ at_exponent p
in_number p Sign = at_exponent p
in_number p Exponent = D to Number Exponent ∷ char "_" to Number ExponentUnderscore ∷ S to Whole ∷ []
in_number p ExponentUnderscore = D to Number Exponent ∷ []
in_number p ZeroX = H to Number Hex ∷ char "_" to Whole ∷ []
in_number p Hex = H to Number Hex ∷ char "_" to Number HexUnderscore ∷ S to Whole ∷ []
in_number p HexUnderscore = H to Number Hex ∷ []

abbrev pub arrows : Profile → Reading → List Arrow
arrows p Dead = []
arrows p Whole = []
arrows p Start = first p
arrows p (Run r) = in_run r
arrows p (Operator r) = in_operator r
arrows p (Quoted r) = in_quoted r
arrows p (Named r) = in_named r
arrows p (Number r) = in_number p r

-- the reading behind one byte more, and that of a text
unfoldable pub onward : Profile → Reading → ℕ → Reading
onward p r b = follow (arrows p r) b

abbrev pub onwards : Profile → Reading → List ℕ → Reading
onwards p r [] = r
onwards p r (b ∷ w) = onwards p (onward p r b) w

abbrev pub reading : Profile → List ℕ → Reading
reading p w = onwards p Start w

-- one colon of a pair was read last
abbrev pub is_half : N.Named → Bool
is_half Sigil = false
is_half SigilColon = true
is_half Colon = false
is_half At = false
is_half Name = false
is_half NameColon = true
is_half Paren = false
is_half Question = false

-- what was read is a lexeme
unfoldable pub is_lexeme : Reading → Bool
is_lexeme Dead = false
is_lexeme Whole = true
is_lexeme Start = false
is_lexeme (Run r) = true
is_lexeme (Operator r) = true
is_lexeme (Quoted r) = true
is_lexeme (Named r) = not (is_half r)
is_lexeme (Number r) = true

-- nothing longer is one
unfoldable pub is_settled : Reading → Bool
is_settled Dead = true
is_settled Whole = true
is_settled Start = false
is_settled (Run r) = false
is_settled (Operator r) = false
is_settled (Quoted r) = false
is_settled (Named r) = false
is_settled (Number r) = false
