-- Readings by number, as C has them: a stream's state is kept in numbers. Assumes nothing.
use Rattle.std.specs.Prelude.{ℕ, ◌+◌, ◌≤◌, ◌≡◌, Option, Some, None}
use Rattle.readings.specs.declared.reading.Reading.{Reading}
use Rattle.readings.specs.declared.reading.Reading.TheVariants as R
use Rattle.readings.specs.declared.reading.Run.{Run}
use Rattle.readings.specs.declared.reading.Run.TheVariants.{Blanks, Word, X, Stray, Line, Block, BlockStar}
use Rattle.readings.specs.declared.reading.Operator.{Operator}
use Rattle.readings.specs.declared.reading.Operator.TheVariants.{Equals, Ampersand, Minus, Pointer, Less, Greater, Bar, Slash}
use Rattle.readings.specs.declared.reading.Quoted.{Quoted}
use Rattle.readings.specs.declared.reading.Quoted.TheVariants.{Quote, QuoteTwice, DoubleQuote, DoubleQuoteTwice, Backtick, BacktickTwice, Bracket, Blob}
use Rattle.readings.specs.declared.reading.Named.{Named}
use Rattle.readings.specs.declared.reading.Named.TheVariants.{Sigil, SigilColon, Colon, At, Name, NameColon, Paren, Question}
use Rattle.readings.specs.declared.reading.Number.{Number}
use Rattle.readings.specs.declared.reading.Number.TheVariants.{Zero, Digits, DigitsUnderscore, DigitsDot, Dot, Fraction, E, Sign, Exponent, ExponentUnderscore, ZeroX, Hex, HexUnderscore}

abbrev pub run_number : Run → ℕ
run_number Blanks = 0
run_number Word = 1
run_number X = 2
run_number Stray = 3
run_number Line = 4
run_number Block = 5
run_number BlockStar = 6

abbrev pub operator_number : Operator → ℕ
operator_number Equals = 0
operator_number Ampersand = 1
operator_number Minus = 2
operator_number Pointer = 3
operator_number Less = 4
operator_number Greater = 5
operator_number Bar = 6
operator_number Slash = 7

abbrev pub quoted_number : Quoted → ℕ
quoted_number Quote = 0
quoted_number QuoteTwice = 1
quoted_number DoubleQuote = 2
quoted_number DoubleQuoteTwice = 3
quoted_number Backtick = 4
quoted_number BacktickTwice = 5
quoted_number Bracket = 6
quoted_number Blob = 7

abbrev pub named_number : Named → ℕ
named_number Sigil = 0
named_number SigilColon = 1
named_number Colon = 2
named_number At = 3
named_number Name = 4
named_number NameColon = 5
named_number Paren = 6
named_number Question = 7

abbrev pub number_number : Number → ℕ
number_number Zero = 0
number_number Digits = 1
number_number DigitsUnderscore = 2
number_number DigitsDot = 3
number_number Dot = 4
number_number Fraction = 5
number_number E = 6
number_number Sign = 7
number_number Exponent = 8
number_number ExponentUnderscore = 9
number_number ZeroX = 10
number_number Hex = 11
number_number HexUnderscore = 12

-- the families one behind the other
abbrev pub reading_number : Reading → ℕ
reading_number R.Dead = 0
reading_number R.Whole = 1
reading_number R.Start = 2
reading_number (R.Run x) = 3 + run_number x
reading_number (R.Operator x) = 10 + operator_number x
reading_number (R.Quoted x) = 18 + quoted_number x
reading_number (R.Named x) = 26 + named_number x
reading_number (R.Number x) = 34 + number_number x

-- which reading has a number: that one, or, from 47 on, none
abbrev pub Numbers : ℕ → Option Reading → Type 0
Numbers number (Some r) = reading_number r ≡ number
Numbers number None = 47 ≤ number
