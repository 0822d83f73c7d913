-- The readings by number, and a test of each. Assumes nothing.
use Prim.Native.Nat.{ℕ}
use mathlib.Core.Path.{◌≡◌, refl, sym, ◌∙◌, ap, subst}
use mathlib.Core.Bool.{Bool, true}
use mathlib.Core.List.{List, [], ◌∷◌}
use lib.Dec.{eqb}
use lib.ListN.{get_or}
use borrow.Author.Tests.{eqb-true}
use Rattle.keywords.proofs.Logic.{and_left, every}
use Rattle.readings.specs.declared.reading.Reading.{Reading}
use Rattle.readings.specs.declared.reading.Reading.TheVariants.{Dead, Whole, Start, Run, Operator, Quoted, Named, Number}
use Rattle.readings.specs.declared.reading.Run.TheVariants.{Blanks, Word, X, Stray, Line, Block, BlockStar}
use Rattle.readings.specs.declared.reading.Operator.TheVariants.{Equals, Ampersand, Minus, Pointer, Less, Greater, Bar, Slash}
use Rattle.readings.specs.declared.reading.Quoted.TheVariants.{Quote, QuoteTwice, DoubleQuote, DoubleQuoteTwice}
use Rattle.readings.specs.declared.reading.Quoted.TheVariants.{Backtick, BacktickTwice, Bracket, Blob}
use Rattle.readings.specs.declared.reading.Named.TheVariants.{Sigil, SigilColon, Colon, At, Name, NameColon, Paren, Question}
use Rattle.readings.specs.declared.reading.Number.TheVariants.{Zero, Digits, DigitsUnderscore, DigitsDot, Dot, Fraction, E, Sign}
use Rattle.readings.specs.declared.reading.Number.TheVariants.{Exponent, ExponentUnderscore, ZeroX, Hex, HexUnderscore}
use Rattle.ahead.proofs.Each.{each_at}

abbrev pub number : Reading → ℕ
number Dead = 0
number Whole = 1
number Start = 2
number (Run Blanks) = 3
number (Run Word) = 4
number (Run X) = 5
number (Run Stray) = 6
number (Run Line) = 7
number (Run Block) = 8
number (Run BlockStar) = 9
number (Operator Equals) = 10
number (Operator Ampersand) = 11
number (Operator Minus) = 12
number (Operator Pointer) = 13
number (Operator Less) = 14
number (Operator Greater) = 15
number (Operator Bar) = 16
number (Operator Slash) = 17
number (Quoted Quote) = 18
number (Quoted QuoteTwice) = 19
number (Quoted DoubleQuote) = 20
number (Quoted DoubleQuoteTwice) = 21
number (Quoted Backtick) = 22
number (Quoted BacktickTwice) = 23
number (Quoted Bracket) = 24
number (Quoted Blob) = 25
number (Named Sigil) = 26
number (Named SigilColon) = 27
number (Named Colon) = 28
number (Named At) = 29
number (Named Name) = 30
number (Named NameColon) = 31
number (Named Paren) = 32
number (Named Question) = 33
number (Number Zero) = 34
number (Number Digits) = 35
number (Number DigitsUnderscore) = 36
number (Number DigitsDot) = 37
number (Number Dot) = 38
number (Number Fraction) = 39
number (Number E) = 40
number (Number Sign) = 41
number (Number Exponent) = 42
number (Number ExponentUnderscore) = 43
number (Number ZeroX) = 44
number (Number Hex) = 45
number (Number HexUnderscore) = 46

abbrev pub readings : List Reading
readings =
    Dead ∷ Whole ∷ Start ∷ Run Blanks ∷ Run Word ∷ Run X ∷ Run Stray ∷ Run Line ∷ Run Block ∷ Run BlockStar ∷ Operator Equals ∷
    Operator Ampersand ∷ Operator Minus ∷ Operator Pointer ∷ Operator Less ∷ Operator Greater ∷ Operator Bar ∷ Operator Slash ∷
    Quoted Quote ∷ Quoted QuoteTwice ∷ Quoted DoubleQuote ∷ Quoted DoubleQuoteTwice ∷ Quoted Backtick ∷ Quoted BacktickTwice ∷
    Quoted Bracket ∷ Quoted Blob ∷ Named Sigil ∷ Named SigilColon ∷ Named Colon ∷ Named At ∷ Named Name ∷ Named NameColon ∷ Named Paren ∷
    Named Question ∷ Number Zero ∷ Number Digits ∷ Number DigitsUnderscore ∷ Number DigitsDot ∷ Number Dot ∷ Number Fraction ∷ Number E ∷
    Number Sign ∷ Number Exponent ∷ Number ExponentUnderscore ∷ Number ZeroX ∷ Number Hex ∷ Number HexUnderscore ∷ []

at-number : (r : Reading) → get_or readings (number r) Dead ≡ r
at-number Dead = refl
at-number Whole = refl
at-number Start = refl
at-number (Run Blanks) = refl
at-number (Run Word) = refl
at-number (Run X) = refl
at-number (Run Stray) = refl
at-number (Run Line) = refl
at-number (Run Block) = refl
at-number (Run BlockStar) = refl
at-number (Operator Equals) = refl
at-number (Operator Ampersand) = refl
at-number (Operator Minus) = refl
at-number (Operator Pointer) = refl
at-number (Operator Less) = refl
at-number (Operator Greater) = refl
at-number (Operator Bar) = refl
at-number (Operator Slash) = refl
at-number (Quoted Quote) = refl
at-number (Quoted QuoteTwice) = refl
at-number (Quoted DoubleQuote) = refl
at-number (Quoted DoubleQuoteTwice) = refl
at-number (Quoted Backtick) = refl
at-number (Quoted BacktickTwice) = refl
at-number (Quoted Bracket) = refl
at-number (Quoted Blob) = refl
at-number (Named Sigil) = refl
at-number (Named SigilColon) = refl
at-number (Named Colon) = refl
at-number (Named At) = refl
at-number (Named Name) = refl
at-number (Named NameColon) = refl
at-number (Named Paren) = refl
at-number (Named Question) = refl
at-number (Number Zero) = refl
at-number (Number Digits) = refl
at-number (Number DigitsUnderscore) = refl
at-number (Number DigitsDot) = refl
at-number (Number Dot) = refl
at-number (Number Fraction) = refl
at-number (Number E) = refl
at-number (Number Sign) = refl
at-number (Number Exponent) = refl
at-number (Number ExponentUnderscore) = refl
at-number (Number ZeroX) = refl
at-number (Number Hex) = refl
at-number (Number HexUnderscore) = refl

pub same_number : (r s : Reading) → eqb (number r) (number s) ≡ true → r ≡ s
same_number r s e = sym (at-number r) ∙ ap (λ (k : ℕ). get_or readings k Dead) (eqb-true (number r) (number s) e) ∙ at-number s

-- a test that passes at every entry of that list passes at each reading
pub each-reading : (test : Reading → Bool) → every test readings ≡ true → (r : Reading) → test r ≡ true
each-reading test e r =
    subst (λ (r : Reading). test r ≡ true) (at-number r) (each_at test readings Dead (number r) (and_left (test Dead) _ e) e)
