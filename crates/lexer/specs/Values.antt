-- What each case of an answer of `next` says, in document 01's numbers, and what `next` owes. Assumes nothing.
use Rattle.std.specs.Prelude.{ℕ, List}
use Rattle.grammar.specs.declared.profile.Profile.{Profile}
use Rattle.grammar.specs.declared.profile.Profile.TheVariants.{Turso}
use Rattle.grammar.specs.Classes.{rules}
use Rattle.grammar.specs.Refusals.{refusal_number}
use Rattle.grammar.specs.Answers.{Answer, token, end, refusal}
use Rattle.grammar.specs.Longest.{Gives}
use Rattle.lexer.specs.declared.lexed.Refusal.{Refusal}
use Rattle.lexer.specs.declared.lexed.Refusal.TheVariants.{UnrecognizedToken, UnterminatedLiteral, BadNumber, BadFractionalPart}
use Rattle.lexer.specs.declared.lexed.Refusal.TheVariants.{BadExponentPart, MalformedHexInteger, ExpectedEqualsSign, OffsetPastEnd}
use Rattle.lexer.specs.declared.lexed.Lexed.{Lexed}
use Rattle.lexer.specs.declared.lexed.Lexed.TheVariants.{Token, End, Refused}

-- a refusal's number
abbrev pub number_of : Refusal → ℕ
number_of UnrecognizedToken = refusal_number "UnrecognizedToken"
number_of UnterminatedLiteral = refusal_number "UnterminatedLiteral"
number_of BadNumber = refusal_number "BadNumber"
number_of BadFractionalPart = refusal_number "BadFractionalPart"
number_of BadExponentPart = refusal_number "BadExponentPart"
number_of MalformedHexInteger = refusal_number "MalformedHexInteger"
number_of ExpectedEqualsSign = refusal_number "ExpectedEqualsSign"
number_of OffsetPastEnd = refusal_number "OffsetPastEnd"

-- an answer's values; the offset is where its cursor stands
abbrev pub values_of : Lexed → Answer
values_of (Token kind start length next digits underscores) = token kind start length next.at digits underscores
values_of (End next) = end next.at
values_of (Refused why start length next) = refusal (number_of why) start length next.at

-- the answer r is what Next gives under the profile at an offset of the text
unfoldable pub LexesUnder : Profile → List ℕ → ℕ → Lexed → Type 0
LexesUnder p s at r = Gives (rules p) s at (values_of r)

-- what it gives under document 01's: owed by the private functions whose lexemes are the same under both
abbrev pub Lexes : List ℕ → ℕ → Lexed → Type 0
Lexes = LexesUnder Turso
