-- Which answer of a stream has the part offered again. Assumes nothing.
use Rattle.std.specs.Prelude.{Bool, true, false}
use Rattle.stream.specs.declared.stream.Answer as A
use Rattle.stream.specs.declared.stream.Answer.TheVariants.{Token, More, End, Refused, Closed, TooLong, LexemeTooLong}

abbrev pub is_token : A.Answer → Bool
is_token (Token kind start length next digits underscores) = true
is_token More = false
is_token (End next) = false
is_token (Refused why start length next) = false
is_token (Closed next) = false
is_token (TooLong next) = false
is_token (LexemeTooLong next) = false
