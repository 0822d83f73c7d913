-- What the calls that read and write integers owe. Assumes nothing.
use Rattle.std.specs.Prelude.{ℕ, List, ℤ, Result, Ok, Err}
use Rattle.keywords.specs.Kinds.{kind}
use Rattle.grammar.specs.declared.profile.Profile.{Profile}
use Rattle.buffers.specs.Buffers as Buffers
use Rattle.buffers.specs.declared.written.NoRoom.{NoRoom}
use Rattle.buffers.specs.Buffers.{Said, valued, refused_as, Fills}
use Rattle.spans.specs.Spans.{IsToken, span, Reads}
use Rattle.integers.specs.Integers.{integer_of, integer_literal}
use Rattle.integers.specs.declared.reading.IntegerError.{IntegerError}
use Rattle.integers.specs.declared.reading.IntegerError.TheVariants.{NotThatLiteral, OutOfRange}

-- what a call that reads an integer answers
abbrev pub said_of : Result ℤ IntegerError → Said
said_of (Ok v) = valued v
said_of (Err NotThatLiteral) = refused_as "NotThatLiteral"
said_of (Err OutOfRange) = refused_as "OutOfRange"

-- of a span, under a profile
unfoldable pub ReadsInteger : Profile → List ℕ → ℕ → ℕ → Result ℤ IntegerError → Type 0
ReadsInteger p s start n r = Reads (IsToken p s start n (kind "TK_INTEGER")) (integer_of (span s start n)) (said_of r)

-- into a buffer, before and afterwards
unfoldable pub WritesInteger : ℤ → List ℕ → Result ℕ NoRoom → List ℕ → Type 0
WritesInteger v old r new = Fills (integer_literal v) old (Buffers.said_of r) new
