-- What the calls that read and write strings and quoted names owe. Assumes nothing.
use Rattle.std.specs.Prelude.{ℕ, List, Result}
use Prim.Native.Char.{code}
use Rattle.keywords.specs.Kinds.{kind}
use Rattle.grammar.specs.declared.profile.Profile.{Profile}
use Rattle.buffers.specs.Buffers as Buffers
use Rattle.buffers.specs.Buffers.{Fills}
use Rattle.buffers.specs.declared.written.NoRoom.{NoRoom}
use Rattle.spans.specs.Spans.{IsToken, IsName, span, said_of, ReadsBytes}
use Rattle.spans.specs.declared.answers.ReadError.{ReadError}
use Rattle.strings.specs.Quotes.{unquoted, quoted}

-- a span, under a profile, with the buffer before and afterwards
unfoldable pub ReadsString : Profile → List ℕ → ℕ → ℕ → List ℕ → Result ℕ ReadError → List ℕ → Type 0
ReadsString p s start n old r new = ReadsBytes (IsToken p s start n (kind "TK_STRING")) (unquoted (span s start n)) old (said_of r) new

unfoldable pub ReadsName : Profile → List ℕ → ℕ → ℕ → List ℕ → Result ℕ ReadError → List ℕ → Type 0
ReadsName p s start n old r new = ReadsBytes (IsName p s start n) (unquoted (span s start n)) old (said_of r) new

-- bytes to a string, or to a name
unfoldable pub WritesString : List ℕ → List ℕ → Result ℕ NoRoom → List ℕ → Type 0
WritesString v old r new = Fills (quoted (code "'") v) old (Buffers.said_of r) new

unfoldable pub WritesName : List ℕ → List ℕ → Result ℕ NoRoom → List ℕ → Type 0
WritesName v old r new = Fills (quoted (code "\"") v) old (Buffers.said_of r) new
