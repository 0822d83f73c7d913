-- What the calls that read and write blobs owe. Assumes nothing.
use Rattle.std.specs.Prelude.{ℕ, List, Result}
use Rattle.keywords.specs.Kinds.{kind}
use Rattle.grammar.specs.declared.profile.Profile.{Profile}
use Rattle.buffers.specs.Buffers as Buffers
use Rattle.buffers.specs.Buffers.{Fills}
use Rattle.buffers.specs.declared.written.NoRoom.{NoRoom}
use Rattle.spans.specs.Spans.{IsToken, span, said_of, ReadsBytes}
use Rattle.spans.specs.declared.answers.ReadError.{ReadError}
use Rattle.blobs.specs.Blobs.{blob_bytes, blob_literal}

-- a span, under a profile, with the buffer before and afterwards
unfoldable pub ReadsBlob : Profile → List ℕ → ℕ → ℕ → List ℕ → Result ℕ ReadError → List ℕ → Type 0
ReadsBlob p s start n old r new = ReadsBytes (IsToken p s start n (kind "TK_BLOB")) (blob_bytes (span s start n)) old (said_of r) new

-- bytes to a blob
unfoldable pub WritesBlob : List ℕ → List ℕ → Result ℕ NoRoom → List ℕ → Type 0
WritesBlob v old r new = Fills (blob_literal v) old (Buffers.said_of r) new
