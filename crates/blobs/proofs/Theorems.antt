-- For readers. Each call has one answer and leaves one buffer. Bytes that are written and read again are the same bytes; a blob of Next that is
-- as the calls write it, read and written again, is the same text. Assumes nothing.
use Prim.Native.Nat.{ℕ}
use mathlib.Core.Path.{◌≡◌, ◌∙◌}
use mathlib.Core.Bool.{true}
use mathlib.Core.List.{List}
use lib.Pow.{are_bytes}
use Rattle.keywords.specs.Kinds.{kind}
use Rattle.grammar.specs.declared.profile.Profile.{Profile}
use Rattle.std.specs.Prelude.{Result}
use Rattle.buffers.specs.declared.written.NoRoom.{NoRoom}
use Rattle.buffers.proofs.Theorems.{written-unique}
use Rattle.spans.specs.declared.answers.ReadError.{ReadError}
use Rattle.spans.specs.Spans.{IsToken, span}
use Rattle.spans.proofs.Theorems.{bytes-unique}
use Rattle.blobs.specs.Blobs.{blob_bytes, hexed, blob_literal}
use Rattle.blobs.specs.Calls.{ReadsBlob, WritesBlob}
use Rattle.blobs.proofs.BlobLaws.{blob-between, pairs-hexed}
use Rattle.blobs.proofs.LexemeLaws as Lexemes
use Rattle.blobs.proofs.LexemeLaws.{as_written}

-- one answer, one buffer
pub read-blob-unique : (p : Profile) (s : List ℕ) (start n : ℕ) (old new new' : List ℕ) (r q : Result ℕ ReadError)
    → ReadsBlob p s start n old r new → ReadsBlob p s start n old q new' → (r ≡ q) × (new ≡ new')
unfolding ReadsBlob
read-blob-unique p s start n old new new' r q f g = bytes-unique r q f g

pub write-blob-unique : (v old new new' : List ℕ) (r q : Result ℕ NoRoom) → WritesBlob v old r new → WritesBlob v old q new' → (r ≡ q) × (new ≡ new')
unfolding WritesBlob
write-blob-unique v old new new' r q f g = written-unique r q f g

-- written and read again
pub read_back : (v : List ℕ) → are_bytes v ≡ true → blob_bytes (blob_literal v) ≡ v
unfolding blob_literal
read_back v h = blob-between 120 (hexed v) ∙ pairs-hexed v h

-- read and written again: small `x`, and H that are digits or capitals
pub blob-again : (p : Profile) (s : List ℕ) (start n : ℕ) → IsToken p s start n (kind "TK_BLOB") → as_written (span s start n) ≡ true
    → blob_literal (blob_bytes (span s start n)) ≡ span s start n
blob-again p s start n h t = Lexemes.blob-again p s start n h t
