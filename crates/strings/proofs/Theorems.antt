-- For readers. Each call has one answer and leaves one buffer. Bytes that are written and read again are the same bytes; a string of Next, or a
-- name in `"`, that is read and written again is the same text. Assumes nothing.
use Prim.Native.Nat.{ℕ}
use Prim.Native.Char.{code}
use mathlib.Core.Path.{◌≡◌, ◌∙◌}
use mathlib.Core.List.{List}
use lib.ListN.{get_or}
use borrow.Author.Tests.{ne_eqb}
use Rattle.keywords.specs.Kinds.{kind}
use Rattle.grammar.specs.declared.profile.Profile.{Profile}
use Rattle.std.specs.Prelude.{Result}
use Rattle.buffers.specs.declared.written.NoRoom.{NoRoom}
use Rattle.buffers.proofs.Theorems.{written-unique}
use Rattle.spans.specs.declared.answers.ReadError.{ReadError}
use Rattle.spans.specs.Spans.{IsToken, IsName, span}
use Rattle.spans.proofs.Theorems.{bytes-unique}
use Rattle.strings.specs.Quotes.{unquoted, doubled, quoted}
use Rattle.strings.specs.Calls.{ReadsString, ReadsName, WritesString, WritesName}
use Rattle.strings.proofs.QuoteLaws.{unquoted-between, undoubled-doubled}
use Rattle.strings.proofs.LexemeLaws as Lexemes

-- one answer, one buffer
module _ (p : Profile) (s : List ℕ) (start n : ℕ) (old new new' : List ℕ) (r q : Result ℕ ReadError) where
  pub read-string-unique : ReadsString p s start n old r new → ReadsString p s start n old q new' → (r ≡ q) × (new ≡ new')
  unfolding ReadsString
  read-string-unique f g = bytes-unique r q f g

  pub read-name-unique : ReadsName p s start n old r new → ReadsName p s start n old q new' → (r ≡ q) × (new ≡ new')
  unfolding ReadsName
  read-name-unique f g = bytes-unique r q f g

module _ (v old new new' : List ℕ) (r q : Result ℕ NoRoom) where
  pub write-string-unique : WritesString v old r new → WritesString v old q new' → (r ≡ q) × (new ≡ new')
  unfolding WritesString
  write-string-unique f g = written-unique r q f g

  pub write-name-unique : WritesName v old r new → WritesName v old q new' → (r ≡ q) × (new ≡ new')
  unfolding WritesName
  write-name-unique f g = written-unique r q f g

-- written and read again
pub read_back : (q : ℕ) (v : List ℕ) → (q ≡ code "[" → ⊥) → unquoted (quoted q v) ≡ v
unfolding quoted
read_back q v h = unquoted-between q q (doubled q v) (ne_eqb q (code "[") h) ∙ undoubled-doubled q v

-- read and written again
module _ (p : Profile) (s : List ℕ) (start n : ℕ) where
  pub string-again : IsToken p s start n (kind "TK_STRING") → quoted (code "'") (unquoted (span s start n)) ≡ span s start n
  string-again h = Lexemes.string-again p s start n h

  pub name-again : IsName p s start n → get_or s start 0 ≡ code "\"" → quoted (code "\"") (unquoted (span s start n)) ≡ span s start n
  name-again h e = Lexemes.name-again p s start n h e
