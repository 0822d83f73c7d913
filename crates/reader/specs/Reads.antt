-- What a reader owes. Assumes nothing.
use Rattle.std.specs.Prelude.{ℕ, ◌+◌, ◌≡◌, List, length, drop}
use Rattle.std.specs.Borrow.{Bor}
use Rattle.grammar.specs.declared.profile.Profile.{Profile}
use Rattle.lexer.specs.declared.lexed.Lexed.{Lexed}
use Rattle.lexer.specs.declared.lexed.Lexed.TheVariants.{Token, End, Refused}
use Rattle.lexer.specs.Values.{LexesUnder}
use Rattle.reader.specs.declared.Reader.{Reader}
use Rattle.reader.specs.declared.Read.{Read}

-- a reader begins at its text's start, under the profile given
abbrev pub begun : Bor (List ℕ) → Profile → Reader
begun text profile = record { text = text; offset = 0; profile = profile }

-- r has the bytes from an offset of the text on, none past the end. It lies in the text's memory and ends where the text ends.
pub record Remains (text : Bor (List ℕ)) (offset : ℕ) (r : Bor (List ℕ)) : Type 0 where
  pub bytes : r.now ≡ drop offset text.now
  pub block : r.ref_ptr.0 ≡ text.ref_ptr.0
  pub ends : r.ref_ptr.1 + length r.now ≡ text.ref_ptr.1 + length text.now

-- the offset that an answer leaves
abbrev pub offset_of : Lexed → ℕ
offset_of (Token kind start length next digits underscores) = next.at
offset_of (End next) = next.at
offset_of (Refused why start length next) = next.at

-- what `next` gives for a reader: the answer at its offset under its profile, and the reader at the offset that the answer leaves
pub record ReadsOn (reader : Reader) (r : Read) : Type 0 where
  pub answers : LexesUnder reader.profile reader.text.now reader.offset r.lexed
  pub same_text : r.reader.text ≡ reader.text
  pub same-profile : r.reader.profile ≡ reader.profile
  pub goes_on : r.reader.offset ≡ offset_of r.lexed
