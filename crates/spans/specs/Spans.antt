-- A span of a text that is a token, and what the calls that read one owe. Assumes nothing.
use Rattle.std.specs.Prelude.{ℕ, ◌+◌, ◌≡◌, Bool, true, List, ◌⊎◌, get_or, take, drop, Option, Some, None, Result, Ok, Err}
use Rattle.keywords.specs.Kinds.{kind}
use Rattle.grammar.specs.Form.{one_of, holds}
use Rattle.grammar.specs.Classes.{by}
use Rattle.grammar.specs.declared.profile.Profile.{Profile}
use Rattle.grammar.specs.Answers.{token}
use Rattle.grammar.specs.Longest.{source, Next}
use Rattle.buffers.specs.Buffers.{Said, refused_as, filled, Fills}
use Rattle.spans.specs.declared.answers.ReadError.{ReadError}
use Rattle.spans.specs.declared.answers.ReadError.TheVariants.{NotThatLiteral, NoRoom}

-- the span's bytes
abbrev pub span : List ℕ → ℕ → ℕ → List ℕ
span s start n = take n (drop start s)

-- the span is exactly what Next gives at its start, of that kind, with so many digits; and with any number of them
unfoldable pub IsTokenWith : Profile → List ℕ → ℕ → ℕ → ℕ → ℕ → Type 0
IsTokenWith p s start n k digits = (underscores : ℕ) × Next (source p s) start (token k start n (start + n) digits underscores)

unfoldable pub IsToken : Profile → List ℕ → ℕ → ℕ → ℕ → Type 0
IsToken p s start n k = (digits : ℕ) × IsTokenWith p s start n k digits

-- what opens a quoted name; 7: `[` too. No bare word begins so.
unfoldable pub is_quote : Profile → ℕ → Bool
is_quote p b = holds (by p (one_of "\"`") (one_of "\"`[")) b

unfoldable pub IsName : Profile → List ℕ → ℕ → ℕ → Type 0
IsName p s start n = IsToken p s start n (kind "TK_ID") × (is_quote p (get_or s start 0) ≡ true)

-- which of the two a search says
abbrev pub Finds : Profile → List ℕ → ℕ → ℕ → ℕ → Option ℕ → Type 0
Finds p s start n k (Some digits) = IsTokenWith p s start n k digits
Finds p s start n k None = IsToken p s start n k → ⊥

-- the span is not that literal, or it is, and this is its value
abbrev pub Reads : Type 0 → Said → Said → Type 0
Reads That v said = ((That → ⊥) × (said ≡ refused_as "NotThatLiteral")) ⊎ (That × (said ≡ v))

-- the span is not that literal, and the buffer is untouched; or it is, and its bytes fill the buffer
abbrev pub ReadsBytes : Type 0 → List ℕ → List ℕ → Said → List ℕ → Type 0
ReadsBytes That v old said new = ((That → ⊥) × (said ≡ refused_as "NotThatLiteral") × (new ≡ old)) ⊎ (That × Fills v old said new)

-- what a call that reads bytes answers
abbrev pub said_of : Result ℕ ReadError → Said
said_of (Ok n) = filled n
said_of (Err NotThatLiteral) = refused_as "NotThatLiteral"
said_of (Err NoRoom) = refused_as "NoRoom"
