-- From what `next` gives for the bytes that are held to the answer of a stream. Assumes nothing.
use Prim.Native.Nat.{ℕ, ◌+◌, ◌≤◌}
use native.Mathlib.Omega.{arith}
use mathlib.Core.Path.{◌≡◌, refl, ap}
use mathlib.Core.List.{List}
use lib.ListN.{length}
use Rattle.grammar.specs.declared.profile.Profile.{Profile}
use Rattle.grammar.specs.Answers.{Answer, token, end, refusal}
use Rattle.lexer.specs.declared.cursor.Cursor.{Cursor}
use Rattle.lexer.specs.declared.lexed.Refusal.{Refusal}
use Rattle.lexer.specs.declared.lexed.Lexed.TheVariants as L
use Rattle.lexer.specs.Values.{number_of, LexesUnder}
use Rattle.intake.specs.declared.state.Stream.{Stream}
use Rattle.stream.specs.declared.stream.Given.{Given}
use Rattle.stream.specs.declared.stream.Answer as A
use Rattle.stream.specs.declared.stream.Answer.TheVariants.{Token, End, Refused}
use Rattle.stream.specs.Calls.{tells, last_end, closed, passed, shift, Answers}
use Rattle.stream.proofs.Inside.{token-long, refusal-inside, end-inside}

-- what is given lies inside the bytes
module _ (p : Profile) (text : List ℕ) where
  pub token-fits : (k start n : ℕ) (next : Cursor) (d u : ℕ) → LexesUnder p text 0 (L.Token k start n next d u)
      → (start ≤ length text) × (next.at ≤ length text)
  unfolding LexesUnder
  token-fits k start n next d u h =
      let (a, b, l, m, x) = token-long p text k start n next.at d u h in
      (omega arith, omega arith)

  pub end_fits : (next : Cursor) → LexesUnder p text 0 (L.End next) → next.at ≤ length text
  unfolding LexesUnder
  end_fits next h = end-inside p text next.at h

  pub refusal-fits : (why : Refusal) (start n : ℕ) (next : Cursor) → LexesUnder p text 0 (L.Refused why start n next)
      → (start ≤ length text) × (next.at ≤ length text)
  unfolding LexesUnder
  refusal-fits why start n next h =
      let (a, b) = refusal-inside p text (number_of why) start n next.at h in
      (omega arith, b)

abbrev given : Stream → ℕ → A.Answer → Given
given s n a = record { stream = s; taken = n; answer = a }

-- told from the text's beginning
module _ (s t : Stream) (text : List ℕ) (taken last : ℕ) (e : last ≡ last_end s) where
  told : (a : Answer) → tells (shift last a) ≡ tells (shift (last_end s) a)
  told a = ap (λ (k : ℕ). tells (shift k a)) e

  pub token-answers : (k start n : ℕ) (next : Cursor) (d u : ℕ) → LexesUnder s.profile text 0 (L.Token k start n next d u) → t ≡ passed s n
      → Answers s text taken (given t taken (Token k (last + start) n (last + next.at) d u))
  unfolding LexesUnder
  token-answers k start n next d u h l =
      record { next = token k start n next.at d u; gives = h; left = l; taken = refl; told = told (token k start n next.at d u) }

  pub end-answers : (next : Cursor) → LexesUnder s.profile text 0 (L.End next) → t ≡ closed s
      → Answers s text taken (given t taken (End (last + next.at)))
  unfolding LexesUnder
  end-answers next h l = record { next = end next.at; gives = h; left = l; taken = refl; told = told (end next.at) }

  pub refusal-answers : (why : Refusal) (start n : ℕ) (next : Cursor) → LexesUnder s.profile text 0 (L.Refused why start n next) → t ≡ closed s
      → Answers s text taken (given t taken (Refused why (last + start) n (last + next.at)))
  unfolding LexesUnder
  refusal-answers why start n next h l =
      let a = refusal (number_of why) start n next.at in
      record { next = a; gives = h; left = l; taken = refl; told = told a }
