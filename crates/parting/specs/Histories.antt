-- The calls made of a stream, one behind the other, and what they say in all. Assumes nothing.
use Rattle.std.specs.Prelude.{ℕ, ◌+◌, ◌≤◌, ◌<◌, ◌≡◌, Bool, true, false, cond, List, [], ◌∷◌, ◌++◌, ◌⊎◌, eqb, length, take}
use Rattle.grammar.specs.declared.profile.Profile.{Profile}
use Rattle.grammar.specs.Answers.{Answer, token, end, refusal}
use Rattle.grammar.specs.Longest.{Every, source}
use Rattle.walks.specs.Walk.{Legal, Goes, Passes}
use Rattle.intake.specs.declared.state.Stream.{Stream}
use Rattle.stream.specs.declared.stream.Given.{Given}
use Rattle.stream.specs.Refusals.{stream_refusal, own}
use Rattle.intake.specs.Takes.{limit}
use Rattle.parting.specs.Means.{Says, Settled, Open}
use Rattle.stream.specs.Calls.{Told, more, tells, values_of, Offered, Finished}

-- What an offer tells, when n bytes of the part were taken behind the text s: of fewer bytes something to come would alter the answer. More
-- is wanted where the whole part is taken and something to come would alter it still; else it is settled, and said.
pub record Offers (p : Profile) (s : List ℕ) (at : ℕ) (part : List ℕ) (n : ℕ) (told : Told) : Type 0 where
  pub inside : n ≤ length part
  pub before : (i : ℕ) → i < n → Open p (s ++ take i part) at
  pub told-so :
      ((told ≡ more) × (n ≡ length part) × Open p (s ++ take n part) at) ⊎
      ((a : Answer) × (told ≡ tells a) × Settled p (s ++ take n part) at × Says p (s ++ take n part) at a)

pub data Call : Type 0 where
  offer : List ℕ → Call
  finish : Call

-- a call with what it gave, and the row afterwards
pub record Event : Type 0 where
  pub call : Call
  pub given : Given
  pub row : List ℕ

abbrev pub Made : Call → Stream → List ℕ → Given → List ℕ → Type 0
Made (offer part) s row g new = Offered s row part g new
Made finish s row g new = Finished s row g new

-- calls from a state and a row on, each with the stream and the row that the one before left
unfoldable pub Calls : Stream → List ℕ → List Event → Type 0
Calls s row [] = Unit {0}
Calls s row (e ∷ l) = Made e.call s row e.given e.row × Calls e.given.stream e.row l

-- the stream that they leave, and the row
unfoldable pub stream_after : Stream → List Event → Stream
stream_after s [] = s
stream_after s (e ∷ l) = stream_after e.given.stream l

unfoldable pub row_after : List ℕ → List Event → List ℕ
row_after row [] = row
row_after row (e ∷ l) = row_after e.row l

-- the bytes that they took
abbrev pub taken_by : Call → ℕ → List ℕ
taken_by (offer part) n = take n part
taken_by finish n = []

unfoldable pub taken : List Event → List ℕ
taken [] = []
taken (e ∷ l) = taken_by e.call e.given.taken ++ taken l

-- the tokens that they gave
abbrev pub token_in : Told → List Legal
token_in more = []
token_in (tells (token kind start n next digits underscores)) =
    record { kind = kind; start = start; length = n; digits = digits; underscores = underscores } ∷ []
token_in (tells (end offset)) = []
token_in (tells (refusal number start n offset)) = []

unfoldable pub tokens : List Event → List Legal
tokens [] = []
tokens (e ∷ l) = token_in (values_of e.given.answer) ++ tokens l

-- End, and the refusals but for Closed
abbrev pub closing_in : Told → List Answer
closing_in more = []
closing_in (tells (token kind start n next digits underscores)) = []
closing_in (tells (end offset)) = end offset ∷ []
closing_in (tells (refusal number start n offset)) = cond (eqb number (stream_refusal "Closed")) [] (refusal number start n offset ∷ [])

unfoldable pub closings : List Event → List Answer
closings [] = []
closings (e ∷ l) = closing_in (values_of e.given.answer) ++ closings l

-- where the token given last ends; 0 before any
unfoldable pub end_of : ℕ → List Legal → ℕ
end_of at [] = at
end_of at (t ∷ l) = end_of (t.start + t.length) l

abbrev pub last_of : List Event → ℕ
last_of l = end_of 0 (tokens l)

-- a walk of Next passes the tokens that are no longer than a stream takes
abbrev pub Short : Goes
Short before t = t.length ≤ limit

-- What was told is what Next gives, walked over the text from its beginning: the tokens, and behind them End or the first refusal, that of a
-- lexeme over the limit at its start; or that a part was too long; or nothing yet.
pub record Walked (p : Profile) (s : List ℕ) (l : List Event) : Type 0 where
  pub passes : Passes Short (source p s) [] 0 (tokens l) (last_of l)
  pub ends : (closings l ≡ []) ⊎ ((a : Answer) × (closings l ≡ a ∷ []) × (Says p s (last_of l) a ⊎ (a ≡ own "TooLong" (last_of l))))

-- no finish call was made
abbrev pub is_offer : Call → Bool
is_offer (offer part) = true
is_offer finish = false

abbrev pub Unfinished : List Event → Type 0
Unfinished l = Every (λ e. is_offer e.call ≡ true) l
