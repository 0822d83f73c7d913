-- What the calls of a stream owe, for every state and row. Assumes nothing.
use Rattle.std.specs.Prelude.{ℕ, ◌+◌, ◌-◌, ◌≡◌, Bool, true, false, cond, List, ltb, length}
use Prim.Native.String.{String}
use Rattle.grammar.specs.declared.profile.Profile.{Profile}
use Rattle.grammar.specs.Classes.{rules}
use Rattle.grammar.specs.Answers.{Answer, token, end, refusal}
use Rattle.grammar.specs.Longest.{Gives}
use Rattle.lexer.specs.Values.{number_of}
use Rattle.readings.specs.declared.reading.Reading.{Reading}
use Rattle.readings.specs.declared.reading.Reading.TheVariants.{Start}
use Rattle.intake.specs.declared.state.Phase.{Phase}
use Rattle.intake.specs.declared.state.Phase.TheVariants.{Open, Ending, Closed}
use Rattle.intake.specs.declared.state.Stream.{Stream}
use Rattle.stream.specs.declared.stream.Given.{Given}
use Rattle.stream.specs.declared.stream.Answer as A
use Rattle.stream.specs.declared.stream.Answer.TheVariants.{Token, More, End, Refused, Closed as Shut, TooLong, LexemeTooLong}
use Rattle.stream.specs.Refusals.{own}
use Rattle.intake.specs.Takes.{is_over, front, waiting, taken_of, text_of, read_then, ready_then}

-- what an answer says: that more is wanted, or an answer in document 01's numbers
pub data Told : Type 0 where
  more : Told
  tells : Answer → Told

abbrev pub values_of : A.Answer → Told
values_of (Token kind start length next digits underscores) = tells (token kind start length next digits underscores)
values_of More = more
values_of (End next) = tells (end next)
values_of (Refused why start length next) = tells (refusal (number_of why) start length next)
values_of (Shut next) = tells (own "Closed" next)
values_of (TooLong next) = tells (own "TooLong" next)
values_of (LexemeTooLong next) = tells (own "LexemeTooLong" next)

-- the most bytes that a stream takes
abbrev pub most : ℕ
most = 4294967295

-- a stream before its first part
abbrev pub begun : Profile → Stream
begun p = record { profile = p; reading = Start; phase = Open; given = 0; held = 0; total = 0 }

-- where the token given last ends: so many bytes were taken, but for those held behind it
unfoldable pub last_end : Stream → ℕ
last_end s = s.total - (s.held - s.given)

-- closed a stream keeps all but its phase
abbrev pub closed : Stream → Stream
closed s = record { profile = s.profile; reading = s.reading; phase = Closed; given = s.given; held = s.held; total = s.total }

-- behind a token, whose bytes stay at the row's front
abbrev pub passed : Stream → ℕ → Stream
passed s n = record { profile = s.profile; reading = Start; phase = s.phase; given = n; held = s.held; total = s.total }

-- when n bytes more were taken, so that h are held, with their reading; and when no part comes any more
abbrev pub holding : Stream → Reading → ℕ → ℕ → Stream
holding s r h n = record { profile = s.profile; reading = r; phase = s.phase; given = 0; held = h; total = s.total + n }

abbrev pub ended : Stream → ℕ → Stream
ended s h = record { profile = s.profile; reading = s.reading; phase = Ending; given = 0; held = h; total = s.total }

-- a refusal of the stream's own: the stream that it leaves, how many bytes were taken
pub record Refuses (s : Stream) (n : ℕ) (name : String) (g : Given) : Type 0 where
  pub left : g.stream ≡ s
  pub taken : g.taken ≡ n
  pub told : values_of g.answer ≡ tells (own name (last_end s))

-- an answer at the row's front, told from the text's beginning
abbrev pub shift : ℕ → Answer → Answer
shift last (token kind start n next digits underscores) = token kind (last + start) n (last + next) digits underscores
shift last (end offset) = end (last + offset)
shift last (refusal number start n offset) = refusal number (last + start) n (last + offset)

-- a token is passed; End and a refusal close the stream
abbrev pub after : Stream → Answer → Stream
after s (token kind start n next digits underscores) = passed s n
after s (end offset) = closed s
after s (refusal number start n offset) = closed s

-- what Next gives for the bytes that are held
pub record Answers (s : Stream) (text : List ℕ) (n : ℕ) (g : Given) : Type 0 where
  pub next : Answer
  pub gives : Gives (rules s.profile) text 0 next
  pub left : g.stream ≡ after s next
  pub taken : g.taken ≡ n
  pub told : values_of g.answer ≡ tells (shift (last_end s) next)

-- more is wanted
pub record Wants (s : Stream) (n : ℕ) (g : Given) : Type 0 where
  pub left : g.stream ≡ s
  pub taken : g.taken ≡ n
  pub told : values_of g.answer ≡ more

-- The courses that a call can take.
pub data Course : Type 0 where
  refuse_closed : Course
  refuse_part : Course
  ask_more : Course
  refuse_lexeme : Course
  lex : Course

abbrev pub is_open : Phase → Bool
is_open Open = true
is_open Ending = false
is_open Closed = false

abbrev pub is_closed : Phase → Bool
is_closed Open = false
is_closed Ending = false
is_closed Closed = true

-- of an offer, in the order of the refusals; of a finish call
abbrev pub offering : Stream → List ℕ → List ℕ → Course
offering s row part =
    let over = is_over (read_then s row part) (length (text_of s row part)) in
    let taking = cond (ready_then s row part) (cond over refuse_lexeme lex) ask_more in
    let allowed = cond (ltb (most - s.total) (length part)) refuse_part taking in
    cond (is_open s.phase) allowed refuse_closed

abbrev pub finishing : Stream → Course
finishing s = cond (is_closed s.phase) refuse_closed lex

-- what a course gives, and the row afterwards: with the stream before, the stream, the text that is held and the bytes taken then
abbrev pub Goes : Course → Stream → Stream → List ℕ → ℕ → List ℕ → Given → List ℕ → Type 0
Goes refuse_closed s m text n row g new = Refuses s 0 "Closed" g × (new ≡ row)
Goes refuse_part s m text n row g new = Refuses (closed s) 0 "TooLong" g × (new ≡ row)
Goes ask_more s m text n row g new = Wants m n g × (new ≡ front text row)
Goes refuse_lexeme s m text n row g new = Refuses (closed m) n "LexemeTooLong" g × (new ≡ front text row)
Goes lex s m text n row g new = Answers m text n g × (new ≡ front text row)

-- a part is offered
abbrev pub moved : Stream → List ℕ → List ℕ → Stream
moved s row part = holding s (read_then s row part) (length (text_of s row part)) (taken_of s row part)

unfoldable pub Offered : Stream → List ℕ → List ℕ → Given → List ℕ → Type 0
Offered s row part g new = Goes (offering s row part) s (moved s row part) (text_of s row part) (taken_of s row part) row g new

-- no part comes any more: nothing is taken, and what is held is lexed
unfoldable pub Finished : Stream → List ℕ → Given → List ℕ → Type 0
Finished s row g new = Goes (finishing s) s (ended s (length (waiting s row))) (waiting s row) 0 row g new
