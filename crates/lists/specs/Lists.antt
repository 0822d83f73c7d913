-- What List owes: the records of a walk at the front of the lent list, and the rest of it as it was. Assumes nothing.
use Rattle.std.specs.Prelude.{ℕ, ◌+◌, ◌*◌, ◌≤◌, ◌<◌, ◌≡◌, List, [], ◌∷◌, ◌⊎◌, length}
use Rattle.grammar.specs.Answers.{Answer, token, end, refusal}
use Rattle.grammar.specs.Longest.{Source}
use Rattle.lexer.specs.Values.{number_of}
use Rattle.records.specs.declared.Record.{Record}
use Rattle.records.specs.Records.{width, at_front}
use Rattle.places.specs.Places.{line_at, column_at}
use Rattle.walks.specs.Walk.{Legal, Goes, Walk}
use Rattle.lists.specs.declared.list.Listed.{Listed}
use Rattle.lists.specs.declared.list.Listed.TheVariants.{End, Refused, TooLong, ListFull}
use Rattle.lists.specs.Refusals.{list_refusal}

-- a lexeme's record, with the line and column of its start
abbrev pub record_of : List ℕ → Legal → Record
record_of s t =
    record { kind = t.kind; start = t.start; length = t.length; line = line_at s t.start; column = column_at s t.start }

unfoldable pub records_of : List ℕ → List Legal → List Record
records_of s [] = []
records_of s (t ∷ l) = record_of s t ∷ records_of s l

-- List's own refusals: a text that is too long, from a place; a lexeme without a place, at its start
abbrev pub too_long : ℕ → Answer
too_long from = refusal (list_refusal "TooLong") 0 0 from

abbrev pub list_full : ℕ → Answer
list_full at = refusal (list_refusal "ListFull") at 0 at

-- in a list of so many numbers a whole record is free behind those of `before`
abbrev pub HasRoom : ℕ → Goes
HasRoom room before t = width * length before + width ≤ room

-- the answer by what Next gives where the walk stops: End and a refusal as they are; a legal lexeme has no place
abbrev pub list_answer : ℕ → Answer → Answer
list_answer at (token kind start n next d u) = list_full at
list_answer at (end offset) = end offset
list_answer at (refusal number start n offset) = refusal number start n offset

-- List from a place of a text, lent a list: its answer, how many records it wrote, and the list afterwards
pub record Listing (s : Source) (from : ℕ) (old : List ℕ) (answer : Answer) (records : ℕ) (new : List ℕ) : Type 0 where
  pub walk : Walk (HasRoom (length old)) s from
  pub answers : answer ≡ list_answer walk.to walk.there
  pub counted : records ≡ length walk.passed
  pub written : new ≡ at_front (records_of s.text walk.passed) old

-- what each case of an answer says, and its records
abbrev pub answer_of : Listed → Answer
answer_of (End records next) = end next.at
answer_of (Refused why start n records next) = refusal (number_of why) start n next.at
answer_of (TooLong next) = too_long next.at
answer_of (ListFull records next) = list_full next.at

abbrev pub records_in : Listed → ℕ
records_in (End records next) = records
records_in (Refused why start n records next) = records
records_in (TooLong next) = 0
records_in (ListFull records next) = records

-- the longest text
abbrev pub longest_text : ℕ
longest_text = 65535

-- the answer r, and the list afterwards: a text that is too long is refused first
unfoldable pub Lists : Source → ℕ → List ℕ → Listed → List ℕ → Type 0
Lists s from old r new =
    ((longest_text < length s.text) × (answer_of r ≡ too_long from) × (records_in r ≡ 0) × (new ≡ old)) ⊎
    ((length s.text ≤ longest_text) × Listing s from old (answer_of r) (records_in r) new)
