-- What a list without blanks, a slice at a time, owes: List's walk, as far as an allowance lasts, and the records of its lexemes that are
-- not TK_NONE. Assumes nothing.
use Rattle.std.specs.Prelude.{ℕ, ◌<◌, ◌≤◌, ◌≡◌, Bool, true, cond, List, [], ◌∷◌, ◌⊎◌, eqb, length}
use Rattle.grammar.specs.Answers.{Answer, token, end, refusal}
use Rattle.grammar.specs.Longest.{Source}
use Rattle.lexer.specs.Values.{number_of}
use Rattle.records.specs.Records.{at_front}
use Rattle.walks.specs.Walk.{Legal, not_none, Goes, Walk}
use Rattle.lists.specs.declared.part.Part.{Part}
use Rattle.lists.specs.declared.part.Part.TheVariants.{End, Refused, TooLong, Paused, ListFull}
use Rattle.lists.specs.Lists.{records_of, HasRoom, list_full, too_long, longest_text}

-- which lexemes get a record
abbrev pub Keeps : Type 0
Keeps = Legal → Bool

abbrev pub not_blank : Keeps
not_blank t = not_none t.kind

unfoldable pub kept : Keeps → List Legal → List Legal
kept keeps [] = []
kept keeps (t ∷ l) = cond (keeps t) (t ∷ kept keeps l) (kept keeps l)

-- a lexeme is passed while the allowance lasts and, if it gets a record, while a whole one is free
abbrev pub Allowed : Keeps → ℕ → ℕ → Goes
Allowed keeps room allowance before t = (length before < allowance) × (keeps t ≡ true → HasRoom room (kept keeps before) t)

-- an answer that List can give too; or Paused, with its span and offset
pub data PartAnswer : Type 0 where
  given : Answer → PartAnswer
  paused : (start length offset : ℕ) → PartAnswer

abbrev pub paused_at : ℕ → PartAnswer
paused_at at = paused at 0 at

-- the answer by what Next gives where the walk stops, and by whether the allowance is spent: End and a refusal as they are; at a legal
-- lexeme Paused or, if the allowance is not spent, no place for it
abbrev pub part_answer : ℕ → Bool → Answer → PartAnswer
part_answer at spent (token kind start n next d u) = cond spent (paused_at at) (given (list_full at))
part_answer at spent (end offset) = given (end offset)
part_answer at spent (refusal number start n offset) = given (refusal number start n offset)

-- the call from a place of a text, with an allowance and lent a list: its answer, how many records it wrote, how many lexemes it spent, and
-- the list afterwards
pub record Parting (s : Source) (from allowance : ℕ) (old : List ℕ) (answer : PartAnswer) (records spent : ℕ) (new : List ℕ) : Type 0 where
  pub walk : Walk (Allowed not_blank (length old) allowance) s from
  pub answers : answer ≡ part_answer walk.to (eqb (length walk.passed) allowance) walk.there
  pub counted : records ≡ length (kept not_blank walk.passed)
  pub costs : spent ≡ length walk.passed
  pub written : new ≡ at_front (records_of s.text (kept not_blank walk.passed)) old

-- what each case of an answer says, its records, and the lexemes spent
abbrev pub answer_of : Part → PartAnswer
answer_of (End records spent next) = given (end next.at)
answer_of (Refused why start n records spent next) = given (refusal (number_of why) start n next.at)
answer_of (TooLong next) = given (too_long next.at)
answer_of (Paused records spent next) = paused_at next.at
answer_of (ListFull records spent next) = given (list_full next.at)

abbrev pub records_in : Part → ℕ
records_in (End records spent next) = records
records_in (Refused why start n records spent next) = records
records_in (TooLong next) = 0
records_in (Paused records spent next) = records
records_in (ListFull records spent next) = records

abbrev pub spent_in : Part → ℕ
spent_in (End records spent next) = spent
spent_in (Refused why start n records spent next) = spent
spent_in (TooLong next) = 0
spent_in (Paused records spent next) = spent
spent_in (ListFull records spent next) = spent

-- the answer r, and the list afterwards: a text that is too long is refused first, and spends nothing
unfoldable pub Parts : Source → ℕ → ℕ → List ℕ → Part → List ℕ → Type 0
Parts s from allowance old r new =
    ((longest_text < length s.text) × (answer_of r ≡ given (too_long from)) × (records_in r ≡ 0) × (spent_in r ≡ 0) × (new ≡ old)) ⊎
    ((length s.text ≤ longest_text) × Parting s from allowance old (answer_of r) (records_in r) (spent_in r) new)
