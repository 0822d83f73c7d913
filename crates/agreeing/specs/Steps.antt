-- For private functions: one record beside the lexeme at a place, and the end of the list. Assumes nothing.
use Rattle.std.specs.Prelude.{ℕ, ◌+◌, ◌≡◌, Option, Some, None, Result}
use Rattle.std.proofs.Math.Seq.{slice}
use Rattle.grammar.specs.Answers.{Answer, token, end, refusal}
use Rattle.grammar.specs.Longest.{Source, Next}
use Rattle.lexer.specs.Eaten.{cursor}
use Rattle.records.specs.declared.Record.{Record}
use Rattle.places.specs.Lines.{line_over}
use Rattle.walks.specs.Walk.{Legal, token_of}
use Rattle.lists.specs.Lines.{record_on}
use Rattle.agreeing.specs.declared.CheckError.{CheckError}
use Rattle.agreeing.specs.declared.step.Place.{Place}
use Rattle.agreeing.specs.Agreeing.{Verdict, accepted, list_differs, verdict_of}

-- where the check of every list begins
abbrev pub beginning : Place
beginning = record { next = cursor 0; line = record { number = 1; start = 0 } }

-- a lexeme's record, on the line of a place
abbrev pub own_record : Place → Legal → Record
own_record p t = record_on p.line t.kind t.start t.length

-- from a place to another: the record is that of the lexeme there, which ends at the other; or it is that of none
unfoldable pub Steps : Source → Place → Record → Option Place → Type 0
Steps s p r (Some q) =
    (t : Legal) × Next s p.next.at (token_of t) × (own_record p t ≡ r) × (q.next.at ≡ t.start + t.length) ×
    (q.line ≡ line_over p.line t.start (slice t.start (t.start + t.length) s.text))
Steps s p r None = (t : Legal) → Next s p.next.at (token_of t) → own_record p t ≡ r → ⊥

-- behind the last of so many records, all of which agree: accepted at the text's end alone
abbrev pub verdict_at : ℕ → Answer → Verdict
verdict_at count (token k start n next d u) = list_differs count
verdict_at count (end offset) = accepted
verdict_at count (refusal k start n offset) = list_differs count

pub record Finishes (s : Source) (at count : ℕ) (r : Result (Unit {0}) CheckError) : Type 0 where
  pub there : Answer
  pub gives : Next s at there
  pub answers : verdict_of r ≡ verdict_at count there
