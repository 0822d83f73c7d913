-- For private functions: the walk that writes records, as far as an allowance lasts. Assumes nothing.
use Rattle.std.specs.Prelude.{ℕ, ◌+◌, ◌*◌, ◌≡◌, List, leb, length}
use Rattle.grammar.specs.Answers.{Answer, token, end, refusal}
use Rattle.grammar.specs.Longest.{Source}
use Rattle.lexer.specs.declared.cursor.Cursor.{Cursor}
use Rattle.lexer.specs.Values.{number_of}
use Rattle.records.specs.Records.{width, at_front}
use Rattle.walks.specs.Walk.{Walk}
use Rattle.lists.specs.declared.pass.There.{There}
use Rattle.lists.specs.declared.pass.There.TheVariants.{Lexeme, End, Refused}
use Rattle.lists.specs.declared.pass.Stop.{Stop}
use Rattle.lists.specs.Lists.{records_of}
use Rattle.lists.specs.Parts.{Keeps, kept, Allowed}

abbrev pub stop_of : ℕ → ℕ → Cursor → There → Stop
stop_of filled left next there = record { filled = filled; left = left; next = next; there = there }

-- lexemes of this kind and of greater ones
abbrev pub from_kind : ℕ → Keeps
from_kind least t = leb least t.kind

-- what Next gives where the walk stops: at a place a lexeme, of which the walk says no more; the end, or a refusal
abbrev pub Meets : There → ℕ → ℕ → Answer → Type 0
Meets Lexeme next at (token k start n behind d u) = next ≡ at
Meets Lexeme next at (end offset) = ⊥
Meets Lexeme next at (refusal number start n offset) = ⊥
Meets End next at a = a ≡ end next
Meets (Refused why start n) next at a = a ≡ refusal (number_of why) start n next

pub record Passing (s : Source) (from : ℕ) (keeps : Keeps) (allowance : ℕ) (old : List ℕ) (stop : Stop) (new : List ℕ) : Type 0 where
  pub walk : Walk (Allowed keeps (length old) allowance) s from
  pub meets : Meets stop.there stop.next.at walk.to walk.there
  pub filled : stop.filled ≡ width * length (kept keeps walk.passed)
  pub left : stop.left + length walk.passed ≡ allowance
  pub written : new ≡ at_front (records_of s.text (kept keeps walk.passed)) old
