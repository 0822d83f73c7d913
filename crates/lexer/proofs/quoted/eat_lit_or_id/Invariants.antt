-- `lexer::quoted::eat_lit_or_id` meets its contract. The loop's invariant: the text up to here reads like the quote that opens.
-- Assumes nothing.
use Prim.Native.Nat.{◌-◌}
use mathlib.Core.Bool.{true}
use mathlib.Core.Path.{◌≡◌}
use lib.ListN.{length}
use Rattle.grammar.proofs.Reading.{Reads}
use Rattle.lexer.proofs.QuotedLaws.{in_quote, is_quote}
use Rattle.lexer.proofs.quoted.eat_lit_or_id.Given as goal

abbrev pub invariant-loop-end : goal.invariant-loop-end
invariant-loop-end l = Reads l.text l.start.at l.body.at (in_quote l.quote) × (is_quote l.quote ≡ true)

abbrev pub decreases-loop-end : goal.decreases-loop-end
decreases-loop-end l = length l.text - l.body.at
