-- `lists::pass::pass` meets its contract. The loop's invariant: the records so far stand at the front of the list, each lexeme passed has cost
-- one of the allowance, and the line is that of the place reached. Assumes nothing.
use Prim.Native.Nat.{◌-◌, ◌≤◌}
use lib.ListN.{length}
use Rattle.grammar.specs.Longest.{source}
use Rattle.lists.specs.Lists.{longest_text}
use Rattle.lists.proofs.PassLaws.{Inside}
use Rattle.lists.proofs.pass.pass.Given as goal

abbrev pub invariant-loop-kind : goal.invariant-loop-kind
invariant-loop-kind l =
    Inside (source l.profile l.text) l.initial.at.at l.least l.allowance l.initial.numbers l.numbers l.at.at l.line l.filled l.left × (length l.text ≤ longest_text)

abbrev pub decreases-loop-kind : goal.decreases-loop-kind
decreases-loop-kind l = length l.text - l.at.at
