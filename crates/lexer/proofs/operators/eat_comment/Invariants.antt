-- `lexer::operators::eat_comment` meets its contract. The loop's invariant: the text up to here reads like `/*`. Assumes nothing.
use Prim.Native.Nat.{◌-◌}
use lib.ListN.{length}
use Rattle.grammar.proofs.Reading.{Reads, behind}
use Rattle.lexer.proofs.operators.eat_comment.Given as goal

abbrev pub invariant-loop-end : goal.invariant-loop-end
invariant-loop-end l = Reads l.text l.start.at l.body.at (behind "/*")

abbrev pub decreases-loop-end : goal.decreases-loop-end
decreases-loop-end l = length l.text - l.body.at
