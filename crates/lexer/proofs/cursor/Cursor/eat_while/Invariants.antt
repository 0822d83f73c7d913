-- `lexer::cursor::Cursor::eat_while` meets its contract. The loop's invariant: from here the run ends where it ends from the start.
-- Assumes nothing.
use Prim.Native.Nat.{◌-◌, ◌≤◌}
use mathlib.Core.Path.{◌≡◌}
use lib.ListN.{length}
use Rattle.grammar.specs.Runs.{over}
use Rattle.lexer.proofs.cursor.Cursor.eat_while.Given as goal

abbrev pub invariant-loop-at : goal.invariant-loop-at
invariant-loop-at g l = (over (g.K.ByteSet.set l.set) l.initial.at l.text ≡ over (g.K.ByteSet.set l.set) l.at l.text) × (l.initial.at ≤ l.at)

abbrev pub decreases-loop-at : goal.decreases-loop-at
decreases-loop-at g l = length l.text - l.at
