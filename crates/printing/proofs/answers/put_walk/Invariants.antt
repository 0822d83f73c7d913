-- Each token leads on in the text, and has a byte at least; the row stays the same.
use Rattle.std.proofs.Common.{length, ◌≡◌, ◌-◌, ◌≤◌}
use Rattle.printing.proofs.answers.put_walk.Given as goal

abbrev pub invariant-loop-kind : goal.invariant-loop-kind
invariant-loop-kind g l = (l.tokens ≤ l.cursor.at) × (l.out.row.ghost_name ≡ l.fn.out.row.ghost_name)

abbrev pub decreases-loop-kind : goal.decreases-loop-kind
decreases-loop-kind g l = length l.source.text.now - l.cursor.at
