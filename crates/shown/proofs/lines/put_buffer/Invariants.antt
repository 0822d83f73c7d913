-- The row stays the same.
use Rattle.std.proofs.Common.{◌≡◌}
use Rattle.shown.proofs.lines.put_buffer.Given as goal

abbrev pub invariant-loop-b : goal.invariant-loop-b
invariant-loop-b g l = l.out.row.ghost_name ≡ l.fn.out.row.ghost_name
