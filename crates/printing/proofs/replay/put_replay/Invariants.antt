-- The row stays the same.
use Rattle.std.proofs.Common.{◌≡◌}
use Rattle.printing.proofs.replay.put_replay.Given as goal

abbrev pub invariant-loop-n : goal.invariant-loop-n
invariant-loop-n g l = l.out.row.ghost_name ≡ l.fn.out.row.ghost_name
