-- Each token leads on in what is held and in the part; the row stays the same.
use Rattle.std.proofs.Common.{◌≡◌, length, ◌+◌}
use Rattle.stream.proofs.Progress.{held_behind}
use Rattle.printing.proofs.streams.put_part.Given as goal

abbrev pub invariant-loop-rest : goal.invariant-loop-rest
invariant-loop-rest g l = l.out.row.ghost_name ≡ l.fn.out.row.ghost_name

abbrev pub decreases-loop-rest : goal.decreases-loop-rest
decreases-loop-rest g l = length l.rest + held_behind l.stream
