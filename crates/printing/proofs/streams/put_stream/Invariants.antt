-- Each call leads on in the script; the row stays the same.
use Rattle.std.proofs.Common.{◌≡◌, length}
use Rattle.printing.proofs.streams.put_stream.Given as goal

abbrev pub invariant-loop-length : goal.invariant-loop-length
invariant-loop-length g l = l.out.row.ghost_name ≡ l.fn.out.row.ghost_name

abbrev pub decreases-loop-length : goal.decreases-loop-length
decreases-loop-length g l = length l.rest
