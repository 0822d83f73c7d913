-- Each read brings a byte at least, into the same row.
use Rattle.std.proofs.Common.{◌≡◌, ◌-◌}
use Rattle.printing.proofs.input.Records.fill.Given as goal

abbrev pub invariant-loop-self : goal.invariant-loop-self
invariant-loop-self g l = l.self.row.ghost_name ≡ l.fn.self.row.ghost_name

abbrev pub decreases-loop-self : goal.decreases-loop-self
decreases-loop-self g l = l.n - l.self.to
