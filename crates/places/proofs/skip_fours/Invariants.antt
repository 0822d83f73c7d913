-- `places::skip_fours` meets its contract. Assumes nothing.
use Rattle.std.proofs.Common.{◌+◌, ◌*◌}
use Rattle.places.specs.Lines.{Clear}
use Rattle.places.proofs.skip_fours.Given as goal

abbrev pub invariant-loop-k : goal.invariant-loop-k
invariant-loop-k l = Clear l.text l.from l.to (l.from + 4 * l.k)
