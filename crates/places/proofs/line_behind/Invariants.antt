-- `places::line_behind` meets its contract. Assumes nothing.
use Prim.Native.Nat.{◌-◌}
use Rattle.places.proofs.LineLaws.{Along}
use Rattle.places.proofs.line_behind.Given as goal

abbrev pub invariant-loop-here : goal.invariant-loop-here
invariant-loop-here l = Along l.text l.from l.end l.initial.here l.at l.here

abbrev pub decreases-loop-here : goal.decreases-loop-here
decreases-loop-here l = l.end - l.at
