-- `intake::taking::take_in` meets its contract. The loop's invariant: so many bytes were taken and lie in the row, and what is taken from here
-- on is what is taken in all. Assumes nothing.
use Prim.Native.Nat.{◌-◌, ◌≤◌}
use lib.ListN.{length, take, drop}
use Rattle.readings.specs.Arrows.{onwards}
use Rattle.intake.proofs.TakeLaws.{Inside}
use Rattle.intake.proofs.taking.take_in.Given as goal

abbrev pub invariant-loop-stream : goal.invariant-loop-stream
invariant-loop-stream l =
    let s = l.stream in
    let w = take l.held l.initial.row in
    (l.at.held ≤ length l.initial.row) ×
    Inside (length l.initial.row) s.profile (onwards s.profile s.reading (drop l.initial.at.read w)) w l.part l.initial.row l.at.reading l.at.read l.at.held l.at.taken l.row

abbrev pub decreases-loop-stream : goal.decreases-loop-stream
decreases-loop-stream l = length l.initial.row - l.at.read
