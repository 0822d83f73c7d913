-- `places::next_newline` meets its contract. Assumes nothing.
use Rattle.places.specs.Lines.{Clear}
use Rattle.places.proofs.next_newline.Given as goal

abbrev pub invariant-loop-at : goal.invariant-loop-at
invariant-loop-at l = Clear l.text l.from l.to l.at
