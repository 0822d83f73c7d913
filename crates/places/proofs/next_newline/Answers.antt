-- `places::next_newline` meets its contract. Assumes nothing.
use Rattle.places.proofs.LineLaws.{clear-one}
use Rattle.places.proofs.next_newline.Goals as goal

pub loop-at-preserved : goal.loop-at-preserved
loop-at-preserved c = clear-one c.loop-at.invariant c.loop-at-test.true c.if-text-at-eq-NEWLINE.false
