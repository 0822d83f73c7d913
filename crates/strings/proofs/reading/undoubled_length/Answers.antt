-- `strings::reading::undoubled_length` meets its contract: what is counted and what is left make the whole. Assumes nothing.
use Rattle.strings.proofs.LoopLaws.{count-past, count-on, all-counted}
use Rattle.strings.proofs.reading.undoubled_length.Goals as goal
use Rattle.strings.proofs.reading.undoubled_length.Goals.{then-skipped, else-skipped}

pub loop-b-preserved : goal.loop-b-preserved
loop-b-preserved c =
    elim c.if-skipped.branch [
      | then-skipped w ↦ rw (w.n-is, w.skipped-is) (count-past c.loop-b.invariant w.if-skipped.true c.loop-b-test.true)
      | else-skipped w ↦ rw (w.n-is, w.skipped-is) (count-on c.loop-b.invariant w.if-skipped.false c.loop-b-test.true)
    ]

pub returns : goal.returns
returns c = all-counted c.loop-b.invariant c.loop-b-test.false
