-- `strings::reading::put_undoubled` meets its contract: what is put and what is left make the whole. Assumes nothing.
use Rattle.buffers.proofs.FillLaws.{begins, in_buffer}
use Rattle.strings.proofs.LoopLaws.{undouble-past, next-undoubled, undouble-on, all-undoubled}
use Rattle.strings.proofs.reading.put_undoubled.Goals as goal
use Rattle.strings.proofs.reading.put_undoubled.Goals.{then-out, else-out}

pub loop-b-init : goal.loop-b-init
loop-b-init c = record { filling = begins _ _ c.requires }

pub bounds-buffer-n : goal.bounds-buffer-n
bounds-buffer-n c = in_buffer (next-undoubled c.loop-b.invariant c.if-out.false c.loop-b-test.true)

pub loop-b-preserved : goal.loop-b-preserved
loop-b-preserved c =
    elim c.if-out.branch [
      | then-out w ↦ rw (w.buffer-is, w.n-is, w.out-is) (undouble-past c.loop-b.invariant w.if-out.true c.loop-b-test.true)
      | else-out w ↦ rw (w.buffer-is, w.n-is, w.out-is) (undouble-on c.loop-b.invariant w.if-out.false c.loop-b-test.true)
    ]

pub returns : goal.returns
returns c = all-undoubled c.loop-b.invariant c.loop-b-test.false
