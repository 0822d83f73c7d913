-- `blobs::reading::put_pairs` meets its contract: what is put and what is left make the whole. Assumes nothing.
use native.Mathlib.Omega.{arith}
use Rattle.buffers.proofs.FillLaws.{begins, in_buffer, same-long}
use Rattle.blobs.proofs.LoopLaws.{next-pair, pair-on, all-paired}
use Rattle.blobs.proofs.reading.put_pairs.Goals as goal

pub loop-n-init : goal.loop-n-init
loop-n-init c = record { upto = omega arith; filling = begins _ _ c.requires }

pub bounds-buffer-n : goal.bounds-buffer-n
bounds-buffer-n c = in_buffer (next-pair c.loop-n.invariant c.loop-n-test.true c.pair.result c.pair.ensures)

pub loop-n-preserved : goal.loop-n-preserved
loop-n-preserved c = pair-on c.loop-n.invariant c.loop-n-test.true c.pair.result c.pair.ensures

pub shape_of-buffer : goal.shape_of-buffer
shape_of-buffer c = same-long c.loop-n.invariant.filling

pub returns : goal.returns
returns c = all-paired c.loop-n.invariant c.loop-n-test.false
