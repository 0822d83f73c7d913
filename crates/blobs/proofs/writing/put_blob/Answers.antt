-- `blobs::writing::put_blob` meets its contract: what is put and what is left make the whole. Assumes nothing.
use Prim.Native.Nat.{◌<◌}
use native.Mathlib.Omega.{arith}
use mathlib.Core.Path.{◌∙◌}
use lib.ListN.{length}
use lib.Seq.{lt-length-set}
use Rattle.buffers.proofs.FillLaws.{in_buffer, one_more, same-long, whole, rebased, before-rebased}
use Rattle.blobs.proofs.BlobLaws.{blob-long}
use Rattle.blobs.proofs.LoopLaws.{blob-first, next-high, next_low, hex-on, quote-last}
use Rattle.blobs.proofs.writing.put_blob.Goals as goal

-- the two bytes at the front
pub bounds-buffer-0 : goal.bounds-buffer-0
bounds-buffer-0 c = in_buffer (blob-first _ _ c.requires)

pub bounds-buffer-1 : goal.bounds-buffer-1
bounds-buffer-1 c =
    let a = c.args in
    let two : 1 < length a.buffer.now = omega (arith, c.requires, blob-long a.bytes.now) in
    lt-length-set a.buffer.now 0 _ two

pub loop-b-init : goal.loop-b-init
loop-b-init c = record { upto = omega arith; filling = rebased (one_more (one_more (blob-first _ _ c.requires))) }

-- a byte's two
pub bounds-buffer-n : goal.bounds-buffer-n
bounds-buffer-n c = in_buffer (next-high c.loop-b.invariant c.loop-b-test.true c.digit.result c.digit.ensures)

pub overflow_add-n : goal.overflow_add-n
overflow_add-n c = omega (arith, in_buffer (next-high c.loop-b.invariant c.loop-b-test.true c.digit.result c.digit.ensures), same-long c.loop-b.invariant.filling, same-long (one_more (one_more (blob-first _ _ c.requires))))

pub bounds-buffer-n-in-loop-b : goal.bounds-buffer-n-in-loop-b
bounds-buffer-n-in-loop-b c = in_buffer (next_low c.loop-b.invariant c.loop-b-test.true c.digit.result c.digit.ensures c.digit-in-loop-b.result c.digit-in-loop-b.ensures)

pub loop-b-preserved : goal.loop-b-preserved
loop-b-preserved c = hex-on c.loop-b.invariant c.loop-b-test.true c.digit.result c.digit.ensures c.digit-in-loop-b.result c.digit-in-loop-b.ensures

pub overflow_add-n-in-loop-b : goal.overflow_add-n-in-loop-b
overflow_add-n-in-loop-b c =
    let low = next_low c.loop-b.invariant c.loop-b-test.true c.digit.result c.digit.ensures c.digit-in-loop-b.result c.digit-in-loop-b.ensures in
    omega (arith, in_buffer low, same-long (one_more low), same-long (one_more (one_more (blob-first _ _ c.requires))))

-- the last
pub bounds-buffer-n-2 : goal.bounds-buffer-n-2
bounds-buffer-n-2 c = in_buffer (quote-last c.loop-b.invariant c.loop-b-test.false)

pub shape_of-buffer : goal.shape_of-buffer
shape_of-buffer c = same-long (one_more (quote-last c.loop-b.invariant c.loop-b-test.false)) ∙ same-long (one_more (one_more (blob-first _ _ c.requires)))

pub returns : goal.returns
returns c = whole (one_more (quote-last c.loop-b.invariant c.loop-b-test.false)) ∙ before-rebased (one_more (one_more (blob-first _ _ c.requires)))
