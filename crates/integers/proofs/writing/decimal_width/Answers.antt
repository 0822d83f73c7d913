-- `integers::writing::decimal_width` meets its contract. Assumes nothing.
use native.Mathlib.Omega.{arith}
use Rattle.integers.proofs.WritingLaws.{narrow-begins, narrow-more, narrow-ends}
use Rattle.integers.proofs.writing.decimal_width.Goals as goal

pub loop-left-init : goal.loop-left-init
loop-left-init c = narrow-begins _ c.ranges.n.fits

pub overflow_add-w : goal.overflow_add-w
overflow_add-w c = omega (arith, c.loop-left.invariant.upto)

pub loop-left-smaller : goal.loop-left-smaller
loop-left-smaller c = omega (arith, c.tenth-left.ensures)

pub loop-left-preserved : goal.loop-left-preserved
loop-left-preserved c = rw c.tenth-left.ensures (narrow-more c.loop-left.invariant c.loop-left-test.true)

pub returns : goal.returns
returns c = narrow-ends c.loop-left.invariant c.loop-left-test.false
