-- `integers::writing::decimal_width` meets its contract. Assumes nothing.
use Rattle.integers.proofs.WritingLaws.{Narrowing}
use Rattle.integers.proofs.writing.decimal_width.Given as goal

abbrev pub invariant-loop-left : goal.invariant-loop-left
invariant-loop-left l = Narrowing l.n l.w l.left

abbrev pub decreases-loop-left : goal.decreases-loop-left
decreases-loop-left l = l.left
