-- `integers::numbers::small_number` meets its contract: no number on the way exceeds the whole. Assumes nothing.
use Prim.Native.Nat.{◌*◌, ◌+◌}
use native.Mathlib.Omega.{arith}
use lib.ListN.{get_or}
use Rattle.hexdigits.proofs.DigitLaws.{worth-most}
use Rattle.integers.proofs.NumberLaws.{Naming, naming-begins, naming-digit, naming-underscore, naming-ends, naming-least}
use Rattle.integers.proofs.numbers.small_number.Goals as goal
use Rattle.integers.proofs.numbers.small_number.Goals.{After-worth-d, then-b-ne95, else-b-ne95}

goes : (c : After-worth-d) → Naming c.args.base c.args.bytes.now (c.loop-b.n * c.args.base + c.worth-d.result) (c.loop-b.b-index + 1)
goes c = naming-digit c.loop-b.invariant (omega arith) c.if-b-ne95.true c.worth-d.ensures

pub loop-b-init : goal.loop-b-init
loop-b-init c = naming-begins

pub overflow_cast-d : goal.overflow_cast-d
overflow_cast-d c = omega (arith, c.worth-d.ensures, worth-most (get_or c.args.bytes.now c.loop-b.b-index 0))

pub overflow_mul-n : goal.overflow_mul-n
overflow_mul-n c = omega (arith, naming-least (goes (goal.at.overflow_mul-n c).After-worth-d) c.requires.0)

pub overflow_add-n : goal.overflow_add-n
overflow_add-n c = omega (arith, naming-least (goes (goal.at.overflow_add-n c).After-worth-d) c.requires.0)

pub loop-b-preserved : goal.loop-b-preserved
loop-b-preserved c =
    elim c.if-b-ne95.branch [
      | then-b-ne95 w ↦ rw w.n-is (naming-digit c.loop-b.invariant (omega arith) w.if-b-ne95.true w.worth-d.ensures)
      | else-b-ne95 w ↦ rw w.n-is (naming-underscore c.loop-b.invariant (omega arith) w.if-b-ne95.false)
    ]

pub returns : goal.returns
returns c = naming-ends c.loop-b.invariant c.loop-b-test.false
