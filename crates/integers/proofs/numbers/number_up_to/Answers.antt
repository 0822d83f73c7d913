-- `integers::numbers::number_up_to` meets its contract: a digit more stays within the limit, or goes beyond it for good. Assumes nothing.
use Prim.Native.Nat.{ℕ, ◌*◌, ◌+◌, ◌<◌}
use native.Mathlib.Omega.{arith}
use mathlib.Core.Path.{◌≡◌, sym, ◌∙◌, ap}
use Rattle.buffers.specs.Buffers.{refused_as}
use Rattle.hexdigits.proofs.DigitLaws.{worth-most}
use Rattle.hexdigits.specs.Digits.{worth}
use Rattle.integers.specs.Numbers.{value}
use Rattle.integers.specs.Integers.{up_to}
use Rattle.integers.proofs.NumberLaws.{Naming, naming-begins, naming-digit, naming-underscore, naming-ends, naming-least}
use Rattle.integers.proofs.NumberLaws.{beyond, beyond-last, stays-below, stays_at}
use Rattle.integers.proofs.SignLaws.{in-range, out_of_range, cast-valued}
use Rattle.integers.proofs.numbers.number_up_to.Goals as goal
use Rattle.integers.proofs.numbers.number_up_to.Goals.{After-worth-d, then-b-ne95+else-most-n+else-n-most, else-b-ne95}
use Rattle.integers.proofs.numbers.number_up_to.Goals.{else-n-most-via-then-n-most+else-last-d, else-n-most-via-else-n-most}

goes : (c : After-worth-d) → Naming c.args.base c.args.bytes.now (c.loop-b.n * c.args.base + c.worth-d.result) (c.loop-b.b-index + 1)
goes c = naming-digit c.loop-b.invariant.0 (omega arith) c.if-b-ne95.true c.worth-d.ensures

small : (b d : ℕ) → d ≡ worth b → d < 16
small b d is = omega (arith, is, worth-most b)

abbrev limit : After-worth-d → ℕ
limit c = c.args.most * c.args.base + c.args.last

abbrev named : After-worth-d → ℕ
named c = c.loop-b.n * c.args.base + c.worth-d.result

beyond-all : (c : After-worth-d) → limit c < named c → refused_as "OutOfRange" ≡ up_to (limit c) (value c.args.base c.args.bytes.now)
beyond-all c h = sym (out_of_range _ _ (omega (arith, naming-least (goes c) (omega (arith, c.requires.0)))))

pub loop-b-init : goal.loop-b-init
loop-b-init c = (naming-begins, omega arith)

pub overflow_cast-d : goal.overflow_cast-d
overflow_cast-d c = omega (arith, small _ _ c.worth-d.ensures)

pub returns-then-most-n : goal.returns-then-most-n
returns-then-most-n c = beyond-all (goal.at.returns-then-most-n c).After-worth-d (beyond _ _ _ _ _ c.requires.0 c.if-most-n.true)

pub returns-then-last-d : goal.returns-then-last-d
returns-then-last-d c = beyond-all (goal.at.returns-then-last-d c).After-worth-d (beyond-last _ _ _ _ _ c.if-n-most.true c.if-last-d.true)

-- a digit that goes on stays within the limit
pub overflow_add-n : goal.overflow_add-n
overflow_add-n c =
    elim c.else-n-most.branch [
      | else-n-most-via-then-n-most+else-last-d w ↦ omega (arith, stays_at c.args.base _ c.args.last _ _ w.if-n-most.true w.if-last-d.false, c.requires.2)
      | else-n-most-via-else-n-most w ↦
          omega (arith, stays-below c.args.base c.args.most c.args.last c.loop-b.n c.worth-d.result (omega (arith, small _ _ c.worth-d.ensures, c.requires.1)) (omega (arith, c.if-most-n.false, w.if-n-most.false)), c.requires.2)
    ]

pub loop-b-preserved : goal.loop-b-preserved
loop-b-preserved c =
    elim c.if-b-ne95.branch [
      | then-b-ne95+else-most-n+else-n-most w ↦ (
        rw w.n-is (naming-digit c.loop-b.invariant.0 (omega arith) w.if-b-ne95.true w.worth-d.ensures),
        rw w.n-is
            (elim w.else-n-most.branch [
              | else-n-most-via-then-n-most+else-last-d v ↦ stays_at _ _ _ _ _ v.if-n-most.true v.if-last-d.false
              | else-n-most-via-else-n-most v ↦
                  stays-below _ _ _ _ _ (omega (arith, small _ _ w.worth-d.ensures, c.requires.1)) (omega (arith, w.if-most-n.false, v.if-n-most.false))
            ]),
      )
      | else-b-ne95 w ↦ (rw w.n-is (naming-underscore c.loop-b.invariant.0 (omega arith) w.if-b-ne95.false), rw w.n-is c.loop-b.invariant.1)
    ]

pub returns : goal.returns
returns c =
    cast-valued (omega (arith, c.loop-b.invariant.1, c.requires.2)) c.cast_signed.ensures
    ∙ sym (in-range _ _ c.loop-b.invariant.1)
    ∙ ap (up_to _) (naming-ends c.loop-b.invariant.0 c.loop-b-test.false)
