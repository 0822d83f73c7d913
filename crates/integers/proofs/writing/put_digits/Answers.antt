-- `integers::writing::put_digits` meets its contract: what is still to be written are the first k digits. Assumes nothing.
use Prim.Native.Nat.{ℕ, ◌/◌, ◌-◌}
use native.Mathlib.Omega.{arith}
use mathlib.Core.Path.{subst}
use mathlib.Core.List.{[]}
use lib.ListN.{length, set}
use Rattle.integers.specs.Numbers.{padded}
use Rattle.integers.proofs.WritingLaws.{Backing, padded-long, back-begins, back-digit, back_none, back-full}
use Rattle.integers.proofs.writing.put_digits.Goals as goal

pub loop-k-init : goal.loop-k-init
loop-k-init g c = back-begins _ _ (omega (arith, padded-long g.row.BASE (length c.args.places.now) c.args.n))

pub loop-k-preserved-then-this-eq10 : goal.loop-k-preserved-then-this-eq10
loop-k-preserved-then-this-eq10 g c =
    rw c.tenth-left.ensures
    (subst
    (λ (d : ℕ). Backing (padded g.row.BASE (length c.args.places.now) c.args.n) c.args.places.now (set c.loop-k.places (c.loop-k.k - 1) c.digit.result) (padded g.row.BASE (c.loop-k.k - 1) (c.loop-k.left / d)))
    c.if-this-eq10.true
    (back-digit [] g.row.BASE _ _ _ c.loop-k.invariant (omega arith) (omega arith) c.digit.ensures))

pub loop-k-preserved : goal.loop-k-preserved
loop-k-preserved g c = back-digit [] g.row.BASE _ _ _ c.loop-k.invariant (omega arith) (omega arith) c.digit.ensures

pub returns : goal.returns
returns g c = back-full (padded-long g.row.BASE (length c.args.places.now) c.args.n) (back_none [] g.row.BASE _ _ c.loop-k.invariant (omega arith))
