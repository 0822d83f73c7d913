-- `integers::numbers::number_up_to` meets its contract: a digit more stays within the limit, or goes beyond it for good. Assumes nothing.
use Prim.Native.Nat.{◌*◌, ◌+◌, ◌≤◌}
use Rattle.integers.proofs.NumberLaws.{Naming}
use Rattle.integers.proofs.numbers.number_up_to.Given as goal

abbrev pub invariant-loop-b : goal.invariant-loop-b
invariant-loop-b l = Naming l.base l.bytes l.n l.b-index × (l.n ≤ l.most * l.base + l.last)
