-- `integers::numbers::small_number` meets its contract: no number on the way exceeds the whole. Assumes nothing.
use Rattle.integers.proofs.NumberLaws.{Naming}
use Rattle.integers.proofs.numbers.small_number.Given as goal

abbrev pub invariant-loop-b : goal.invariant-loop-b
invariant-loop-b l = Naming l.base l.bytes l.n l.b-index
