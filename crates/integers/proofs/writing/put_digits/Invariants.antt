-- `integers::writing::put_digits` meets its contract: what is still to be written are the first k digits. Assumes nothing.
use lib.ListN.{length}
use Rattle.integers.specs.Numbers.{padded}
use Rattle.integers.proofs.WritingLaws.{Backing}
use Rattle.integers.proofs.writing.put_digits.Given as goal

abbrev pub invariant-loop-k : goal.invariant-loop-k
invariant-loop-k g l = Backing (padded g.row.BASE (length l.initial.places) l.n) l.initial.places l.places (padded g.row.BASE l.k l.left)
