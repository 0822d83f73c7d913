-- `intake::taking::bring` meets its contract. The loop's invariant: so many bytes lie at the row's front. Assumes nothing.
use Prim.Native.Nat.{◌≤◌}
use mathlib.Core.Path.{◌≡◌}
use lib.ListN.{length}
use Rattle.intake.specs.Takes.{behind}
use Rattle.intake.proofs.TakeLaws.{laid}
use Rattle.intake.proofs.taking.bring.Given as goal

abbrev pub invariant-loop-at : goal.invariant-loop-at
invariant-loop-at l =
    (l.back ≡ length (behind l.given l.held l.initial.row)) × (l.at ≤ l.back) × (l.row ≡ laid (behind l.given l.held l.initial.row) l.at l.initial.row)
