-- A stream's phases by number, as C has them. Assumes nothing.
use Rattle.std.specs.Prelude.{ℕ, zero, suc, Option, Some, None}
use Rattle.intake.specs.declared.state.Phase.{Phase}
use Rattle.intake.specs.declared.state.Phase.TheVariants.{Open, Ending, Closed}

-- 0 is Open, 1 is Ending, 2 is Closed; no other number is a phase's
abbrev pub phase_of : ℕ → Option Phase
phase_of zero = Some Open
phase_of (suc zero) = Some Ending
phase_of (suc (suc zero)) = Some Closed
phase_of (suc (suc (suc n))) = None

abbrev pub phase_number : Phase → ℕ
phase_number Open = 0
phase_number Ending = 1
phase_number Closed = 2
