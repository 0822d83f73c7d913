-- For readers. `phase-back`: a phase is read back from its number; `phase-number`: from no other. `phase-one`, `reading-one`: two with the same
-- number are one. `reading_small`, `reading-at`: the readings' numbers are those below 47. `reading-unique`: two results of `reading_of` that
-- meet its contract are equal. Assumes nothing.
use Prim.Native.Nat.{ℕ, zero, suc, ◌+◌, ◌<◌}
use native.Mathlib.Omega.{arith}
use mathlib.Core.Path.{◌≡◌, refl, sym, ◌∙◌, ap}
use mathlib.Core.Bool.{Bool, true, ◌&&◌}
use mathlib.Core.List.{List, [], ◌∷◌}
use lib.Dec.{eqb, ltb}
use lib.ListN.{length, get_or}
use borrow.Author.Tests.{eqb-true, ltb-true, eq-eqb}
use Rattle.std.specs.Prelude.{Option, Some, None}
use Rattle.keywords.proofs.Logic.{and_left, and_right}
use Rattle.readings.specs.declared.reading.Reading.{Reading}
use Rattle.readings.specs.declared.reading.Reading.TheVariants.{Dead}
use Rattle.readings.proofs.Numbers.{number, readings, same_number, each-reading}
use Rattle.intake.specs.declared.state.Phase.{Phase}
use Rattle.intake.specs.declared.state.Phase.TheVariants.{Open, Ending, Closed}
use Rattle.labels.specs.Phases.{phase_of, phase_number}
use Rattle.labels.specs.Readings.{reading_number, Numbers}

pub phase-back : (f : Phase) → phase_of (phase_number f) ≡ Some f
phase-back Open = refl
phase-back Ending = refl
phase-back Closed = refl

-- and no other number gives it
pub phase-number : (n : ℕ) (f : Phase) → phase_of n ≡ Some f → phase_number f ≡ n
phase-number zero f e = let d : f ≡ Open = cc in ap phase_number d
phase-number (suc zero) f e = let d : f ≡ Ending = cc in ap phase_number d
phase-number (suc (suc zero)) f e = let d : f ≡ Closed = cc in ap phase_number d
phase-number (suc (suc (suc n))) f e = let z : ◌≡◌ {A = ℕ} 0 1 = cc in absurd (omega arith)

-- two with the same number are one
pub phase-one : (f g : Phase) → phase_number f ≡ phase_number g → f ≡ g
phase-one f g e = let h = sym (phase-back f) ∙ ap phase_of e ∙ phase-back g in cc

pub reading_small : (r : Reading) → reading_number r < 47
reading_small r = ltb-true (reading_number r) 47 (each-reading (λ r. ltb (reading_number r) 47) refl r)

-- the numbers are the places in the list of the readings
placed : (r : Reading) → reading_number r ≡ number r
placed r = eqb-true (reading_number r) (number r) (each-reading (λ r. eqb (reading_number r) (number r)) refl r)

pub reading-one : (r q : Reading) → reading_number r ≡ reading_number q → r ≡ q
reading-one r q e = same_number r q (eq-eqb (number r) (number q) (sym (placed r) ∙ e ∙ placed q))

-- a list's readings have the numbers from k on
abbrev counts : ℕ → List Reading → Bool
counts k [] = true
counts k (r ∷ l) = eqb (reading_number r) k && counts (suc k) l

counted : (k : ℕ) (l : List Reading) (i : ℕ) (d : Reading) → counts k l ≡ true → i < length l → reading_number (get_or l i d) ≡ k + i
counted k [] i d e h = absurd (omega arith)
counted k (r ∷ l) zero d e h = omega (arith, eqb-true (reading_number r) k (and_left (eqb (reading_number r) k) (counts (suc k) l) e))
counted k (r ∷ l) (suc i) d e h = omega (arith, counted (suc k) l i d (and_right (eqb (reading_number r) k) (counts (suc k) l) e) (omega arith))

-- what stands at a place of the list
pub looked-up : (n : ℕ) (d : Reading) → n < length readings → reading_number (get_or readings n d) ≡ n
looked-up n d h = omega (arith, counted 0 readings n d refl h)

pub reading-at : (n : ℕ) → n < 47 → (r : Reading) × (reading_number r ≡ n)
reading-at n h = (get_or readings n Dead, omega (arith, counted 0 readings n Dead refl h))

pub reading-unique : (n : ℕ) (a b : Option Reading) → Numbers n a → Numbers n b → a ≡ b
reading-unique n (Some r) (Some q) h i = ap Some (reading-one r q (h ∙ sym i))
reading-unique n (Some r) None h i = absurd (omega (arith, reading_small r))
reading-unique n None (Some q) h i = absurd (omega (arith, reading_small q))
reading-unique n None None h i = refl
