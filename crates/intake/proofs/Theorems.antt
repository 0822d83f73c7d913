-- For readers. `taken-unique`: two results of `take_in` that meet its contract, and two rows, are equal. Assumes nothing.
use Prim.Native.Nat.{ℕ}
use mathlib.Core.Path.{◌≡◌, sym, ◌∙◌, ap}
use mathlib.Core.Bool.{Bool}
use mathlib.Core.List.{List}
use Rattle.readings.specs.declared.reading.Reading.{Reading}
use Rattle.intake.specs.declared.state.Stream.{Stream}
use Rattle.intake.specs.declared.taking.Taken.{Taken}
use Rattle.intake.specs.Takes.{TakesIn}

pub taken-unique : (s : Stream) (row part : List ℕ) (t u : Taken) (new new' : List ℕ) → TakesIn s row part t new → TakesIn s row part u new'
    → (t ≡ u) × (new ≡ new')
taken-unique s row part t u new new' (a, b, c, d, e) (f, g, h, i, j) = (
  ap (λ (r : Reading). record { reading = r; held = t.held; taken = t.taken; ready = t.ready }) (a ∙ sym f)
      ∙ ap (λ (n : ℕ). record { reading = u.reading; held = n; taken = t.taken; ready = t.ready }) (b ∙ sym g)
      ∙ ap (λ (n : ℕ). record { reading = u.reading; held = u.held; taken = n; ready = t.ready }) (c ∙ sym h)
      ∙ ap (λ (x : Bool). record { reading = u.reading; held = u.held; taken = u.taken; ready = x }) (d ∙ sym i),
  e ∙ sym j,
)
