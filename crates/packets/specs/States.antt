-- A stream's state in six numbers, which the caller keeps from call to call. Assumes nothing.
use Rattle.std.specs.Prelude.{ℕ, ◌≤◌, ◌≡◌, List, [], ◌∷◌, Option, Some, None}
use Rattle.intake.specs.declared.state.Stream.{Stream}
use Rattle.stream.specs.Calls.{most}
use Rattle.codes.specs.Profiles.{profile_number}
use Rattle.labels.specs.Phases.{phase_number}
use Rattle.labels.specs.Readings.{reading_number}

abbrev pub numbers_of : Stream → List ℕ
numbers_of s =
    profile_number s.profile ∷
    phase_number s.phase ∷
    reading_number s.reading ∷
    s.given ∷
    s.held ∷
    s.total ∷
    []

-- no stream has these numbers
abbrev pub NoStreams : List ℕ → Type 0
NoStreams state = (s : Stream) → numbers_of s ≡ state → ⊥

-- For private functions: what is given and held can be counted in 32 bits; the stream that has the numbers, if one has.
abbrev pub Counted : Stream → Type 0
Counted s = (s.given ≤ most) × (s.held ≤ most)

abbrev pub Restores : List ℕ → Option Stream → Type 0
Restores state (Some s) = (numbers_of s ≡ state) × Counted s
Restores state None = NoStreams state
