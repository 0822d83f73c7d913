-- The pairing of brackets as C has it: the status of an outcome, and the number told beside it. Assumes nothing.
use Rattle.std.specs.Prelude.{ℕ, ◌≡◌}
use Rattle.brackets.specs.Brackets.{Outcome, deepest, refused}

-- a list that is paired has status 104, a refusal its number
abbrev pub status_of : Outcome → ℕ
status_of (deepest levels) = 104
status_of (refused number index) = number

-- the deepest nesting, or a refusal's index
abbrev pub value_of : Outcome → ℕ
value_of (deepest levels) = levels
value_of (refused number index) = index

-- the status, and what stands afterwards where the value is lent
abbrev pub GavePairing : Outcome → ℕ → ℕ → Type 0
GavePairing o status value = (status ≡ status_of o) × (value ≡ value_of o)
