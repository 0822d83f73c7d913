-- The check of a list as C has it: the status and the index of a verdict. Assumes nothing.
use Rattle.std.specs.Prelude.{ℕ, ◌≡◌}
use Rattle.agreeing.specs.Agreeing.{Verdict, accepted, refused}

-- a list that is accepted has status 106, a refusal its number
abbrev pub status_of : Verdict → ℕ
status_of accepted = 106
status_of (refused number index) = number

-- the index is a refusal's, else 0
abbrev pub index_of : Verdict → ℕ
index_of accepted = 0
index_of (refused number index) = index

-- the status, and what stands afterwards where the index is lent
abbrev pub GaveVerdict : Verdict → ℕ → ℕ → Type 0
GaveVerdict v status index = (status ≡ status_of v) × (index ≡ index_of v)
