-- Profiles by number, as C has them. Assumes nothing.
use Rattle.std.specs.Prelude.{ℕ, zero, suc, Option, Some, None}
use Rattle.grammar.specs.declared.profile.Profile.{Profile}
use Rattle.grammar.specs.declared.profile.Profile.TheVariants.{Turso, Sqlite}

-- 0 is Turso, 1 is Sqlite; no other number is a profile's
abbrev pub profile_of : ℕ → Option Profile
profile_of zero = Some Turso
profile_of (suc zero) = Some Sqlite
profile_of (suc (suc n)) = None

abbrev pub profile_number : Profile → ℕ
profile_number Turso = 0
profile_number Sqlite = 1

-- the status of a call where the number is none's
abbrev pub unknown_profile : ℕ
unknown_profile = 99

-- what holds of a call under the profile that is chosen, or where the number is none's
abbrev pub Under : Option Profile → (Profile → Type 0) → Type 0 → Type 0
Under (Some p) called refused = called p
Under None called refused = refused
