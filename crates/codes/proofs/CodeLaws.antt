-- For the proofs of what is chosen by number. Assumes nothing.
use Prim.Native.Nat.{ℕ, zero, suc, ◌≤◌, ◌<◌}
use native.Mathlib.Omega.{arith}
use mathlib.Core.Path.{◌≡◌}
use Rattle.std.specs.Prelude.{Option, Some, None}
use Rattle.grammar.specs.declared.profile.Profile.{Profile}
use Rattle.codes.specs.Profiles.{Under}

-- n is none of the first k numbers, as a `match` leaves it for its last arm
abbrev pub NoneOf : ℕ → ℕ → Type 0
NoneOf n zero = Unit {0}
NoneOf n (suc k) = NoneOf n k × (n ≡ k → ⊥)

pub from : (k n : ℕ) → NoneOf n k → k ≤ n
from zero n h = omega arith
from (suc k) n (h, d) = omega (arith, from k n h, d)

-- and so, where it is no greater, it is the next
pub last : (k n : ℕ) → n < suc k → NoneOf n k → k ≡ n
last k n l h = omega (arith, from k n h)

-- two calls under the profile of the same number, or both with a number that is none's
pub by-profile : (c : Option Profile) (A B : Profile → Type 0) (X Y R : Type 0) → ((p : Profile) → A p → B p → R) → (X → Y → R) → Under c A X → Under c B Y → R
by-profile (Some p) A B X Y R f g x y = f p x y
by-profile None A B X Y R f g x y = g x y
