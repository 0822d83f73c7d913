-- For readers. `profile-back`: a profile is read back from its number; `profile-number`: from no other; `profile-one`: two with the same number
-- are one. `choice-known`, `choice-unknown`: what a number chooses is the profile that has it; where it chooses none, it is no profile's. Assumes
-- nothing.
use Prim.Native.Nat.{ℕ, zero, suc}
use native.Mathlib.Omega.{arith}
use mathlib.Core.Path.{◌≡◌, refl, sym, ◌∙◌, ap}
use Rattle.std.specs.Prelude.{Option, Some, None}
use Rattle.grammar.specs.declared.profile.Profile.{Profile}
use Rattle.grammar.specs.declared.profile.Profile.TheVariants.{Turso, Sqlite}
use Rattle.codes.specs.Profiles.{profile_of, profile_number}

pub profile-back : (p : Profile) → profile_of (profile_number p) ≡ Some p
profile-back Turso = refl
profile-back Sqlite = refl

-- and no other number gives it
pub profile-number : (n : ℕ) (p : Profile) → profile_of n ≡ Some p → profile_number p ≡ n
profile-number zero p e = let d : p ≡ Turso = cc in ap profile_number d
profile-number (suc zero) p e = let d : p ≡ Sqlite = cc in ap profile_number d
profile-number (suc (suc n)) p e = let z : ◌≡◌ {A = ℕ} 0 1 = cc in absurd (omega arith)

pub profile-one : (p q : Profile) → profile_number p ≡ profile_number q → p ≡ q
profile-one p q e = let h = sym (profile-back p) ∙ ap profile_of e ∙ profile-back q in cc

-- by what `profile_of` returns: the profile of its number, or none, of a number that is no profile's
pub choice-known : (number : ℕ) (c : Option Profile) (p : Profile) → c ≡ profile_of number → c ≡ Some p
    → (Some p ≡ profile_of number) × (profile_number p ≡ number)
choice-known number c p e f = (sym f ∙ e, profile-number number p (sym e ∙ f))

pub choice-unknown : (number : ℕ) (c : Option Profile) → c ≡ profile_of number → c ≡ None
    → (None ≡ profile_of number) × ((p : Profile) → profile_number p ≡ number → ⊥)
choice-unknown number c e f = (
  sym f ∙ e,
  λ p g.
      let h : profile_of number ≡ Some p = ap profile_of (sym g) ∙ profile-back p in
      let n : profile_of number ≡ None = sym e ∙ f in
      let z : ◌≡◌ {A = ℕ} 0 1 = cc in omega arith,
)
