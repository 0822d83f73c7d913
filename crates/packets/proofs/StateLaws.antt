-- From six numbers to the stream that has them. Assumes nothing.
use Prim.Native.Nat.{ℕ, zero, suc, ◌+◌, ◌≤◌}
use native.Mathlib.Omega.{arith}
use mathlib.Core.Path.{◌≡◌, sym, ◌∙◌, ap}
use mathlib.Core.List.{List, [], ◌∷◌}
use lib.ListN.{length, drop, get_or, drop_of_length-le}
use lib.Seq.{drop-cons}
use Rattle.std.specs.Prelude.{Some, None}
use Rattle.grammar.specs.declared.profile.Profile.{Profile}
use Rattle.readings.specs.declared.reading.Reading.{Reading}
use Rattle.intake.specs.declared.state.Phase.{Phase}
use Rattle.codes.specs.Profiles.{profile_of}
use Rattle.labels.specs.Phases.{phase_of, phase_number}
use Rattle.labels.specs.Readings.{reading_number}
use Rattle.codes.proofs.Theorems.{profile-back, profile-number}
use Rattle.labels.proofs.Theorems.{phase-back, phase-number, reading_small}
use Rattle.packets.specs.States.{numbers_of, NoStreams}

-- n numbers of a list from the k-th on
abbrev entries : ℕ → ℕ → List ℕ → List ℕ
entries zero k l = []
entries (suc n) k l = get_or l k 0 ∷ entries n (suc k) l

all-entries : (n k : ℕ) (l : List ℕ) → length l ≡ k + n → entries n k l ≡ drop k l
all-entries zero k l e = sym (drop_of_length-le l {i = k} (omega arith))
all-entries (suc n) k l e = ap (λ (t : List ℕ). get_or l k 0 ∷ t) (all-entries n (suc k) l (omega arith)) ∙ sym (drop-cons l k 0 (omega arith))

module _ (state : List ℕ) where
  pub stream-is : length state ≡ 6 → (p : Profile) (f : Phase) (r : Reading) → profile_of (get_or state 0 0) ≡ Some p
      → phase_of (get_or state 1 0) ≡ Some f → reading_number r ≡ get_or state 2 0
      → numbers_of (record { profile = p; reading = r; phase = f; given = get_or state 3 0; held = get_or state 4 0; total = get_or state 5 0 }) ≡ state
  stream-is l p f r a b c =
      let i = profile-number (get_or state 0 0) p a in
      let j = phase-number (get_or state 1 0) f b in
      let rest : List ℕ = get_or state 3 0 ∷ get_or state 4 0 ∷ get_or state 5 0 ∷ [] in
      ap (λ (k : ℕ). k ∷ phase_number f ∷ reading_number r ∷ rest) i
      ∙ ap (λ (k : ℕ). get_or state 0 0 ∷ k ∷ reading_number r ∷ rest) j
      ∙ ap (λ (k : ℕ). get_or state 0 0 ∷ get_or state 1 0 ∷ k ∷ rest) c
      ∙ all-entries 6 0 state l

  -- no stream has a number that is no profile's, no phase's, or no reading's
  pub no-profile : profile_of (get_or state 0 0) ≡ None → NoStreams state
  no-profile a s e =
      let h : profile_of (get_or state 0 0) ≡ Some s.profile = ap (λ (l : List ℕ). profile_of (get_or l 0 0)) (sym e) ∙ profile-back s.profile in
      let z : ◌≡◌ {A = ℕ} 0 1 = cc in
      omega arith

  pub no-phase : phase_of (get_or state 1 0) ≡ None → NoStreams state
  no-phase a s e =
      let h : phase_of (get_or state 1 0) ≡ Some s.phase = ap (λ (l : List ℕ). phase_of (get_or l 1 0)) (sym e) ∙ phase-back s.phase in
      let z : ◌≡◌ {A = ℕ} 0 1 = cc in
      omega arith

  pub no-reading : 47 ≤ get_or state 2 0 → NoStreams state
  no-reading a s e = omega (arith, reading_small s.reading, ap (λ (l : List ℕ). get_or l 2 0) e)
