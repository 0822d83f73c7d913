-- For readers. `numbers-one`: two streams with the same six numbers are the same stream. `begin-unique`, `offer-unique`, `finish-unique`: two
-- results that meet a call's contract are equal: the status, the state, the row and the seven numbers. Assumes nothing.
use Prim.Native.Nat.{ℕ}
use mathlib.Core.Path.{◌≡◌, sym, ◌∙◌, ap, subst}
use mathlib.Core.List.{List}
use mathlib.Core.Logic.{inl, inr}
use lib.ListN.{get_or}
use Rattle.grammar.specs.declared.profile.Profile.{Profile}
use Rattle.readings.specs.declared.reading.Reading.{Reading}
use Rattle.intake.specs.declared.state.Phase.{Phase}
use Rattle.intake.specs.declared.state.Stream.{Stream}
use Rattle.stream.specs.declared.stream.Given.{Given}
use Rattle.stream.proofs.Theorems.{offered-unique, finished-unique}
use Rattle.codes.specs.Profiles.{profile_of}
use Rattle.codes.proofs.CodeLaws.{by-profile}
use Rattle.codes.proofs.Theorems.{profile-one}
use Rattle.labels.proofs.Theorems.{phase-one, reading-one}
use Rattle.packets.specs.States.{numbers_of}
use Rattle.packets.specs.Numbers.{of_stream, seven}
use Rattle.packets.specs.Calls.{BeginCall, Gave, Of, OfferCall, FinishCall}

pub numbers-one : (s t : Stream) → numbers_of s ≡ numbers_of t → s ≡ t
numbers-one s t e =
    let at : (k : ℕ) → get_or (numbers_of s) k 0 ≡ get_or (numbers_of t) k 0 = λ k. ap (λ (l : List ℕ). get_or l k 0) e in
    ap (λ (p : Profile). record { profile = p; reading = s.reading; phase = s.phase; given = s.given; held = s.held; total = s.total })
    (profile-one s.profile t.profile (at 0))
    ∙ ap (λ (f : Phase). record { profile = t.profile; reading = s.reading; phase = f; given = s.given; held = s.held; total = s.total })
    (phase-one s.phase t.phase (at 1))
    ∙ ap (λ (r : Reading). record { profile = t.profile; reading = r; phase = t.phase; given = s.given; held = s.held; total = s.total })
    (reading-one s.reading t.reading (at 2))
    ∙ ap (λ (n : ℕ). record { profile = t.profile; reading = t.reading; phase = t.phase; given = n; held = s.held; total = s.total }) (at 3)
    ∙ ap (λ (n : ℕ). record { profile = t.profile; reading = t.reading; phase = t.phase; given = t.given; held = n; total = s.total }) (at 4)
    ∙ ap (λ (n : ℕ). record { profile = t.profile; reading = t.reading; phase = t.phase; given = t.given; held = t.held; total = n }) (at 5)

pub begin-unique : (profile : ℕ) (old : List ℕ) (m n : ℕ) (k l : List ℕ) → BeginCall profile old m k → BeginCall profile old n l → (m ≡ n) × (k ≡ l)
begin-unique profile old m n k l =
    by-profile (profile_of profile) _ _ _ _ _
    (λ p x y. (x.0 ∙ sym y.0, x.1 ∙ sym y.1))
    (λ x y. (x.0 ∙ sym y.0, x.1 ∙ sym y.1))

-- What two results have in common, each with its status, state, row and seven numbers.
abbrev Same : ℕ → List ℕ → List ℕ → List ℕ → ℕ → List ℕ → List ℕ → List ℕ → Type 0
Same m k r v n l q w = (m ≡ n) × (k ≡ l) × (r ≡ q) × (v ≡ w)

gave_one : (g h : Given) (m n : ℕ) (k l v w : List ℕ) → g ≡ h → Gave g m k v → Gave h n l w → (m ≡ n) × (k ≡ l) × (v ≡ w)
gave_one g h m n k l v w e (a, b, c) (d, f, i) = (
  a ∙ ap (λ (x : Given). (of_stream x.answer).status) e ∙ sym d,
  b ∙ ap (λ (x : Given). numbers_of x.stream) e ∙ sym f,
  c ∙ ap (λ (x : Given). seven (of_stream x.answer) x.taken) e ∙ sym i,
)

-- a call that owes one result and one row of each stream
of_one : (A B : Stream → Given → Type 0) (state row lent : List ℕ) (m n : ℕ) (k l r q v w : List ℕ)
    → ((s : Stream) (g h : Given) → A s g → B s h → (g ≡ h) × (r ≡ q))
    → Of A state row lent m k r v → Of B state row lent n l q w → Same m k r v n l q w
of_one A B state row lent m n k l r q v w one (inl (s, e, g, x, a)) (inl (t, f, h, y, b)) =
    let (i, j) = one s g h x (subst (λ (z : Stream). B z h) (numbers-one t s (f ∙ sym e)) y) in
    let (c, d, u) = gave_one g h m n k l v w i a b in
    (c, d, j, u)
of_one A B state row lent m n k l r q v w one (inl (s, e, g, x, a)) (inr (none, b, c, d, f)) = absurd (none s e)
of_one A B state row lent m n k l r q v w one (inr (none, a, b, c, d)) (inl (t, f, h, y, e)) = absurd (none t f)
of_one A B state row lent m n k l r q v w one (inr (none, a, b, c, d)) (inr (none', e, f, g, h)) = (a ∙ sym e, b ∙ sym f, c ∙ sym g, d ∙ sym h)

pub offer-unique : (state row part lent : List ℕ) (m n : ℕ) (k l r q v w : List ℕ)
    → OfferCall state row part lent m k r v → OfferCall state row part lent n l q w → (m ≡ n) × (k ≡ l) × (r ≡ q) × (v ≡ w)
offer-unique state row part lent m n k l r q v w =
    of_one _ _ state row lent m n k l r q v w (λ s g h x y. offered-unique s row part g h r q x y)

pub finish-unique : (state row lent : List ℕ) (m n : ℕ) (k l r q v w : List ℕ)
    → FinishCall state row lent m k r v → FinishCall state row lent n l q w → (m ≡ n) × (k ≡ l) × (r ≡ q) × (v ≡ w)
finish-unique state row lent m n k l r q v w = of_one _ _ state row lent m n k l r q v w (λ s g h x y. finished-unique s row g h r q x y)
