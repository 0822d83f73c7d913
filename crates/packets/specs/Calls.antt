-- What the calls owe: of a stream whose numbers are given, the numbers of what its call owes, and the numbers of the stream to go on with; of
-- numbers that are no stream's a status of its own, and everything lent as it was. Assumes nothing.
use Rattle.std.specs.Prelude.{ℕ, ◌≡◌, List, ◌⊎◌}
use Rattle.intake.specs.declared.state.Stream.{Stream}
use Rattle.codes.specs.Profiles.{profile_of, unknown_profile, Under}
use Rattle.stream.specs.declared.stream.Given.{Given}
use Rattle.stream.specs.Calls.{begun, Offered, Finished}
use Rattle.packets.specs.States.{numbers_of, NoStreams}
use Rattle.packets.specs.Numbers.{of_stream, seven}

-- the statuses where the numbers are no stream's, and where more is wanted
abbrev pub unknown_stream : ℕ
unknown_stream = 98

abbrev pub more_wanted : ℕ
more_wanted = 103

-- begin, with the six numbers of the state before and after
abbrev pub BeginCall : ℕ → List ℕ → ℕ → List ℕ → Type 0
BeginCall profile old status new =
    Under (profile_of profile) (λ p. (status ≡ more_wanted) × (new ≡ numbers_of (begun p))) ((status ≡ unknown_profile) × (new ≡ old))

-- what was given, in numbers
abbrev pub Gave : Given → ℕ → List ℕ → List ℕ → Type 0
Gave g status state numbers =
    (status ≡ (of_stream g.answer).status) × (state ≡ numbers_of g.stream) × (numbers ≡ seven (of_stream g.answer) g.taken)

-- the numbers are a stream's, of which something is owed; or no stream's, and the state, the row and the seven numbers stay
abbrev pub Of : (Stream → Given → Type 0) → List ℕ → List ℕ → List ℕ → ℕ → List ℕ → List ℕ → List ℕ → Type 0
Of owed state row lent status state' row' numbers =
    ((s : Stream) × (numbers_of s ≡ state) × (g : Given) × owed s g × Gave g status state' numbers) ⊎
    (NoStreams state × (status ≡ unknown_stream) × (state' ≡ state) × (row' ≡ row) × (numbers ≡ lent))

-- offer and finish, with the state, the row and the seven numbers before and after
abbrev pub OfferCall : List ℕ → List ℕ → List ℕ → List ℕ → ℕ → List ℕ → List ℕ → List ℕ → Type 0
OfferCall state row part lent status state' row' numbers =
    Of (λ s g. Offered s row part g row') state row lent status state' row' numbers

abbrev pub FinishCall : List ℕ → List ℕ → List ℕ → ℕ → List ℕ → List ℕ → List ℕ → Type 0
FinishCall state row lent status state' row' numbers = Of (λ s g. Finished s row g row') state row lent status state' row' numbers
