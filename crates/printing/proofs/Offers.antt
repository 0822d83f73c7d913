-- A token that is printed leads on in the part. Assumes nothing.
use Prim.Native.Nat.{ℕ, ◌+◌, ◌-◌, ◌≤◌, ◌<◌}
use mathlib.Core.Path.{◌≡◌, refl, sym, ◌∙◌}
use mathlib.Core.Bool.{true}
use mathlib.Core.List.{List}
use lib.ListN.{length}
use Rattle.intake.specs.declared.state.Stream.{Stream}
use Rattle.stream.specs.declared.stream.Given.{Given}
use Rattle.stream.specs.declared.stream.Answer as A
use Rattle.stream.specs.declared.stream.Answer.TheVariants.{Token, More, End, Refused, Closed, TooLong, LexemeTooLong}
use Rattle.stream.specs.Calls.{values_of, Offered}
use Rattle.stream.proofs.Progress as told
use Rattle.stream.proofs.Progress.{held_behind, leads}
use Rattle.printing.specs.Streams.{is_token}

told-alike : (a : A.Answer) → is_token a ≡ told.is_token (values_of a)
told-alike (Token kind start n next d u) = refl
told-alike More = refl
told-alike (End next) = refl
told-alike (Refused why start n next) = refl
told-alike (Closed next) = refl
told-alike (TooLong next) = refl
told-alike (LexemeTooLong next) = refl

-- fewer bytes are left, of the part and of those held
abbrev pub LeadsOn : Stream → List ℕ → Given → Type 0
LeadsOn s part g = (g.taken ≤ length part) × (length part - g.taken + held_behind g.stream < length part + held_behind s)

pub leads_on : (s : Stream) (row part : List ℕ) (g : Given) (new : List ℕ) → Offered s row part g new → is_token g.answer ≡ true
    → LeadsOn s part g
leads_on s row part g new h t = leads s row part g new h (sym (told-alike g.answer) ∙ t)
