-- What the calls owe: the numbers of an answer that the call below them owes under the profile whose number is given; for a number that is
-- no profile's a status of its own, and everything lent as it was. Assumes nothing.
use Rattle.std.specs.Prelude.{ℕ, ◌≡◌, List, Result}
use Rattle.grammar.specs.Longest.{Source, source}
use Rattle.lexer.specs.declared.lexed.Lexed.{Lexed}
use Rattle.lexer.specs.Values.{LexesUnder}
use Rattle.cuts.specs.declared.Statement.{Statement}
use Rattle.cuts.specs.Cuts.{Cuts}
use Rattle.lists.specs.declared.list.Listed.{Listed}
use Rattle.lists.specs.declared.part.Part.{Part}
use Rattle.lists.specs.Lists.{records_in, Lists}
use Rattle.lists.specs.Parts.{spent_in, Parts}
use Rattle.records.specs.declared.Record.{Record}
use Rattle.agreeing.specs.declared.CheckError.{CheckError}
use Rattle.agreeing.specs.Agreeing.{Checks, verdict_of}
use Rattle.brackets.specs.Numbers as Brackets
use Rattle.codes.specs.declared.answers.Numbers.{Numbers}
use Rattle.codes.specs.Told.{of_next, of_list, of_part, of_cut, written}
use Rattle.codes.specs.Profiles.{profile_of, unknown_profile, Under}
use Rattle.packets.specs.Numbers.{seven}
use Rattle.verdicts.specs.Verdicts.{GaveVerdict}
use Rattle.verdicts.specs.Pairing.{GavePairing}

-- the status and the six numbers written
abbrev pub Gave : Numbers → ℕ → List ℕ → Type 0
Gave r status six = (status ≡ r.status) × (six ≡ written r)

-- Next
pub record NextNumbers (s : Source) (at status : ℕ) (six : List ℕ) : Type 0 where
  pub answer : Lexed
  pub owed : LexesUnder s.profile s.text at answer
  pub gave : Gave (of_next answer) status six

-- with the six numbers before and after
abbrev pub NextCall : List ℕ → ℕ → ℕ → List ℕ → ℕ → List ℕ → Type 0
NextCall s at profile lent status six =
    Under (profile_of profile) (λ p. NextNumbers (source p s) at status six) ((status ≡ unknown_profile) × (six ≡ lent))

-- List, with the list before and after
pub record ListNumbers (s : Source) (at : ℕ) (old : List ℕ) (status : ℕ) (six new : List ℕ) : Type 0 where
  pub answer : Listed
  pub owed : Lists s at old answer new
  pub gave : Gave (of_list answer) status six

abbrev pub ListCall : List ℕ → ℕ → ℕ → List ℕ → List ℕ → ℕ → List ℕ → List ℕ → Type 0
ListCall s at profile old lent status six new =
    Under (profile_of profile) (λ p. ListNumbers (source p s) at old status six new)
    ((status ≡ unknown_profile) × (six ≡ lent) × (new ≡ old))

-- the list without TK_NONE, as far as an allowance lasts; the last of the seven numbers is how many lexemes were spent
abbrev pub GavePart : Part → ℕ → List ℕ → Type 0
GavePart r status numbers = (status ≡ (of_part r).status) × (numbers ≡ seven (of_part r) (spent_in r))

pub record PartNumbers (s : Source) (at allowance : ℕ) (old : List ℕ) (status : ℕ) (numbers new : List ℕ) : Type 0 where
  pub answer : Part
  pub owed : Parts s at allowance old answer new
  pub gave : GavePart answer status numbers

abbrev pub PartCall : List ℕ → ℕ → ℕ → ℕ → List ℕ → List ℕ → ℕ → List ℕ → List ℕ → Type 0
PartCall s at profile allowance old lent status numbers new =
    Under (profile_of profile) (λ p. PartNumbers (source p s) at allowance old status numbers new)
    ((status ≡ unknown_profile) × (numbers ≡ lent) × (new ≡ old))

-- List from the text's beginning on: how many records it wrote, and the list
pub record ListCount (s : Source) (old : List ℕ) (records : ℕ) (new : List ℕ) : Type 0 where
  pub answer : Listed
  pub owed : Lists s 0 old answer new
  pub gave : records ≡ records_in answer

abbrev pub CountCall : List ℕ → ℕ → List ℕ → ℕ → List ℕ → Type 0
CountCall s profile old records new =
    Under (profile_of profile) (λ p. ListCount (source p s) old records new) ((records ≡ 0) × (new ≡ old))

-- the cut
pub record CutNumbers (s : Source) (at status : ℕ) (six : List ℕ) : Type 0 where
  pub answer : Statement
  pub owed : Cuts s at answer
  pub gave : Gave (of_cut answer) status six

abbrev pub CutCall : List ℕ → ℕ → ℕ → List ℕ → ℕ → List ℕ → Type 0
CutCall s at profile lent status six =
    Under (profile_of profile) (λ p. CutNumbers (source p s) at status six) ((status ≡ unknown_profile) × (six ≡ lent))

-- the check of a list, with the index before and after
pub record CheckNumbers (s : Source) (records : List Record) (status index : ℕ) : Type 0 where
  pub answer : Result (Unit {0}) CheckError
  pub owed : Checks s records answer
  pub gave : GaveVerdict (verdict_of answer) status index

abbrev pub CheckCall : List ℕ → ℕ → List Record → ℕ → ℕ → ℕ → Type 0
CheckCall s profile records old status index =
    Under (profile_of profile) (λ p. CheckNumbers (source p s) records status index) ((status ≡ unknown_profile) × (index ≡ old))

-- the pairing of brackets, with the partners before and after
abbrev pub PairCall : List ℕ → List ℕ → ℕ → ℕ → List ℕ → Type 0
PairCall numbers old status value new = GavePairing (Brackets.outcome numbers old) status value × (new ≡ Brackets.written numbers old)
