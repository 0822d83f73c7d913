-- What `pair` owes. Assumes nothing.
use Rattle.std.specs.Prelude.{ℕ, ◌≡◌, List, Result, Ok, Err}
use Rattle.brackets.specs.Refusals.{pair_refusal}
use Rattle.brackets.specs.Brackets.{Outcome, deepest, refused}
use Rattle.brackets.specs.Numbers.{outcome, written}
use Rattle.pairs.specs.declared.PairError.{PairError}
use Rattle.pairs.specs.declared.PairError.TheVariants.{NotRecords, TooLong, NoRoom, TooDeep, WrongCloser, LeftOpen}

-- what each case of a refusal says
abbrev pub refusal_of : PairError → Outcome
refusal_of NotRecords = refused (pair_refusal "NotRecords") 0
refusal_of TooLong = refused (pair_refusal "TooLong") 0
refusal_of NoRoom = refused (pair_refusal "NoRoom") 0
refusal_of (TooDeep index) = refused (pair_refusal "TooDeep") index
refusal_of (WrongCloser index) = refused (pair_refusal "WrongCloser") index
refusal_of (LeftOpen index) = refused (pair_refusal "LeftOpen") index

-- and of an answer: how deep the brackets nest, or a refusal
abbrev pub outcome_of : Result ℕ PairError → Outcome
outcome_of (Ok d) = deepest d
outcome_of (Err e) = refusal_of e

-- the answer r on a list of numbers, and the lent list before and after the call
unfoldable pub Pairs : List ℕ → List ℕ → Result ℕ PairError → List ℕ → Type 0
Pairs ns before r after = (outcome_of r ≡ outcome ns before) × (after ≡ written ns before)
