-- What the check of a list made elsewhere owes: whether its records are those that List would write from offset 0. Assumes nothing.
use Rattle.std.specs.Prelude.{ℕ, suc, ◌≤◌, ◌<◌, ◌≡◌, Bool, true, cond, not, ◌&&◌, List, [], ◌∷◌, ◌⊎◌, eqb, length, take, get_or, Result, Ok, Err}
use Rattle.grammar.specs.Answers.{Answer, is_refusal}
use Rattle.grammar.specs.Longest.{Source}
use Rattle.records.specs.declared.Record.{Record}
use Rattle.walks.specs.Walk.{Always, Walk}
use Rattle.lists.specs.Lists.{records_of, longest_text}
use Rattle.agreeing.specs.declared.CheckError.{CheckError}
use Rattle.agreeing.specs.declared.CheckError.TheVariants.{TooLong, ListDiffers}
use Rattle.agreeing.specs.Refusals.{check_refusal}

-- in two records each of the five numbers is the same
abbrev pub same : Record → Record → Bool
same r q =
    eqb r.kind q.kind && eqb r.start q.start && eqb r.length q.length && eqb r.line q.line && eqb r.column q.column

-- how many records agree, from the first on: the index of the first that differs, is surplus or is missing
unfoldable pub agreeing : List Record → List Record → ℕ
agreeing [] qs = 0
agreeing (r ∷ rs) [] = 0
agreeing (r ∷ rs) (q ∷ qs) = cond (same r q) (suc (agreeing rs qs)) 0

-- all of both lists do
abbrev pub all_agree : List Record → List Record → Bool
all_agree rs qs = eqb (agreeing rs qs) (length rs) && eqb (agreeing rs qs) (length qs)

-- a list is accepted, or refused with an index
pub data Verdict : Type 0 where
  accepted : Verdict
  refused : (number index : ℕ) → Verdict

abbrev pub too_long : Verdict
too_long = refused (check_refusal "TooLong") 0

abbrev pub list_differs : ℕ → Verdict
list_differs index = refused (check_refusal "ListDiffers") index

-- by the text's own records and what Next gives behind them: accepted where all agree and no lexeme is refused
abbrev pub verdict : List Record → List Record → Answer → Verdict
verdict rs own there = cond (all_agree rs own && not (is_refusal there)) accepted (list_differs (agreeing rs own))

-- the text's own are the records of all its lexemes up to its end or the first refusal, as List writes them where it has room for all
pub record Checking (s : Source) (rs : List Record) (v : Verdict) : Type 0 where
  pub walk : Walk Always s 0
  pub answers : v ≡ verdict rs (records_of s.text walk.passed) walk.there

-- what each case of an answer says
abbrev pub verdict_of : Result (Unit {0}) CheckError → Verdict
verdict_of (Ok u) = accepted
verdict_of (Err TooLong) = too_long
verdict_of (Err (ListDiffers index)) = list_differs index

-- the answer r on a list: a text that is too long is refused first
unfoldable pub Checks : Source → List Record → Result (Unit {0}) CheckError → Type 0
Checks s rs r =
    ((longest_text < length s.text) × (verdict_of r ≡ too_long)) ⊎ ((length s.text ≤ longest_text) × Checking s rs (verdict_of r))

-- For `first-differs`: an index, beside the text's own records and what Next gives behind them. Both lists have records up to there, and these
-- are the same; where both have one there, the two differ; where both have ended, the text is refused there.
pub record DiffersAt (rs own : List Record) (there : Answer) (i : ℕ) : Type 0 where
  pub reached : (i ≤ length rs) × (i ≤ length own)
  pub before : take i rs ≡ take i own
  pub within : (d : Record) → i < length rs → i < length own → get_or rs i d ≡ get_or own i d → ⊥
  pub behind : i ≡ length rs → i ≡ length own → is_refusal there ≡ true
