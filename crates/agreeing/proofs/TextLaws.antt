-- The table of texts holds. Assumes nothing.
use mathlib.Core.Path.{◌≡◌, refl, sym, ap, subst}
use mathlib.Core.Bool.{Bool, true, true≢false}
use mathlib.Core.List.{List, [], ◌∷◌, map, nil≢cons, head-eq_of_cons-eq}
use mathlib.Core.Logic.{inl, inr}
use lib.Dec.{T, leb, leb→le}
use lib.ListN.{length}
use native.Mathlib.Omega.{arith}
use Rattle.keywords.specs.Words.{word_list}
use Rattle.keywords.proofs.Logic.{every}
use Rattle.words.specs.Bytes.{is_digit, is_hexdigit, is_identifier_start, is_identifier_continue, is_blank}
use Rattle.words.specs.Word.{upper, kind_of}
use Rattle.grammar.specs.Classes.{operators, rules}
use Rattle.grammar.specs.Answers.{answer}
use Rattle.grammar.specs.Longest.{Every}
use Rattle.places.specs.Places.{newlines, since_newline, line_at, column_at}
use Rattle.walks.specs.Walk.{Always}
use Rattle.walks.proofs.Computed.{Stop, nowhere, stop, Test, walk, Decides, Right, from-here, every-so}
use Rattle.lists.specs.Lists.{records_of, longest_text}
use Rattle.std.specs.Prelude.{Result}
use Rattle.agreeing.specs.declared.CheckError.{CheckError}
use Rattle.agreeing.specs.Agreeing.{agreeing, verdict, Checking, verdict_of, Checks}
use Rattle.agreeing.specs.Texts.{CheckRow, checks}
use Rattle.agreeing.proofs.Theorems.{checking-unique}

-- every lexeme
abbrev always : Test
always l t = true

always-decides : Decides Always always
always-decides = record { yes = λ l t e. tt; not = λ l t e h. true≢false e }

-- the verdict on a row, if the walk has stopped
abbrev given : CheckRow → Stop → List CheckRow
given r nowhere = []
given r (stop l to there) =
    record { source = r.source; records = r.records; verdict = verdict r.records (records_of r.source.text l) there } ∷ []

abbrev row_walk : CheckRow → Stop
row_walk r = walk 10 always r.source [] 0

computed : map (λ r. given r (row_walk r)) checks ≡ map (λ r. r ∷ []) checks
unfolding checks agreeing records_of line_at column_at newlines since_newline rules operators is_digit is_hexdigit is_identifier_start is_identifier_continue is_blank answer kind_of upper word_list
computed = refl

-- no text of the table is too long
abbrev fits : CheckRow → Bool
fits r = leb (length r.source.text) longest_text

all_fit : every fits checks ≡ true
unfolding checks
all_fit = refl

checking-row : (r : CheckRow) (w : Stop) → Right Always r.source 0 w → given r w ≡ r ∷ [] → Checking r.source r.records r.verdict
checking-row r nowhere x e = absurd (nil≢cons e)
checking-row r (stop l to there) (p, g, stuck) e =
    record {
      walk = record { passed = l; to = to; passes = p; there = there; gives = g; stops = stuck };
      answers = ap (λ (q : CheckRow). q.verdict) (sym (head-eq_of_cons-eq e));
    }

-- a row's verdict is that of the definition, and whatever meets the contract of `check_list` answers so
abbrev pub CheckSo : CheckRow → Type 0
CheckSo r =
    Checking r.source r.records r.verdict × ((q : Result (Unit {0}) CheckError) → Checks r.source r.records q → verdict_of q ≡ r.verdict)

check-so : (r : CheckRow) → fits r ≡ true → Checking r.source r.records r.verdict → CheckSo r
unfolding Checks
check-so r f x = (x, so)
  where
    so : (q : Result (Unit {0}) CheckError) → Checks r.source r.records q → verdict_of q ≡ r.verdict
    so q (inl (h, e)) = let l = leb→le (length r.source.text) longest_text (subst T (sym f) tt) in absurd (omega arith)
    so q (inr (h, y)) = checking-unique r.source r.records (verdict_of q) r.verdict y x

-- The rows of the table hold of the check.
pub check-texts : Every CheckSo checks
check-texts = every-so CheckSo (λ r. given r (row_walk r)) fits row checks computed all_fit
  where
    row : (r : CheckRow) → given r (row_walk r) ≡ r ∷ [] → fits r ≡ true → CheckSo r
    row r e f = check-so r f (checking-row r (row_walk r) (from-here Always always always-decides r.source 0 10) e)
