-- The table of texts holds. Assumes nothing.
use Prim.Native.Nat.{ℕ}
use mathlib.Core.Path.{◌≡◌, refl, sym, ◌∙◌, ap, subst}
use mathlib.Core.Bool.{Bool, true, false, not, ◌&&◌, true≢false}
use mathlib.Core.List.{List, [], ◌∷◌, map, nil≢cons, head-eq_of_cons-eq, tail-eq_of_cons-eq}
use lib.Dec.{T, eqb, eqb→eq}
use Rattle.keywords.specs.Kinds.{kind}
use Rattle.keywords.proofs.Logic.{and_left, and_right}
use Rattle.keywords.specs.Words.{word_list}
use Rattle.words.specs.Bytes.{is_digit, is_hexdigit, is_identifier_start, is_identifier_continue, is_blank}
use Rattle.words.specs.Word.{upper, kind_of}
use Rattle.triggers.proofs.EndLaws.{ends_now, ends_now_lem}
use Rattle.grammar.specs.Classes.{operators, rules}
use Rattle.grammar.specs.Answers.{answer}
use Rattle.grammar.specs.Longest.{Every}
use Rattle.walks.specs.Walk.{Legal}
use Rattle.walks.proofs.Computed.{Stop, nowhere, stop, Test, walk, Decides, Right, from-here}
use Rattle.cuts.specs.declared.Statement.{Statement}
use Rattle.cuts.specs.Cuts.{CutAnswer, kinds_of, Within, some_not_none, cut_answer, Cutting, values_of, Cuts}
use Rattle.cuts.specs.Texts.{CutRow, cuts}
use Rattle.cuts.proofs.Theorems.{cutting-unique}

-- what the cut of a row answers, if the walk has stopped
abbrev cut_given : CutRow → Stop → List CutAnswer
cut_given r nowhere = []
cut_given r (stop l to there) = cut_answer r.from (some_not_none l) there ∷ []

-- no semicolon that ends the statement
abbrev within : Test
within l t = not (eqb t.kind (kind "TK_SEMI") && ends_now (kinds_of l))

abbrev cut_walk : CutRow → Stop
cut_walk r = walk 40 within r.source [] r.from

computed-cuts : map (λ r. cut_given r (cut_walk r)) cuts ≡ map (λ r. r.answer ∷ []) cuts
unfolding cuts some_not_none kinds_of rules operators is_digit is_hexdigit is_identifier_start is_identifier_continue is_blank answer kind_of upper word_list
computed-cuts = refl

within-decides : Decides Within within
within-decides = record { yes = passes; not = stops }
  where
    not-false : (b : Bool) → not b ≡ false → b ≡ true
    not-false true e = refl
    not-false false e = sym e

    semi : (k : ℕ) → k ≡ kind "TK_SEMI" → eqb k (kind "TK_SEMI") ≡ true
    semi k e = rw e refl

    passes : (l : List Legal) (t : Legal) → within l t ≡ true → Within l t
    passes l t e (is, ends) =
        let p = ap (λ (b : Bool). not (b && ends_now (kinds_of l))) (semi t.kind is) in
        let q = ap (λ (b : Bool). not (true && b)) ((ends_now_lem (kinds_of l)).1 ends) in
        true≢false (sym e ∙ p ∙ q)

    stops : (l : List Legal) (t : Legal) → within l t ≡ false → Within l t → ⊥
    stops l t e o =
        let both = not-false (eqb t.kind (kind "TK_SEMI") && ends_now (kinds_of l)) e in
        let is = and_left (eqb t.kind (kind "TK_SEMI")) (ends_now (kinds_of l)) both in
        let ends = and_right (eqb t.kind (kind "TK_SEMI")) (ends_now (kinds_of l)) both in
        o (eqb→eq t.kind (kind "TK_SEMI") (subst T (sym is) tt), (ends_now_lem (kinds_of l)).0 ends)

cut-row : (r : CutRow) (w : Stop) → Right Within r.source r.from w → cut_given r w ≡ r.answer ∷ []
    → Cutting r.source r.from r.answer
cut-row r nowhere x e = absurd (nil≢cons e)
cut-row r (stop l to there) (p, g, stuck) e =
    record {
      walk = record { passed = l; to = to; passes = p; there = there; gives = g; stops = stuck };
      answers = sym (head-eq_of_cons-eq e);
    }

-- a row's answer is that of the definition, and whatever meets the contract of `cut` answers so
abbrev pub CutSo : CutRow → Type 0
CutSo r = Cutting r.source r.from r.answer × ((q : Statement) → Cuts r.source r.from q → values_of q ≡ r.answer)

cut-so : (r : CutRow) → Cutting r.source r.from r.answer → CutSo r
unfolding Cuts
cut-so r x = (x, λ q y. cutting-unique r.source r.from (values_of q) r.answer y x)

-- The rows of the table hold of the cut.
pub cut-texts : Every CutSo cuts
cut-texts = every-row cuts computed-cuts
  where
    every-row : (l : List CutRow) → map (λ r. cut_given r (cut_walk r)) l ≡ map (λ r. r.answer ∷ []) l → Every CutSo l
    every-row [] e = tt
    every-row (r ∷ l) e =
        let right = from-here Within within within-decides r.source r.from 40 in
        (cut-so r (cut-row r (cut_walk r) right (head-eq_of_cons-eq e)), every-row l (tail-eq_of_cons-eq e))
