-- For readers. `cut-unique`: two answers that meet the contract are equal. `cut-ends-with-semi`, `cut-as-before`: where a statement ends, and
-- that all but triggers end where document 01 has it. The table of texts: TextLaws.antt. Assumes nothing.
use Prim.Native.Nat.{ℕ, ◌+◌, ◌-◌}
use native.Mathlib.Omega.{arith}
use mathlib.Core.Path.{◌≡◌, refl, sym, ◌∙◌, ap, subst, subst₂}
use mathlib.Core.Bool.{Bool, true, false}
use mathlib.Core.List.{List, [], ◌∷◌, ◌++◌, append_assoc}
use mathlib.Core.Logic.{⊎_elim}
use Rattle.keywords.specs.Kinds.{kind}
use Rattle.triggers.specs.Triggers.{IsTrigger, EndsStatement}
use Rattle.triggers.proofs.Theorems.{ends-or-not, as_before, still-trigger}
use Rattle.grammar.specs.Answers.{Answer, token, end, refusal}
use Rattle.grammar.specs.Longest.{Source, Next}
use Rattle.grammar.proofs.Tokens.{told}
use Rattle.lexer.specs.declared.cursor.Cursor.{Cursor}
use Rattle.lexer.specs.declared.lexed.Refusal.{Refusal}
use Rattle.lexer.specs.Eaten.{cursor}
use Rattle.lexer.proofs.Theorems.{refusal_of, refusal-back}
use Rattle.walks.specs.Walk.{Legal, token_of, Goes, Passes, Walk}
use Rattle.walks.proofs.WalkLaws.{legal, is-legal, known, passes-ahead, walk-one}
use Rattle.cuts.specs.declared.Statement.{Statement}
use Rattle.cuts.specs.declared.Statement.TheVariants.{Cut, Open, End as Over, Refused as Bad}
use Rattle.cuts.specs.Cuts.{CutAnswer, cut, opened, ended, refused, kinds_of, Within, some_not_none, cut_answer, Cutting, values_of, Cuts}
use Rattle.cuts.proofs.CutLaws.{kinds-append}

-- An answer of the cut can be read back from its values.
abbrev statement_of : CutAnswer → Statement
statement_of (cut start n any offset) = Cut start n any (cursor offset)
statement_of (opened start n offset) = Open start n (cursor offset)
statement_of (ended start n offset) = Over (cursor offset)
statement_of (refused number start n offset) = Bad (refusal_of number) start n (cursor offset)

statement-back : (r : Statement) → statement_of (values_of r) ≡ r
statement-back (Cut start n any next) = refl
statement-back (Open start n next) = refl
statement-back (Over next) = refl
statement-back (Bad why start n next) = ap (λ (w : Refusal). Bad w start n next) (refusal-back why)

pub cutting-unique : (s : Source) (from : ℕ) (a b : CutAnswer) → Cutting s from a → Cutting s from b → a ≡ b
cutting-unique s from a b x y =
    let (p, e, t) = walk-one Within s from x.walk y.walk in
    x.answers ∙ ap (λ (l : List Legal). cut_answer from (some_not_none l) x.walk.there) p ∙
    ap (cut_answer from (some_not_none y.walk.passed)) t ∙ sym y.answers

-- The contract of `cut` leaves one answer.
pub cut-unique : (s : Source) (from : ℕ) (r q : Statement) → Cuts s from r → Cuts s from q → r ≡ q
unfolding Cuts
cut-unique s from r q x y =
    sym (statement-back r) ∙ ap statement_of (cutting-unique s from (values_of r) (values_of q) x y) ∙ statement-back q

-- What ends a cut is a semicolon, up to and with which its span goes; by the kinds before it it ends the statement, and none before it does.
abbrev pub ToSemi : Source → ℕ → ℕ → ℕ → Type 0
ToSemi s from start n =
    (start ≡ from) ×
    (before : List Legal) ×
    (t : Legal) ×
    Passes Within s [] from before t.start ×
    Next s t.start (token_of t) ×
    (t.kind ≡ kind "TK_SEMI") ×
    EndsStatement (kinds_of before) ×
    (start + n ≡ t.start + t.length)

pub cut-ends-with-semi : (s : Source) (from start n : ℕ) (any : Bool) (next : Cursor) → Cuts s from (Cut start n any next)
    → ToSemi s from start n
unfolding Cuts
cut-ends-with-semi s from start n any next x = by_answer x.walk.there x.walk.gives x.walk.stops x.answers
  where
    not-at-end : (b : Bool) (offset : ℕ) → cut start n any next.at ≡ cut_answer from b (end offset) → ⊥
    not-at-end true offset e = let z : ◌≡◌ {A = ℕ} 0 1 = cc in omega arith
    not-at-end false offset e = let z : ◌≡◌ {A = ℕ} 0 1 = cc in omega arith

    by_answer : (a : Answer) → Next s x.walk.to a → ((t : Legal) → a ≡ token_of t → Within x.walk.passed t → ⊥)
        → cut start n any next.at ≡ cut_answer from (some_not_none x.walk.passed) a
        → ToSemi s from start n
    by_answer (token k begin m behind d u) g stuck e =
        let o = told s.profile s.text x.walk.to k begin m behind d u g in
        let t = legal k begin m d u in
        let same = is-legal s x.walk.to k begin m behind d u g in
        let semi = known k (kind "TK_SEMI") (λ other. stuck t same (λ y. other y.0)) in
        let ends = ⊎_elim (λ y. y) (λ f. absurd (stuck t same (λ y. f y.1))) (ends-or-not (kinds_of x.walk.passed)) in
        let passes = x.walk.passes in
        let ahead = passes-ahead Within s [] from x.walk.passed x.walk.to passes in
        let p : start ≡ from = cc in
        let q : n ≡ behind - from = cc in
        let b = o.goes in
        let c = o.starts in (
          p,
          x.walk.passed,
          t,
          subst (Passes Within s [] from x.walk.passed) (sym c) passes,
          subst₂ (Next s) (sym c) same g,
          semi,
          ends,
          omega arith,
        )
    by_answer (end offset) g stuck e = absurd (not-at-end (some_not_none x.walk.passed) offset e)
    by_answer (refusal k begin m offset) g stuck e = let z : ◌≡◌ {A = ℕ} 0 1 = cc in absurd (omega arith)

-- Document 01's rule for the cut: it passes every token but a semicolon.
abbrev pub NoSemi : Goes
NoSemi before t = t.kind ≡ kind "TK_SEMI" → ⊥

-- Where the statement is no trigger's, the cut is document 01's.
pub cut-as-before : (s : Source) (from : ℕ) (a : CutAnswer) (x : Cutting s from a) → (IsTrigger (kinds_of x.walk.passed) → ⊥)
    → (w : Walk NoSemi s from) × (a ≡ cut_answer from (some_not_none w.passed) w.there)
unfolding Passes
cut-as-before s from a x none = (walk, x.answers)
  where
    no-semi : (before : List Legal) (at : ℕ) (l : List Legal) (to : ℕ) → (IsTrigger (kinds_of (before ++ l)) → ⊥)
        → Passes Within s before at l to → Passes NoSemi s before at l to
    no-semi before at [] to other p = p
    no-semi before at (t ∷ l) to other (e, g, o, p) =
        let none : IsTrigger (kinds_of before) → ⊥ =
        λ y. other (subst IsTrigger (sym (kinds-append before (t ∷ l))) (still-trigger (kinds_of before) (kinds_of (t ∷ l)) y)) in
        let other' = subst (λ (m : List Legal). IsTrigger (kinds_of m) → ⊥) (sym (append_assoc before (t ∷ []) l)) other in
        (e, g, λ semi. o (semi, as_before (kinds_of before) none), no-semi (before ++ (t ∷ [])) (at + t.length) l to other' p)

    walk : Walk NoSemi s from
    walk =
        record {
          passed = x.walk.passed;
          to = x.walk.to;
          passes = no-semi [] from x.walk.passed x.walk.to none x.walk.passes;
          there = x.walk.there;
          gives = x.walk.gives;
          stops = λ t e other. x.walk.stops t e (λ y. other y.0);
        }
