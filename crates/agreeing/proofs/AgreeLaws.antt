-- How far a list agrees with the text: what a step says of it, where the loop stands, and what follows where it stops. Assumes nothing.
use Prim.Native.Nat.{ℕ, suc, ◌+◌, ◌≤◌, ◌<◌}
use native.Mathlib.Omega.{arith}
use native.Mathlib.Numerals.{add-one}
use mathlib.Core.Path.{◌≡◌, refl, sym, ◌∙◌, ap, subst}
use mathlib.Core.Bool.{Bool, true, false, cond, not, ◌&&◌}
use mathlib.Core.List.{List, [], ◌∷◌, ◌++◌, append_assoc, append-nil}
use mathlib.Core.Logic.{inl, inr}
use lib.Dec.{eqb}
use lib.ListN.{length, get_or, drop, length-append, drop_of_length-le}
use lib.Seq.{drop-cons, slice}
use borrow.Author.Tests.{eqb-true, eq-eqb}
use Rattle.keywords.proofs.Logic.{split, and_left, and_right}
use Rattle.grammar.specs.Classes.{rules}
use Rattle.grammar.specs.Answers.{Answer, token, end, refusal, is_refusal}
use Rattle.grammar.specs.Longest.{Source, Next}
use Rattle.grammar.proofs.Unique.{gives-unique}
use Rattle.grammar.proofs.Tokens.{told}
use Rattle.records.specs.declared.Record.{Record}
use Rattle.records.specs.Records.{record_of as five}
use Rattle.places.specs.declared.Line.{Line}
use Rattle.places.specs.Lines.{line_over, line_of}
use Rattle.places.proofs.Theorems.{first, goes-along}
use Rattle.walks.specs.Walk.{Legal, token_of, Always, Passes, Walk}
use Rattle.walks.proofs.WalkLaws.{legal, is-legal, passes_on, passes-behind, passes_append, run}
use Rattle.lists.specs.Lists.{record_of, records_of, longest_text}
use Rattle.lists.specs.Lines.{record_on}
use Rattle.lists.proofs.KeptLaws.{records-append}
use Rattle.lists.proofs.LinesLaws.{record-made}
use Rattle.std.specs.Prelude.{Option, Some, None, Result, Err, ok_or}
use Rattle.agreeing.specs.declared.CheckError.{CheckError}
use Rattle.agreeing.specs.declared.CheckError.TheVariants.{TooLong, ListDiffers}
use Rattle.agreeing.specs.declared.step.Place.{Place}
use Rattle.agreeing.specs.Agreeing.{same, agreeing, all_agree, accepted, list_differs, verdict, Checks}
use Rattle.agreeing.specs.Steps.{beginning, own_record, Steps, verdict_at, Finishes}

-- five numbers that are the same, and the records that have them
pub same-is : (r q : Record) → same r q ≡ true → r ≡ q
same-is r q e =
    let kinds = eqb r.kind q.kind in
    let starts = eqb r.start q.start in
    let lengths = eqb r.length q.length in
    let lines = eqb r.line q.line in
    let columns = eqb r.column q.column in
    let e₄ = and_left (kinds && starts && lengths && lines) columns e in
    let e₃ = and_left (kinds && starts && lengths) lines e₄ in
    let e₂ = and_left (kinds && starts) lengths e₃ in
    let k = eqb-true r.kind q.kind (and_left kinds starts e₂) in
    let s = eqb-true r.start q.start (and_right kinds starts e₂) in
    let n = eqb-true r.length q.length (and_right (kinds && starts) lengths e₃) in
    let l = eqb-true r.line q.line (and_right (kinds && starts && lengths) lines e₄) in
    let c = eqb-true r.column q.column (and_right (kinds && starts && lengths && lines) columns e) in
    ap (λ (x : ℕ). five x r.start r.length r.line r.column) k ∙
    ap (λ (x : ℕ). five q.kind x r.length r.line r.column) s ∙
    ap (λ (x : ℕ). five q.kind q.start x r.line r.column) n ∙
    ap (λ (x : ℕ). five q.kind q.start q.length x r.column) l ∙
    ap (λ (x : ℕ). five q.kind q.start q.length q.line x) c

pub same_self : (r : Record) → same r r ≡ true
same_self r =
    rw (
      eq-eqb r.kind r.kind refl,
      eq-eqb r.start r.start refl,
      eq-eqb r.length r.length refl,
      eq-eqb r.line r.line refl,
      eq-eqb r.column r.column refl,
    )

not_same : (r q : Record) → (q ≡ r → ⊥) → same r q ≡ false
not_same r q f = split (same r q) (λ e. absurd (f (sym (same-is r q e)))) (λ e. e)

-- lists with the same front agree in it, and further as what is behind it does
pub agreeing-front : (p a b : List Record) → agreeing (p ++ a) (p ++ b) ≡ length p + agreeing a b
unfolding agreeing
agreeing-front [] a b = omega arith
agreeing-front (r ∷ p) a b = rw (same_self r) (ap suc (agreeing-front p a b) ∙ omega arith)

both_true : (a b : Bool) → a ≡ true → b ≡ true → a && b ≡ true
both_true true b e f = f
both_true false b e f = e

both_false : (a b : Bool) → (a ≡ true → b ≡ true → ⊥) → a && b ≡ false
both_false true true f = absurd (f refl refl)
both_false true false f = refl
both_false false b f = refl

-- the verdict where all of both lists agree, and where not
module _ (rs own : List Record) (there : Answer) (i : ℕ) (a : agreeing rs own ≡ i) where
  abbrev enough : Bool
  enough = eqb (agreeing rs own) (length rs)

  abbrev no_more : Bool
  no_more = eqb (agreeing rs own) (length own)

  by_all : (b : Bool) → all_agree rs own ≡ b → verdict rs own there ≡ cond (b && not (is_refusal there)) accepted (list_differs i)
  by_all b e =
      ap (λ (c : Bool). cond (c && not (is_refusal there)) accepted (list_differs (agreeing rs own))) e ∙
      ap (λ (j : ℕ). cond (b && not (is_refusal there)) accepted (list_differs j)) a

  pub verdict-all : i ≡ length rs → i ≡ length own → verdict rs own there ≡ cond (not (is_refusal there)) accepted (list_differs i)
  verdict-all p q =
      by_all true
      (both_true enough no_more (eq-eqb (agreeing rs own) (length rs) (a ∙ p)) (eq-eqb (agreeing rs own) (length own) (a ∙ q)))

  pub verdict-not : (i ≡ length rs → i ≡ length own → ⊥) → verdict rs own there ≡ list_differs i
  verdict-not f =
      by_all false
      (both_false enough no_more
      (λ p q. f (sym a ∙ eqb-true (agreeing rs own) (length rs) p) (sym a ∙ eqb-true (agreeing rs own) (length own) q)))

-- what a read behind the last record would give
abbrev pub none : Record
none = five 0 0 0 0 0

-- Where the loop stands: i records agree with the lexemes up to a place, whose line is known.
pub record Upto (s : Source) (rs : List Record) (i : ℕ) (p : Place) : Type 0 where
  pub passed : List Legal
  pub passes : Passes Always s [] 0 passed p.next.at
  pub short : length s.text ≤ longest_text
  pub here : p.line ≡ line_of s.text p.next.at
  pub counts : i ≡ length (records_of s.text passed)
  pub front : rs ≡ records_of s.text passed ++ drop i rs

pub begins : (s : Source) (rs : List Record) → length s.text ≤ longest_text → Upto s rs 0 beginning
unfolding Passes records_of
begins s rs h = record { passed = []; passes = refl; short = h; here = sym (first s.text); counts = refl; front = refl }

module _ {s : Source} {rs : List Record} {i : ℕ} {p : Place} (v : Upto s rs i p) where
  abbrev at : ℕ
  at = p.next.at

  abbrev own : List Legal → List Record
  own l = records_of s.text l

  -- the run of all lexemes, of which those passed are the first
  abbrev all : Walk Always s 0
  all =
      let w = run s at in
      let rest = passes-behind Always Always v.passed (λ b t o. tt) s [] at w.passed w.to w.passes in
      let rest = subst (λ (b : List Legal). Passes Always s b at w.passed w.to) (append-nil v.passed) rest in
      record {
        passed = v.passed ++ w.passed;
        to = w.to;
        passes = passes_append Always s [] 0 v.passed at w.passed w.to v.passes rest;
        there = w.there;
        gives = w.gives;
        stops = λ t e o. w.stops t e tt;
      }

  agreeing-all : (l : List Legal) (rest : List Record) → drop i rs ≡ rest → agreeing rs (own (v.passed ++ l)) ≡ i + agreeing rest (own l)
  agreeing-all l rest e =
      ap (λ (x : List Record). agreeing x (own (v.passed ++ l))) (v.front ∙ ap (λ (x : List Record). own v.passed ++ x) e) ∙
      ap (agreeing (own v.passed ++ rest)) (records-append s.text v.passed l) ∙
      agreeing-front (own v.passed) rest (own l) ∙
      ap (λ (m : ℕ). m + agreeing rest (own l)) (sym v.counts)

  -- the record that the step compares with is List's
  own_is : (t : Legal) → Next s at (token_of t) → own_record p t ≡ record_of s.text t
  own_is t g =
      let o = told s.profile s.text at t.kind t.start t.length (t.start + t.length) t.digits t.underscores g in
      ap (λ (a : ℕ). record_on p.line t.kind a t.length) o.starts ∙ ap (λ (l : Line). record_on l t.kind at t.length) v.here ∙
      record-made s at t.kind t.start t.length (t.start + t.length) t.digits t.underscores g

  -- a record that agrees
  pub goes_on : (q : Place) → i < length rs → Steps s p (get_or rs i none) (Some q) → Upto s rs (i + 1) q
  unfolding Steps records_of
  goes_on q h (t, gives, is, next, here) =
      let r = get_or rs i none in
      let o = told s.profile s.text at t.kind t.start t.length (t.start + t.length) t.digits t.underscores gives in
      let ends : t.start + t.length ≡ at + t.length = ap (λ (a : ℕ). a + t.length) o.starts in
      let one : own (v.passed ++ (t ∷ [])) ≡ own v.passed ++ (r ∷ []) =
      records-append s.text v.passed (t ∷ []) ∙ ap (λ (x : Record). own v.passed ++ (x ∷ [])) (sym (own_is t gives) ∙ is) in
      let parted : drop i rs ≡ r ∷ drop (i + 1) rs = drop-cons rs i none h ∙ ap (λ (j : ℕ). r ∷ drop j rs) (sym (add-one i)) in
      let over =
      ap (λ (l : Line). line_over l t.start (slice t.start (t.start + t.length) s.text))
      (v.here ∙ ap (line_of s.text) (sym o.starts)) ∙
      goes-along s.text t.start (t.start + t.length) (omega (arith, v.short)) (omega arith) (omega (arith, o.inside, o.starts)) in
      record {
        passed = v.passed ++ (t ∷ []);
        passes =
            subst (Passes Always s [] 0 (v.passed ++ (t ∷ []))) (sym (next ∙ ends))
            (passes_on Always s [] 0 v.passed at t v.passes o.starts gives tt);
        short = v.short;
        here = here ∙ over ∙ ap (line_of s.text) (sym next);
        counts = sym (ap length one ∙ length-append (own v.passed) (r ∷ []) ∙ omega (arith, v.counts));
        front =
            v.front ∙ ap (λ (x : List Record). own v.passed ++ x) parted ∙
            sym (append_assoc (own v.passed) (r ∷ []) (drop (i + 1) rs)) ∙ ap (λ (x : List Record). x ++ drop (i + 1) rs) (sym one);
      }

  -- a record that does not: no lexeme is left, or the next one has another
  differs-here : (r : Record) (rest : List Record) → ((t : Legal) → Next s at (token_of t) → own_record p t ≡ r → ⊥)
      → (l : List Legal) (to : ℕ) → Passes Always s [] at l to → agreeing (r ∷ rest) (own l) ≡ 0
  unfolding agreeing records_of Passes
  differs-here r rest f [] to x = refl
  differs-here r rest f (t ∷ l) to (e, g, o, x) = rw (not_same r (record_of s.text t) (λ z. f t g (own_is t g ∙ z)))

  pub stops : i < length rs → Steps s p (get_or rs i none) None → Checks s rs (Err (ListDiffers i))
  unfolding Steps Checks
  stops h f =
      let r = get_or rs i none in
      let w = run s at in
      let a : agreeing rs (own (v.passed ++ w.passed)) ≡ i =
      agreeing-all w.passed (r ∷ drop (suc i) rs) (drop-cons rs i none h) ∙
      ap (λ (k : ℕ). i + k) (differs-here r (drop (suc i) rs) f w.passed w.to w.passes) ∙
      omega arith in
      inr (v.short, record { walk = all; answers = sym (verdict-not rs (own all.passed) w.there i a (λ p q. omega arith)) })

  -- the same, as `?` passes it on: the fault is what stands for a place that there is none of
  pub stops-by : (q : Option Place) (fault e : CheckError) → Err fault ≡ ok_or q (ListDiffers i) → e ≡ fault → i < length rs
      → Steps s p (get_or rs i none) q → Checks s rs (Err e)
  stops-by None fault e f g h x = let differs : e ≡ ListDiffers i = cc in rw differs (stops h x)
  stops-by (Some q) fault e f g h x = let z : ◌≡◌ {A = ℕ} 0 1 = cc in absurd (omega arith)

  -- behind the last record
  at-end : length rs ≤ i → (there : Answer) → Next s at there → (l : List Legal) (to : ℕ) (last : Answer) → Passes Always s [] at l to
      → Next s to last → ((t : Legal) → last ≡ token_of t → ⊥) → verdict rs (own (v.passed ++ l)) last ≡ verdict_at i there
  unfolding Passes records_of agreeing
  at-end h there g [] to last x k stuck =
      let none_left : drop i rs ≡ [] = drop_of_length-le rs {i = i} h in
      let i-is : i ≡ length rs = omega (arith, ap length v.front, length-append (own v.passed) (drop i rs), v.counts) in
      let a : agreeing rs (own (v.passed ++ [])) ≡ i = agreeing-all [] [] none_left ∙ omega arith in
      let m : length (own (v.passed ++ [])) ≡ i = ap (λ (y : List Legal). length (own y)) (append-nil v.passed) ∙ sym v.counts in
      let same-there : last ≡ there =
      gives-unique (rules s.profile) s.text at last there (subst (λ (y : ℕ). Next s y last) (sym x) k) g in
      verdict-all rs (own (v.passed ++ [])) last i a i-is (sym m) ∙ by_last last k stuck ∙ ap (verdict_at i) same-there
    where
      by_last : (last : Answer) → Next s to last → ((t : Legal) → last ≡ token_of t → ⊥)
          → cond (not (is_refusal last)) accepted (list_differs i) ≡ verdict_at i last
      by_last (token k start n next d u) g stuck = absurd (stuck (legal k start n d u) (is-legal s to k start n next d u g))
      by_last (end offset) g stuck = refl
      by_last (refusal k start n offset) g stuck = refl
  at-end h there g (t ∷ l) to last (e, k, o, x) z stuck =
      let none_left : drop i rs ≡ [] = drop_of_length-le rs {i = i} h in
      let a : agreeing rs (own (v.passed ++ (t ∷ l))) ≡ i = agreeing-all (t ∷ l) [] none_left ∙ omega arith in
      let long = ap length (records-append s.text v.passed (t ∷ l)) ∙ length-append (own v.passed) (own (t ∷ l)) in
      verdict-not rs (own (v.passed ++ (t ∷ l))) last i a (λ y z. omega (arith, v.counts)) ∙
      ap (verdict_at i) (gives-unique (rules s.profile) s.text at (token_of t) there k g)

  pub ends : length rs ≤ i → (r : Result (Unit {0}) CheckError) → Finishes s at i r → Checks s rs r
  unfolding Checks
  ends h r f =
      let w = run s at in
      let stuck : (t : Legal) → w.there ≡ token_of t → ⊥ = λ t e. w.stops t e tt in
      inr (
        v.short,
        record {
          walk = all;
          answers = f.answers ∙ sym (at-end h f.there f.gives w.passed w.to w.there w.passes w.gives stuck);
        },
      )

pub too-long-checks : (s : Source) (rs : List Record) → longest_text < length s.text → Checks s rs (Err TooLong)
unfolding Checks
too-long-checks s rs h = inl (h, refl)
