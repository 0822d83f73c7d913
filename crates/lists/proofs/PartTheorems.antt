-- For readers. `part-unique`: the contract of `list_part` leaves one answer and one list. `slice-of-longest-in-one-class`: a slice's lexemes
-- follow one another, each the longest and in one class, up to Paused too. `slices-are-one-call`: slices, each from where the one before was
-- paused, give what one call with all their allowances gives, where no list runs full; `more-changes-nothing`: where a call is not paused, a
-- greater allowance gives the same. `list-without-blanks`: a call that comes to the end or to a refusal gives List's records, those of
-- TK_NONE left out. `paused-exactly`, `full-not-spent`: what it is that a slice stops at.
-- `part-too-long`: the refusal that comes first. Assumes nothing.
use Prim.Native.Nat.{ℕ, ◌+◌, ◌*◌, ◌≤◌, ◌<◌}
use native.Mathlib.Omega.{arith}
use mathlib.Core.Path.{◌≡◌, refl, sym, ◌∙◌, ap, subst}
use mathlib.Core.Bool.{Bool, true, false, cond}
use mathlib.Core.List.{List}
use mathlib.Core.Logic.{inl, inr}
use lib.Dec.{eqb}
use lib.ListN.{length}
use borrow.Author.Tests.{eqb-true, eq-eqb}
use Rattle.grammar.specs.Classes.{rules}
use Rattle.grammar.specs.Answers.{Answer, token, end, refusal}
use Rattle.grammar.specs.Longest.{Source, Next}
use Rattle.grammar.proofs.Unique.{gives-unique}
use Rattle.lexer.specs.declared.cursor.Cursor.{Cursor}
use Rattle.lexer.specs.declared.lexed.Refusal.{Refusal}
use Rattle.lexer.specs.Eaten.{cursor}
use Rattle.lexer.specs.Values.{number_of}
use Rattle.lexer.proofs.Theorems.{refusal_of, refusal-back}
use Rattle.records.specs.declared.Record.{Record}
use Rattle.records.specs.Records.{width, at_front}
use Rattle.walks.specs.Walk.{Legal, token_of, Goes, Always, Walk}
use Rattle.walks.proofs.WalkLaws.{legal, is-legal, walk-one}
use Rattle.lists.specs.declared.part.Part.{Part}
use Rattle.lists.specs.declared.part.Part.TheVariants.{End, Refused, TooLong, Paused, ListFull}
use Rattle.lists.specs.Refusals.{list_refusal}
use Rattle.lists.specs.Lists.{list_full, list_answer, longest_text, Listing}
use Rattle.lists.specs.Parts.{not_blank, kept, Allowed, PartAnswer, given, paused, paused_at, part_answer, Parting}
use Rattle.lists.specs.Parts.{answer_of, records_in, spent_in, Parts}
use Rattle.lists.specs.Slices.{Slice, Sliced, total, read_first, read_all, Full, without_none}
use Rattle.lists.specs.Gapless.{InOneClass, SliceEnds, GaplessSlice}
use Rattle.lists.proofs.GaplessLaws.{gapless-slice, never-full}
use Rattle.lists.proofs.Theorems.{not-lists}
use Rattle.lists.proofs.SliceLaws.{AtMost, written, front-first, paused-there, Run, run_of, run_more, run-slices}
use Rattle.lists.proofs.SliceLaws.{every-list, every-part, same_answer, without}

-- An answer can be read back from its values.
abbrev refused_of : ℕ → ℕ → ℕ → ℕ → ℕ → ℕ → Part
refused_of k start n offset records spent =
    cond (eqb k (list_refusal "TooLong")) (TooLong (cursor offset))
    (cond (eqb k (list_refusal "ListFull")) (ListFull records spent (cursor offset)) (Refused (refusal_of k) start n records spent (cursor offset)))

abbrev part_of : PartAnswer → ℕ → ℕ → Part
part_of (paused start n offset) records spent = Paused records spent (cursor offset)
part_of (given (token k start n next d u)) records spent = End records spent (cursor next)
part_of (given (end offset)) records spent = End records spent (cursor offset)
part_of (given (refusal k start n offset)) records spent = refused_of k start n offset records spent

refused-back : (why : Refusal) (start n records spent : ℕ) (next : Cursor)
    → refused_of (number_of why) start n next.at records spent ≡ Refused why start n records spent next
refused-back why start n records spent next =
    let (long, full) = not-lists why in
    rw (long, full) (ap (λ (w : Refusal). Refused w start n records spent next) (refusal-back why))

part-back : (r : Part) → part_of (answer_of r) (records_in r) (spent_in r) ≡ r
part-back (End records spent next) = refl
part-back (Refused why start n records spent next) = refused-back why start n records spent next
part-back (TooLong next) = refl
part-back (Paused records spent next) = refl
part-back (ListFull records spent next) = refl

same-values : (r q : Part) → answer_of r ≡ answer_of q → records_in r ≡ records_in q → spent_in r ≡ spent_in q → r ≡ q
same-values r q a m n =
    sym (part-back r) ∙ ap (λ (b : PartAnswer). part_of b (records_in r) (spent_in r)) a ∙
    ap (λ (x : ℕ). part_of (answer_of q) x (spent_in r)) m ∙ ap (part_of (answer_of q) (records_in q)) n ∙ part-back q

-- two walks by one rule give one answer
same-walk : (goes : Goes) (s : Source) (from allowance : ℕ) (v w : Walk goes s from)
    → (v.passed ≡ w.passed) ×
    (part_answer v.to (eqb (length v.passed) allowance) v.there ≡ part_answer w.to (eqb (length w.passed) allowance) w.there)
same-walk goes s from allowance v w =
    let (p, q, t) = walk-one goes s from v w in (
      p,
      ap (λ (at : ℕ). part_answer at (eqb (length v.passed) allowance) v.there) q ∙
          ap (λ (l : List Legal). part_answer w.to (eqb (length l) allowance) v.there) p ∙
          ap (part_answer w.to (eqb (length w.passed) allowance)) t,
    )

pub parting-unique : (s : Source) (from allowance : ℕ) (old : List ℕ) (a b : PartAnswer) (m n i j : ℕ) (new new' : List ℕ)
    → Parting s from allowance old a m i new → Parting s from allowance old b n j new' → (a ≡ b) × (m ≡ n) × (i ≡ j) × (new ≡ new')
parting-unique s from allowance old a b m n i j new new' x y =
    let (p, e) = same-walk (Allowed not_blank (length old) allowance) s from allowance x.walk y.walk in (
      x.answers ∙ e ∙ sym y.answers,
      x.counted ∙ ap (λ (l : List Legal). length (kept not_blank l)) p ∙ sym y.counted,
      x.costs ∙ ap length p ∙ sym y.costs,
      x.written ∙ ap (λ (l : List Legal). at_front (written s l) old) p ∙ sym y.written,
    )

-- The contract of `list_part` leaves one answer and one list.
pub part-unique : (s : Source) (from allowance : ℕ) (old : List ℕ) (r q : Part) (new new' : List ℕ)
    → Parts s from allowance old r new → Parts s from allowance old q new' → (r ≡ q) × (new ≡ new')
unfolding Parts
part-unique s from allowance old r q new new' (inl (h, x, y, z, o)) (inl (k, u, v, w, p)) =
    (same-values r q (x ∙ sym u) (y ∙ sym v) (z ∙ sym w), o ∙ sym p)
part-unique s from allowance old r q new new' (inl (h, x, y, z, o)) (inr (k, u)) = absurd (omega arith)
part-unique s from allowance old r q new new' (inr (h, x)) (inl (k, u, v, w, p)) = absurd (omega arith)
part-unique s from allowance old r q new new' (inr (h, x)) (inr (k, y)) =
    let (a, m, n, e) =
    parting-unique s from allowance old (answer_of r) (answer_of q) (records_in r) (records_in q) (spent_in r) (spent_in q) new new' x y in
    (same-values r q a m n, e)

-- A text that is too long is refused first, whatever the allowance; the list stays as it was.
pub part-too-long : (s : Source) (from allowance : ℕ) (old : List ℕ) (r : Part) (new : List ℕ) → longest_text < length s.text
    → Parts s from allowance old r new → (r ≡ TooLong (cursor from)) × (new ≡ old)
unfolding Parts
part-too-long s from allowance old r new h x =
    part-unique s from allowance old r (TooLong (cursor from)) new old x (inl (h, refl, refl, refl, refl))

-- What a slice's lexemes are.
pub slice-of-longest-in-one-class : (s : Source) (from allowance : ℕ) (old : List ℕ) (r : Part) (new : List ℕ)
    → length s.text ≤ longest_text → Parts s from allowance old r new
    → GaplessSlice s from allowance old (answer_of r) (records_in r) (spent_in r) new
unfolding Parts
slice-of-longest-in-one-class s from allowance old r new h (inl (l, x, y, z, o)) = absurd (omega arith)
slice-of-longest-in-one-class s from allowance old r new h (inr (l, x)) =
    gapless-slice s from allowance old (answer_of r) (records_in r) (spent_in r) new x

run-one : (s : Source) (from allowance : ℕ) (a b : PartAnswer) (m n i j : ℕ) (rs qs : List Record)
    → Run s from allowance a m i rs → Run s from allowance b n j qs → (a ≡ b) × (m ≡ n) × (i ≡ j) × (rs ≡ qs)
run-one s from allowance a b m n i j rs qs x y =
    let (p, e) = same-walk (AtMost allowance) s from allowance x.walk y.walk in (
      x.answers ∙ e ∙ sym y.answers,
      x.counted ∙ ap (λ (l : List Legal). length (kept not_blank l)) p ∙ sym y.counted,
      x.costs ∙ ap length p ∙ sym y.costs,
      x.reads ∙ ap (written s) p ∙ sym y.reads,
    )

-- Slices, each from where the one before was paused, and one call with all their allowances: where no list runs full, the one call gives the
-- last slice's answer, as many records and lexemes as they in all, and the same records. An allowance may be 0.
pub slices-are-one-call : (s : Source) (from : ℕ) (l : List Slice) (last : Slice) → Sliced s from l last → (Full last.answer → ⊥)
    → (old : List ℕ) (a : PartAnswer) (records spent : ℕ) (new : List ℕ)
    → Parting s from (total (λ c. c.allowance) l last) old a records spent new → (Full a → ⊥)
    → (a ≡ last.answer) ×
    (records ≡ total (λ c. c.records) l last) ×
    (spent ≡ total (λ c. c.spent) l last) ×
    (read_first records new ≡ read_all l last)
slices-are-one-call s from l last x ok old a records spent new y free =
    let n = total (λ c. c.allowance) l last in
    let one : Slice = record { allowance = n; lent = old; answer = a; records = records; spent = spent; left = new } in
    run-one s from n a last.answer _ _ _ _ _ _ (run_of s from one y free) (run-slices s from l last x ok)

-- A call that is not paused, and one with a greater allowance: where no list runs full they give the same. So of an allowance that is split the
-- first slice is paused, and the next goes on there, or the first is all.
pub more-changes-nothing : (s : Source) (from m n : ℕ) (old : List ℕ) (a : PartAnswer) (records spent : ℕ) (new : List ℕ)
    → Parting s from m old a records spent new → (Full a → ⊥) → ((at : ℕ) → a ≡ paused_at at → ⊥)
    → (old' : List ℕ) (b : PartAnswer) (records' spent' : ℕ) (new' : List ℕ)
    → Parting s from (m + n) old' b records' spent' new' → (Full b → ⊥)
    → (a ≡ b) × (records ≡ records') × (spent ≡ spent') × (read_first records new ≡ read_first records' new')
more-changes-nothing s from m n old a records spent new x free on old' b records' spent' new' y free' =
    let one : Slice = record { allowance = m; lent = old; answer = a; records = records; spent = spent; left = new } in
    let two : Slice = record { allowance = m + n; lent = old'; answer = b; records = records'; spent = spent'; left = new' } in
    run-one s from (m + n) a b _ _ _ _ _ _ (run_more s from m n a _ _ _ (run_of s from one x free) on) (run_of s from two y free')

-- It is paused exactly when the allowance is spent and another legal lexeme begins.
pub paused-exactly : (s : Source) (from allowance : ℕ) (old : List ℕ) (a : PartAnswer) (records spent : ℕ) (new : List ℕ)
    → (x : Parting s from allowance old a records spent new)
    → (((at : ℕ) → a ≡ paused_at at → (at ≡ x.walk.to) × (spent ≡ allowance) × (t : Legal) × Next s at (token_of t)) ×
    ((t : Legal) → spent ≡ allowance → Next s x.walk.to (token_of t) → a ≡ paused_at x.walk.to))
paused-exactly s from allowance old a records spent new x = (then, when)
  where
    v : Walk (Allowed not_blank (length old) allowance) s from
    v = x.walk

    a-token : (b : Bool) (there : Answer) (at : ℕ) → paused_at at ≡ part_answer v.to b there → Next s v.to there
        → (t : Legal) × Next s v.to (token_of t)
    a-token b (token k start n next d u) at e g =
        (legal k start n d u, subst (Next s v.to) (is-legal s v.to k start n next d u g) g)
    a-token b (end offset) at e g = let z : ◌≡◌ {A = ℕ} 0 1 = cc in absurd (omega arith)
    a-token b (refusal k start n offset) at e g = let z : ◌≡◌ {A = ℕ} 0 1 = cc in absurd (omega arith)

    then : (at : ℕ) → a ≡ paused_at at → (at ≡ v.to) × (spent ≡ allowance) × (t : Legal) × Next s at (token_of t)
    then at e =
        let f : paused_at at ≡ part_answer v.to (eqb (length v.passed) allowance) v.there = sym e ∙ x.answers in
        let (b, p) = paused-there v.to (eqb (length v.passed) allowance) v.there at f in
        let (t, g) = a-token (eqb (length v.passed) allowance) v.there at f v.gives in
        (sym p, x.costs ∙ eqb-true (length v.passed) allowance b, t, subst (λ (i : ℕ). Next s i (token_of t)) p g)

    when : (t : Legal) → spent ≡ allowance → Next s v.to (token_of t) → a ≡ paused_at v.to
    when t e g =
        let same = gives-unique (rules s.profile) s.text v.to v.there (token_of t) v.gives g in
        let b = eq-eqb (length v.passed) allowance (sym x.costs ∙ e) in
        x.answers ∙ ap (λ (i : Bool). part_answer v.to i v.there) b ∙ ap (part_answer v.to true) same

-- what List can answer too
abbrev answer_in : PartAnswer → Answer
answer_in (given a) = a
answer_in (paused start n offset) = end offset

-- A list that is full stops at a lexeme that is not TK_NONE, has no place, and is not spent.
pub full-not-spent : (s : Source) (from allowance : ℕ) (old : List ℕ) (at records spent : ℕ) (new : List ℕ)
    → Parting s from allowance old (given (list_full at)) records spent new
    → (spent < allowance) ×
    (length old < width * records + width) ×
    (t : Legal) ×
    InOneClass false s at t.length (token_of t) ×
    (not_blank t ≡ true)
full-not-spent s from allowance old at records spent new x =
    let g = gapless-slice s from allowance old (given (list_full at)) records spent new x in
    by_end g.lexemes g.to g.counted g.costs g.ends
  where
    by_end : (l : List Legal) (to : ℕ) → records ≡ length (kept not_blank l) → spent ≡ length l
        → SliceEnds s (length old) allowance l to (given (list_full at))
        → (spent < allowance) ×
        (length old < width * records + width) ×
        (t : Legal) ×
        InOneClass false s at t.length (token_of t) ×
        (not_blank t ≡ true)
    by_end l to m n (inl (b, ends, e)) = absurd (never-full s to b ends at (sym (ap answer_in e)))
    by_end l to m n (inr (inl (t, c, spent, e))) = let z : ◌≡◌ {A = ℕ} 0 1 = cc in absurd (omega arith)
    by_end l to m n (inr (inr (t, c, less, keeps, none, e))) =
        let here : at ≡ to = cc in
        (omega arith, no_room none, t, subst (λ (i : ℕ). InOneClass false s i t.length (token_of t)) (sym here) c, keeps)
      where
        no_room : (width * length (kept not_blank l) + width ≤ length old → ⊥) → length old < width * records + width
        no_room none = omega (arith, none)

-- A call that comes to the end or to a refusal, and List: the same answer, and List's records without those of TK_NONE, where no list
-- runs full.
pub list-without-blanks : (s : Source) (from : ℕ) (old : List ℕ) (a : Answer) (n : ℕ) (new : List ℕ) → Listing s from old a n new
    → ((at : ℕ) → a ≡ list_full at → ⊥)
    → (allowance : ℕ) (old' : List ℕ) (b : PartAnswer) (m spent : ℕ) (new' : List ℕ) → Parting s from allowance old' b m spent new'
    → (Full b → ⊥) → ((at : ℕ) → b ≡ paused_at at → ⊥) → (b ≡ given a) × (read_first m new' ≡ without_none (read_first n new))
unfolding every-list every-part
list-without-blanks s from old a n new x ok allowance old' b m spent new' y free on =
    let v = x.walk in
    let w = y.walk in
    let rest = every-list s from old a n new x ok in
    let also = every-part s from allowance old' b m spent new' y free on in
    let (p, q, t) = walk-one Always s from also rest in (
      y.answers ∙ ap (part_answer w.to (eqb (length w.passed) allowance)) t ∙
          same_answer w.to v.to (eqb (length w.passed) allowance) v.there none ∙ sym (ap given x.answers),
      front-first s (kept not_blank w.passed) m old' new' y.counted y.written ∙ ap (written s) p ∙ without s.text v.passed ∙
          ap without_none (sym (front-first s v.passed n old new x.counted x.written)),
    )
  where
    none : (k start l next d u : ℕ) → x.walk.there ≡ token k start l next d u → ⊥
    none k start l next d u e = ok x.walk.to (x.answers ∙ ap (list_answer x.walk.to) e)
