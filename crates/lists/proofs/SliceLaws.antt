-- Walks that only an allowance stops: they join, and where no list runs full they are those of slices. Assumes nothing.
use Prim.Native.Nat.{ℕ, ◌+◌, ◌<◌}
use native.Mathlib.Omega.{arith}
use mathlib.Core.Path.{◌≡◌, refl, sym, ◌∙◌, ap, ap₂, subst}
use mathlib.Core.Bool.{Bool, true, false}
use mathlib.Core.List.{List, [], ◌∷◌, ◌++◌, append-nil}
use lib.Dec.{eqb}
use lib.ListN.{length, take, length-append}
use lib.Seq.{take_at}
use borrow.Author.Tests.{eq-eqb, ne_eqb, eqb-true, eqb-false}
use Rattle.keywords.proofs.Logic.{split}
use Rattle.grammar.specs.Answers.{Answer, token, end, refusal}
use Rattle.grammar.specs.Longest.{Source, Next}
use Rattle.records.specs.declared.Record.{Record}
use Rattle.records.specs.Records.{read_back, at_front}
use Rattle.records.proofs.Theorems.{front_read}
use Rattle.walks.specs.Walk.{Legal, token_of, Goes, Always, Passes, Walk}
use Rattle.walks.proofs.WalkLaws.{legal, is-legal, end-no-token, refusal-no-token, passes-also, passes-behind, passes_append, passes-most}
use Rattle.lists.specs.Lists.{record_of, records_of, HasRoom, list_full, list_answer, Listing}
use Rattle.lists.specs.Parts.{not_blank, kept, Allowed, PartAnswer, given, paused_at, part_answer, Parting}
use Rattle.lists.specs.Slices.{Slice, From, Sliced, total, read_first, read_all, Full, without_none}
use Rattle.lists.proofs.KeptLaws.{records-append, records-many, kept_append}

-- it passes so many lexemes
abbrev pub AtMost : ℕ → Goes
AtMost allowance before t = length before < allowance

-- the records of its lexemes that are not TK_NONE
abbrev pub written : Source → List Legal → List Record
written s l = records_of s.text (kept not_blank l)

written-append : (s : Source) (l m : List Legal) → written s (l ++ m) ≡ written s l ++ written s m
written-append s l m =
    ap (records_of s.text) (kept_append not_blank l m) ∙ records-append s.text (kept not_blank l) (kept not_blank m)

-- records at the front of a list are read there
pub front-first : (s : Source) (l : List Legal) (n : ℕ) (old new : List ℕ) → n ≡ length l → new ≡ at_front (records_of s.text l) old
    → read_first n new ≡ records_of s.text l
front-first s l n old new e f =
    ap (λ (x : List ℕ). take n (read_back x)) f ∙ ap (take n) (front_read (records_of s.text l) old) ∙
    take_at (records_of s.text l) _ n (records-many s.text l ∙ sym e)

-- a walk that has spent its allowance, and one from where it stopped, are one
join : (s : Source) (from m n : ℕ) (v : Walk (AtMost m) s from) → length v.passed ≡ m → Walk (AtMost n) s v.to → Walk (AtMost (m + n)) s from
join s from m n v spent w =
    let first = passes-also (AtMost m) (AtMost (m + n)) (λ b t o. omega (arith, o)) s [] from v.passed v.to v.passes in
    let second = passes-behind (AtMost n) (AtMost (m + n)) v.passed longer s [] v.to w.passed w.to w.passes in
    let second = subst (λ (b : List Legal). Passes (AtMost (m + n)) s b v.to w.passed w.to) (append-nil v.passed) second in
    record {
      passed = v.passed ++ w.passed;
      to = w.to;
      passes = passes_append (AtMost (m + n)) s [] from v.passed v.to w.passed w.to first second;
      there = w.there;
      gives = w.gives;
      stops = λ t e o. w.stops t e (let l = length-append v.passed w.passed in omega arith);
    }
  where
    longer : (b : List Legal) (t : Legal) → AtMost n b t → AtMost (m + n) (v.passed ++ b) t
    longer b t o = let l = length-append v.passed b in omega arith

-- at a lexeme, where no list ran full, the allowance is spent
pub token-spent : (at : ℕ) (b : Bool) (there : Answer) (a : PartAnswer) (t : Legal) → a ≡ part_answer at b there → (Full a → ⊥)
    → there ≡ token_of t → b ≡ true
token-spent at true there a t e f h = refl
token-spent at false (token k start n next d u) a t e f h = absurd (f (at, e))
token-spent at false (end offset) a t e f h = absurd (end-no-token offset t h)
token-spent at false (refusal k start n offset) a t e f h = absurd (refusal-no-token k start n offset t h)

-- Paused is the answer where the allowance is spent
pub paused-there : (at : ℕ) (b : Bool) (there : Answer) (to : ℕ) → paused_at to ≡ part_answer at b there → (b ≡ true) × (at ≡ to)
paused-there at true (token k start n next d u) to e = (refl, cc)
paused-there at false (token k start n next d u) to e = let z : ◌≡◌ {A = ℕ} 0 1 = cc in absurd (omega arith)
paused-there at b (end offset) to e = let z : ◌≡◌ {A = ℕ} 0 1 = cc in absurd (omega arith)
paused-there at b (refusal k start n offset) to e = let z : ◌≡◌ {A = ℕ} 0 1 = cc in absurd (omega arith)

-- a call whose list did not run full is such a walk
pub record Run (s : Source) (from allowance : ℕ) (a : PartAnswer) (records spent : ℕ) (rs : List Record) : Type 0 where
  pub walk : Walk (AtMost allowance) s from
  pub answers : a ≡ part_answer walk.to (eqb (length walk.passed) allowance) walk.there
  pub counted : records ≡ length (kept not_blank walk.passed)
  pub costs : spent ≡ length walk.passed
  pub reads : rs ≡ written s walk.passed

pub run_of : (s : Source) (from : ℕ) (c : Slice) → From s from c → (Full c.answer → ⊥)
    → Run s from c.allowance c.answer c.records c.spent (read_first c.records c.left)
run_of s from c x ok =
    let v = x.walk in
    let n = c.allowance in
    record {
      walk =
          record {
            passed = v.passed;
            to = v.to;
            passes = passes-also (Allowed not_blank (length c.lent) n) (AtMost n) (λ b t o. o.0) s [] from v.passed v.to v.passes;
            there = v.there;
            gives = v.gives;
            stops = λ t e o.
                let spent = token-spent v.to (eqb (length v.passed) n) v.there c.answer t x.answers ok e in
                omega (arith, o, eqb-true (length v.passed) n spent);
          };
      answers = x.answers;
      counted = x.counted;
      costs = x.costs;
      reads = front-first s (kept not_blank v.passed) c.records c.lent c.left x.counted x.written;
    }

-- one that is not paused is such a walk with a greater allowance too
pub run_more : (s : Source) (from m n : ℕ) (a : PartAnswer) (i j : ℕ) (rs : List Record) → Run s from m a i j rs
    → ((at : ℕ) → a ≡ paused_at at → ⊥) → Run s from (m + n) a i j rs
run_more s from m n a i j rs x on =
    record {
      walk =
          record {
            passed = v.passed;
            to = v.to;
            passes = passes-also (AtMost m) (AtMost (m + n)) (λ b t o. omega (arith, o)) s [] from v.passed v.to v.passes;
            there = v.there;
            gives = v.gives;
            stops = λ t e o. no-token t e;
          };
      answers = x.answers ∙ either (eqb (length v.passed) m) (eqb (length v.passed) (m + n)) v.there v.gives no-token;
      counted = x.counted;
      costs = x.costs;
      reads = x.reads;
    }
  where
    v : Walk (AtMost m) s from
    v = x.walk

    below : (length v.passed ≡ m → ⊥) → length v.passed < m
    below other = omega (arith, other, passes-most (AtMost m) m (λ b t o. o) s [] from v.passed v.to (omega arith) v.passes)

    -- it would be paused there, or pass it
    no-token : (t : Legal) → v.there ≡ token_of t → ⊥
    no-token t e =
        split (eqb (length v.passed) m)
        (λ f. on v.to (x.answers ∙ ap (λ (b : Bool). part_answer v.to b v.there) f ∙ ap (part_answer v.to true) e))
        (λ f. v.stops t e (below (eqb-false (length v.passed) m f)))

    either : (b c : Bool) (there : Answer) → Next s v.to there → ((t : Legal) → there ≡ token_of t → ⊥)
        → part_answer v.to b there ≡ part_answer v.to c there
    either b c (token k start l next d u) g none = absurd (none (legal k start l d u) (is-legal s v.to k start l next d u g))
    either b c (end offset) g none = refl
    either b c (refusal k start l offset) g none = refl

eqb-add : (a b m n : ℕ) → a ≡ m → eqb (a + b) (m + n) ≡ eqb b n
eqb-add a b m n e =
    split (eqb b n)
    (λ f. eq-eqb (a + b) (m + n) (omega (arith, eqb-true b n f)) ∙ sym f)
    (λ f. ne_eqb (a + b) (m + n) (λ g. eqb-false b n f (omega arith)) ∙ sym f)

-- one that is paused, and what goes on from there, are one
run_join : (s : Source) (from m n to : ℕ) (a : PartAnswer) (i j k l : ℕ) (rs qs : List Record)
    → Run s from m (paused_at to) i j rs → Run s to n a k l qs → Run s from (m + n) a (i + k) (j + l) (rs ++ qs)
unfolding join
run_join s from m n to a i j k l rs qs x y =
    let v = x.walk in
    let (b, e) = paused-there v.to (eqb (length v.passed) m) v.there to x.answers in
    let spent : length v.passed ≡ m = eqb-true (length v.passed) m b in
    joined v x.counted x.costs x.reads spent (subst (λ (p : ℕ). Run s p n a k l qs) (sym e) y)
  where
    joined : (v : Walk (AtMost m) s from) → i ≡ length (kept not_blank v.passed) → j ≡ length v.passed → rs ≡ written s v.passed
        → length v.passed ≡ m → Run s v.to n a k l qs → Run s from (m + n) a (i + k) (j + l) (rs ++ qs)
    joined v c p r spent y =
        let w = y.walk in
        let long = length-append v.passed w.passed in
        let test : eqb (length (v.passed ++ w.passed)) (m + n) ≡ eqb (length w.passed) n =
        ap (λ (x : ℕ). eqb x (m + n)) long ∙ eqb-add (length v.passed) (length w.passed) m n spent in
        let both = ap length (kept_append not_blank v.passed w.passed) ∙ length-append (kept not_blank v.passed) (kept not_blank w.passed) in
        let c' = y.counted in
        let p' = y.costs in
        record {
          walk = join s from m n v spent w;
          answers = y.answers ∙ ap (λ (x : Bool). part_answer w.to x w.there) (sym test);
          counted = omega arith;
          costs = omega arith;
          reads = ap₂ (λ (x y : List Record). x ++ y) r y.reads ∙ sym (written-append s v.passed w.passed);
        }

-- Paused is no full list
paused-free : (to : ℕ) (a : PartAnswer) → a ≡ paused_at to → Full a → ⊥
paused-free to a e (at, f) = let z : ◌≡◌ {A = ℕ} 0 1 = cc in omega arith

pub run-slices : (s : Source) (from : ℕ) (l : List Slice) (last : Slice) → Sliced s from l last → (Full last.answer → ⊥)
    → Run s from (total (λ c. c.allowance) l last) last.answer (total (λ c. c.records) l last) (total (λ c. c.spent) l last) (read_all l last)
unfolding Sliced total read_all
run-slices s from [] last x ok = run_of s from last x ok
run-slices s from (c ∷ l) last (x, to, e, y) ok =
    let first = run_of s from c x (paused-free to c.answer e) in
    let first =
    subst (λ (a : PartAnswer). Run s from c.allowance a c.records c.spent (read_first c.records c.left)) e first in
    run_join s from _ _ to last.answer _ _ _ _ _ _ first (run-slices s to l last y ok)

-- List's walk, where its list did not run full, passes every lexeme
unfoldable pub every-list : (s : Source) (from : ℕ) (old : List ℕ) (a : Answer) (n : ℕ) (new : List ℕ) (x : Listing s from old a n new)
    → ((at : ℕ) → a ≡ list_full at → ⊥) → Walk Always s from
every-list s from old a n new x ok =
    let v = x.walk in
    record {
      passed = v.passed;
      to = v.to;
      passes = passes-also (HasRoom (length old)) Always (λ b t o. tt) s [] from v.passed v.to v.passes;
      there = v.there;
      gives = v.gives;
      stops = λ t e o. ok v.to (x.answers ∙ ap (list_answer v.to) e);
    }

-- and so does that of a call which is not paused
unfoldable pub every-part : (s : Source) (from allowance : ℕ) (old : List ℕ) (a : PartAnswer) (n spent : ℕ) (new : List ℕ)
    → (x : Parting s from allowance old a n spent new) → (Full a → ⊥) → ((at : ℕ) → a ≡ paused_at at → ⊥) → Walk Always s from
every-part s from allowance old a n spent new x free on =
    let v = x.walk in
    record {
      passed = v.passed;
      to = v.to;
      passes = passes-also (Allowed not_blank (length old) allowance) Always (λ b t o. tt) s [] from v.passed v.to v.passes;
      there = v.there;
      gives = v.gives;
      stops = λ t e o.
          let b = eqb (length v.passed) allowance in
          let spent = token-spent v.to b v.there a t x.answers free e in
          on v.to (x.answers ∙ ap (λ (i : Bool). part_answer v.to i v.there) spent ∙ ap (part_answer v.to true) e);
    }

-- where no lexeme stops them, they answer alike
pub same_answer : (at at' : ℕ) (b : Bool) (there : Answer) → ((k start n next d u : ℕ) → there ≡ token k start n next d u → ⊥)
    → part_answer at b there ≡ given (list_answer at' there)
same_answer at at' b (token k start n next d u) none = absurd (none k start n next d u refl)
same_answer at at' b (end offset) none = refl
same_answer at at' b (refusal k start n offset) none = refl

-- the records of the lexemes that are not TK_NONE
pub without : (s : List ℕ) (l : List Legal) → records_of s (kept not_blank l) ≡ without_none (records_of s l)
unfolding records_of kept without_none
without s [] = refl
without s (t ∷ l) =
    split (not_blank t)
    (λ e. rw e (ap (λ (x : List Record). record_of s t ∷ x) (without s l)))
    (λ e. rw e (without s l))
