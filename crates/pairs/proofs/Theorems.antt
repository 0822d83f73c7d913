-- What follows from the contract of `pair`. `pair-unique`: two results that meet it are equal, the answer and the lent list. `pair-right`: the
-- partners written are right; `pair-only`: no others would be; `pair-deepest`: so deep are the groups that they make. `pair-accepts`: a list
-- that can be paired is refused for its depth alone. `pair-refused`: on any refusal the lent list is as it was. `pair-too-deep`,
-- `pair-wrong-closer`, `pair-left-open`: what the index says. Assumes nothing.
use Prim.Native.Nat.{ℕ, ◌≤◌, ◌<◌}
use native.Mathlib.Omega.{arith}
use mathlib.Core.Path.{◌≡◌, refl, sym, ◌∙◌, ap}
use mathlib.Core.Bool.{true, cond}
use mathlib.Core.List.{List, []}
use lib.Dec.{eqb, leb}
use lib.ListN.{length, take, drop}
use borrow.Author.Tests.{le-leb, leb-true}
use Rattle.keywords.proofs.Logic.{split}
use Rattle.brackets.specs.Refusals.{pair_refusal}
use Rattle.brackets.specs.Brackets.{levels, Outcome, deepest, refused, nesting, partners}
use Rattle.brackets.specs.Numbers.{are_records, kinds_of, most_records, outcome, written_for}
use Rattle.brackets.specs.Pairings.{Pairing, DeepestNesting}
use Rattle.brackets.specs.Faults.{FirstFault, LastOpen}
use Rattle.brackets.proofs.StepLaws.{deepest-not-refused}
use Rattle.brackets.proofs.PartnerLaws.{partners-right, partners-length, partners-behind}
use Rattle.brackets.proofs.Unique.{partners-one}
use Rattle.brackets.proofs.Accepted.{paired-is-accepted}
use Rattle.brackets.proofs.Deepest.{deepest-is, deepest-small}
use Rattle.brackets.proofs.FirstFault.{fault-first}
use Rattle.brackets.proofs.LastOpen.{left-open-last}
use Rattle.std.specs.Prelude.{Result, Ok, Err}
use Rattle.pairs.specs.declared.PairError.{PairError}
use Rattle.pairs.specs.declared.PairError.TheVariants.{NotRecords, TooLong, NoRoom, TooDeep, WrongCloser, LeftOpen}
use Rattle.pairs.specs.Pairs.{outcome_of, Pairs}

-- an outcome is that of one answer
abbrev error_of : ℕ → ℕ → PairError
error_of n i =
    cond (eqb n 17) NotRecords (cond (eqb n 9) TooLong (cond (eqb n 13) NoRoom (cond (eqb n 18) (TooDeep i) (cond (eqb n 19) (WrongCloser i) (LeftOpen i)))))

abbrev answer_of : Outcome → Result ℕ PairError
answer_of (deepest d) = Ok d
answer_of (refused number index) = Err (error_of number index)

answer_back : (r : Result ℕ PairError) → answer_of (outcome_of r) ≡ r
answer_back (Ok d) = refl
answer_back (Err NotRecords) = refl
answer_back (Err TooLong) = refl
answer_back (Err NoRoom) = refl
answer_back (Err (TooDeep index)) = refl
answer_back (Err (WrongCloser index)) = refl
answer_back (Err (LeftOpen index)) = refl

pub same_outcome : (r q : Result ℕ PairError) → outcome_of r ≡ outcome_of q → r ≡ q
same_outcome r q e = sym (answer_back r) ∙ ap answer_of e ∙ answer_back q

pub pair-unique : (ns before : List ℕ) (r q : Result ℕ PairError) (after later : List ℕ) → Pairs ns before r after → Pairs ns before q later → (r ≡ q) × (after ≡ later)
unfolding Pairs
pair-unique ns before r q after later (e, w) (f, v) = (same_outcome r q (e ∙ sym f), w ∙ sym v)

pub pair-refused : (ns before : List ℕ) (r : Result ℕ PairError) (after : List ℕ) (number index : ℕ) → outcome_of r ≡ refused number index → Pairs ns before r after
    → after ≡ before
unfolding Pairs
pair-refused ns before r after number index e (f, w) = w ∙ ap (λ o. written_for o (kinds_of ns) before) (sym f ∙ e)

-- where an answer is the deepest nesting, no refusal came before the records were looked at
module _ (ns before : List ℕ) (d : ℕ) where
  abbrev Looked : Outcome → Type 0
  Looked o = o ≡ deepest d → (length (kinds_of ns) ≤ length before) × (nesting (kinds_of ns) 0 [] 0 ≡ deepest d)

  looked : Looked (outcome ns before)
  looked =
      split (are_records ns) (λ r. split (leb (length (kinds_of ns)) most_records)
      (λ m. split (leb (length (kinds_of ns)) (length before)) (λ b. rw (r, m, b) (λ e. (leb-true _ _ b, e))) (λ b. rw (r, m, b) (λ e. not-refused e)))
      (λ m. rw (r, m) (λ e. not-refused e))) (λ r. rw r (λ e. not-refused e))
    where
      not-refused : {X : Type 0} {number index : ℕ} → refused number index ≡ deepest d → X
      not-refused {X} {number} {index} e = absurd (deepest-not-refused d number index (sym e))

  module _ (after : List ℕ) (p : Pairs ns before (Ok d) after) where
    came : (length (kinds_of ns) ≤ length before) × (nesting (kinds_of ns) 0 [] 0 ≡ deepest d)
    unfolding Pairs
    came = looked (sym p.0)

    after_is : after ≡ partners (kinds_of ns) 0 [] before
    unfolding Pairs
    after_is = p.1 ∙ ap (λ o. written_for o (kinds_of ns) before) (sym p.0)

    pub pair-right : Pairing (kinds_of ns) after × (length after ≡ length before) × (drop (length (kinds_of ns)) after ≡ drop (length (kinds_of ns)) before)
    pair-right =
        rw after_is (partners-right (kinds_of ns) before d came.0 came.1, partners-length (kinds_of ns) before, partners-behind (kinds_of ns) before)

    pub pair-only : (qs : List ℕ) → length qs ≡ length (kinds_of ns) → Pairing (kinds_of ns) qs → take (length (kinds_of ns)) after ≡ qs
    pair-only qs size q = rw after_is (partners-one (kinds_of ns) before d qs came.0 size came.1 q)

    pub pair-deepest : DeepestNesting (kinds_of ns) after d × (d ≤ levels)
    pair-deepest = (deepest-is (kinds_of ns) after d came.1 pair-right.0, deepest-small (kinds_of ns) d came.1)

pub pair-accepts : (ns before : List ℕ) (r : Result ℕ PairError) (after qs : List ℕ) → are_records ns ≡ true → length (kinds_of ns) ≤ most_records
    → length (kinds_of ns) ≤ length before → Pairing (kinds_of ns) qs → (number index : ℕ) → outcome_of r ≡ refused number index → Pairs ns before r after
    → number ≡ pair_refusal "TooDeep"
unfolding Pairs
pair-accepts ns before r after qs are few room q number index e (f, w) =
    paired-is-accepted (kinds_of ns) qs q number index (rw (are, le-leb _ _ few, le-leb _ _ room) at (sym f ∙ e))

-- where a record is at fault or an opener left, no refusal came before the records were looked at
module _ (ns before after : List ℕ) (index : ℕ) where
  looked-at : (number : ℕ) → 17 < number → outcome ns before ≡ refused number index → nesting (kinds_of ns) 0 [] 0 ≡ refused number index
  looked-at number high =
      split (are_records ns) (λ r. split (leb (length (kinds_of ns)) most_records)
      (λ m. split (leb (length (kinds_of ns)) (length before)) (λ b. rw (r, m, b) (λ e. e)) (λ b. rw (r, m, b) (λ e. absurd (not-that 13 (omega arith) e))))
      (λ m. rw (r, m) (λ e. absurd (not-that 9 (omega arith) e)))) (λ r. rw r (λ e. absurd (not-that 17 (omega arith) e)))
    where
      not-that : (other : ℕ) → other < number → refused other 0 ≡ refused number index → ⊥
      not-that other less e = let same : other ≡ number = cc in omega arith

  pub pair-too-deep : Pairs ns before (Err (TooDeep index)) after → FirstFault (kinds_of ns) (pair_refusal "TooDeep") index
  unfolding Pairs
  pair-too-deep (e, w) = fault-first (kinds_of ns) _ index (looked-at _ (omega arith) (sym e)) (λ f. omega (arith, f))

  pub pair-wrong-closer : Pairs ns before (Err (WrongCloser index)) after → FirstFault (kinds_of ns) (pair_refusal "WrongCloser") index
  unfolding Pairs
  pair-wrong-closer (e, w) = fault-first (kinds_of ns) _ index (looked-at _ (omega arith) (sym e)) (λ f. omega (arith, f))

  pub pair-left-open : Pairs ns before (Err (LeftOpen index)) after → LastOpen (kinds_of ns) index
  unfolding Pairs
  pair-left-open (e, w) = left-open-last (kinds_of ns) index (looked-at _ (omega arith) (sym e))
