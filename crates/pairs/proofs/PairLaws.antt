-- What `pair` owes, case by case: the refusals in their order, the first pass's fault, the second's partners. Assumes nothing.
use Prim.Native.Nat.{ℕ, ◌/◌, ◌%◌, ◌≤◌, ◌<◌}
use native.Mathlib.Omega.{arith}
use mathlib.Core.Path.{◌≡◌, refl, sym, ◌∙◌, ap}
use mathlib.Core.Bool.{true}
use mathlib.Core.List.{List, []}
use lib.ListN.{length}
use borrow.Author.Tests.{eq-eqb, ne_eqb, le-leb, lt-leb}
use Rattle.records.specs.Records.{width}
use Rattle.brackets.specs.Brackets.{deepest, nesting, partners}
use Rattle.brackets.specs.Numbers.{are_records, kinds_of, most_records, outcome, written_for}
use Rattle.brackets.proofs.NumberLaws.{records-count}
use Rattle.std.specs.Prelude.{Result, Ok, Err}
use Rattle.pairs.specs.declared.PairError.{PairError}
use Rattle.pairs.specs.declared.PairError.TheVariants.{NotRecords, TooLong, NoRoom, TooDeep, WrongCloser, LeftOpen}
use Rattle.pairs.specs.Pairs.{refusal_of, outcome_of, Pairs}

module _ (ns before : List ℕ) where
  pub not-records : (length ns % width ≡ 0 → ⊥) → Pairs ns before (Err NotRecords) before
  unfolding Pairs
  not-records h = rw (ne_eqb (length ns % width) 0 h) (refl, refl)

  module _ (five : length ns % width ≡ 0) where
    pub are-records : are_records ns ≡ true
    are-records = eq-eqb (length ns % width) 0 five

    pub count : length ns / width ≡ length (kinds_of ns)
    count = let e = records-count ns are-records in omega (arith, e)

    pub too_long : most_records < length ns / width → Pairs ns before (Err TooLong) before
    unfolding Pairs
    too_long h = rw (are-records, lt-leb (length (kinds_of ns)) most_records (omega (arith, h, count))) (refl, refl)

    module _ (few : length ns / width ≤ most_records) where
      all_fit : length (kinds_of ns) ≤ most_records
      all_fit = omega (arith, few, count)

      pub no_room : length before < length ns / width → Pairs ns before (Err NoRoom) before
      unfolding Pairs
      no_room h = rw (are-records, le-leb _ _ all_fit, lt-leb (length (kinds_of ns)) (length before) (omega (arith, h, count))) (refl, refl)

      module _ (room : length ns / width ≤ length before) where
        -- no refusal before the records are looked at
        looked : outcome ns before ≡ nesting (kinds_of ns) 0 [] 0
        looked = let enough : length (kinds_of ns) ≤ length before = omega (arith, room, count) in rw (are-records, le-leb _ _ all_fit, le-leb _ _ enough)

        answers : (r : Result ℕ PairError) (after : List ℕ) → outcome_of r ≡ nesting (kinds_of ns) 0 [] 0 → after ≡ written_for (outcome_of r) (kinds_of ns) before
            → Pairs ns before r after
        unfolding Pairs
        answers r after e w = (e ∙ sym looked, w ∙ ap (λ o. written_for o (kinds_of ns) before) (e ∙ sym looked))

        pub faulty : (fault : PairError) → refusal_of fault ≡ nesting (kinds_of ns) 0 [] 0 → Pairs ns before (Err fault) before
        faulty NotRecords e = answers (Err NotRecords) before e refl
        faulty TooLong e = answers (Err TooLong) before e refl
        faulty NoRoom e = answers (Err NoRoom) before e refl
        faulty (TooDeep index) e = answers (Err (TooDeep index)) before e refl
        faulty (WrongCloser index) e = answers (Err (WrongCloser index)) before e refl
        faulty (LeftOpen index) e = answers (Err (LeftOpen index)) before e refl

        pub paired : (d : ℕ) (after : List ℕ) → deepest d ≡ nesting (kinds_of ns) 0 [] 0 → after ≡ partners (kinds_of ns) 0 [] before
            → Pairs ns before (Ok d) after
        paired d after e w = answers (Ok d) after e w
