-- What the pairing of a list of records owes: the outcome, and the lent list behind the call. Assumes nothing.
use Rattle.std.specs.Prelude.{ℕ, ◌%◌, Bool, cond, List, [], map, eqb, leb, length}
use Rattle.records.specs.Records.{width, read_back}
use Rattle.brackets.specs.Refusals.{pair_refusal}
use Rattle.brackets.specs.Brackets.{Outcome, deepest, refused, nesting, partners}

-- five numbers a record, and none left over
abbrev pub are_records : List ℕ → Bool
are_records ns = eqb (length ns % width) 0

unfoldable pub kinds_of : List ℕ → List ℕ
kinds_of ns = map (λ r. r.kind) (read_back ns)

abbrev pub most_records : ℕ
most_records = 65535

-- the refusals in their order; the first three say nothing of a record, and have index 0
abbrev pub outcome : List ℕ → List ℕ → Outcome
outcome ns before =
    cond (are_records ns)
    (cond (leb (length (kinds_of ns)) most_records)
    (cond (leb (length (kinds_of ns)) (length before)) (nesting (kinds_of ns) 0 [] 0) (refused (pair_refusal "NoRoom") 0))
    (refused (pair_refusal "TooLong") 0))
    (refused (pair_refusal "NotRecords") 0)

-- the partners stand at the lent list's front, and behind them what it held; on a refusal it is as it was
abbrev pub written_for : Outcome → List ℕ → List ℕ → List ℕ
written_for (deepest d) ks before = partners ks 0 [] before
written_for (refused number index) ks before = before

abbrev pub written : List ℕ → List ℕ → List ℕ
written ns before = written_for (outcome ns before) (kinds_of ns) before
