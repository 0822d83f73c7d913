-- The table of lists holds. Assumes nothing.
use mathlib.Core.Path.{◌≡◌, refl}
use mathlib.Core.List.{map}
use Rattle.records.specs.Records.{read_back, numbers_of_all}
use Rattle.brackets.specs.Brackets.{nesting, partners}
use Rattle.brackets.specs.Numbers.{kinds_of, outcome, written}
use Rattle.brackets.specs.Rows.{PairRow, rows}

-- what the definitions give for a row's two lists
abbrev given : PairRow → PairRow
given r =
    record { numbers = r.numbers; before = r.before; outcome = outcome r.numbers r.before; after = written r.numbers r.before }

pub pair-rows : map given rows ≡ rows
unfolding rows nesting partners kinds_of read_back numbers_of_all
pair-rows = refl
