-- Places in the row of bytes that a program reads into. Assumes nothing.
use Rattle.std.specs.Prelude.{ℕ, ◌≤◌, List, length}
use Rattle.rows.specs.declared.input.NoText.{NoText}
use Rattle.rows.specs.declared.input.NoText.TheVariants as T
use Rattle.printing.specs.declared.input.NoRecord.{NoRecord}
use Rattle.printing.specs.declared.input.NoRecord.TheVariants as R

-- a text, and behind it what is unread, lie in the row
abbrev pub Holds : List ℕ → ℕ → ℕ → ℕ → Type 0
Holds row start end to = (start ≤ end) × (end ≤ to) × (to ≤ length row)

-- why there is no record, where a row has no text
abbrev pub no_record : NoText → NoRecord
no_record (T.Short n) = R.Short n
no_record T.Bad = R.Bad
