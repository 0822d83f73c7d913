-- The record that starts at a row's beginning: its offset and its text's length, 4 bytes each with the lowest first, then the text.
-- Assumes nothing.
use Rattle.std.specs.Prelude.{ℕ, ◌+◌, ◌*◌, cond, List, ltb, length, get_or, Ok, Err}
use Rattle.std.specs.declared.result.Result.{Result}
use Rattle.rows.specs.declared.input.Text.{Text}
use Rattle.rows.specs.declared.input.NoText.{NoText}
use Rattle.rows.specs.declared.input.NoText.TheVariants.{Short, Bad}

abbrev pub number_at : List ℕ → ℕ → ℕ
number_at row at =
    get_or row at 0 + 256 * get_or row (at + 1) 0 + 65536 * (get_or row (at + 2) 0 + 256 * get_or row (at + 3) 0)

-- a text is at most this long
abbrev pub longest_record : ℕ
longest_record = 65536

-- with so many bytes in all
abbrev pub whole : List ℕ → ℕ → Result Text NoText
whole row end = cond (ltb (length row) end) (Err (Short end)) (Ok (record { offset = number_at row 0; start = 8; end = end }))

unfoldable pub record_at : List ℕ → Result Text NoText
record_at row = cond (ltb (length row) 8) (Err (Short 8)) (cond (ltb longest_record (number_at row 4)) (Err Bad) (whole row (8 + number_at row 4)))
