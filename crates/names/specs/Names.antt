-- A kind's name: as text, and in a row of 17 bytes. Assumes nothing.
use Rattle.std.specs.Prelude.{ℕ, List, get_or}
use Rattle.keywords.specs.Text.{bytes}
use Rattle.keywords.specs.Kinds.{kind_names}
use Rattle.keywords.specs.Rows.{row_of}

-- the bytes of the name; none where the number is no kind's
unfoldable pub name : ℕ → List ℕ
name k = bytes (get_or kind_names k "")

-- the name, and dots behind it; no name where the number is no kind's
unfoldable pub name_row : ℕ → List ℕ
name_row k = row_of 17 (name k)
