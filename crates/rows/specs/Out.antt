-- Bytes put into a row that is printed whenever it is full. Assumes nothing.
use Rattle.std.specs.Prelude.{ℕ, ◌+◌, ◌≤◌, min, ◌≡◌, cond, List, [], ◌∷◌, leb, ltb, length, set}

-- so many bytes of the row are filled
abbrev pub Within : List ℕ → ℕ → Type 0
Within row n = n ≤ length row

-- a row, and how many of its bytes are filled
pub record Row : Type 0 where
  pub bytes : List ℕ
  pub filled : ℕ

abbrev pub Gives : Row → List ℕ → ℕ → Type 0
Gives x row n = (row ≡ x.bytes) × (n ≡ x.filled)

-- a number beyond the row counts as none
abbrev pub filled_of : List ℕ → ℕ → ℕ
filled_of row at = cond (leb at (length row)) at 0

-- one byte more: behind the filled ones, or at the front of a row that is full; a row of no bytes takes none
abbrev pub place : List ℕ → ℕ → ℕ
place row at = cond (ltb at (length row)) at 0

unfoldable pub one_more : List ℕ → ℕ → ℕ → Row
one_more row at b = record { bytes = set row (place row at) b; filled = min (place row at + 1) (length row) }

-- bytes one after the other
unfoldable pub more : List ℕ → ℕ → List ℕ → Row
more row at [] = record { bytes = row; filled = at }
more row at (b ∷ text) = more (one_more row at b).bytes (one_more row at b).filled text
