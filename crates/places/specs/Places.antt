-- Line and column of a place of a text, as request 1 has them. Assumes nothing.
use Rattle.std.specs.Prelude.{ℕ, suc, ◌+◌, cond, List, [], ◌∷◌, eqb, length, take}

abbrev pub newline : ℕ
newline = 0x0A

-- how many 0A bytes
unfoldable pub newlines : List ℕ → ℕ
newlines [] = 0
newlines (b ∷ s) = cond (eqb b newline) (suc (newlines s)) (newlines s)

-- the bytes since the last of them, or since the beginning
unfoldable pub since_newline : List ℕ → List ℕ
since_newline [] = []
since_newline (b ∷ s) = cond (eqb (newlines (b ∷ s)) 0) (b ∷ s) (since_newline s)

-- Line is 1 plus the 0A bytes before the start.
unfoldable pub line_at : List ℕ → ℕ → ℕ
line_at s at = 1 + newlines (take at s)

-- Column is 1 plus the bytes since the last 0A before the start, or since the text's beginning.
unfoldable pub column_at : List ℕ → ℕ → ℕ
column_at s at = 1 + length (since_newline (take at s))
