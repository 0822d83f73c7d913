-- What the functions that go along a text owe: the line behind bytes, from the line before them. That it is the line which Places.antt
-- gives, wherever the text has no more lines than a number can say, is `goes-along` (`proofs/Theorems.antt`). Assumes nothing.
use Rattle.std.specs.Prelude.{ℕ, ◌+◌, ◌-◌, ◌≤◌, min, ◌≡◌, Bool, cond, not, List, [], ◌∷◌, ◌⊎◌, eqb, length, get_or, take}
use Rattle.std.proofs.Math.Seq.{slice}
use Rattle.places.specs.declared.Line.{Line}
use Rattle.places.specs.Places.{newline, newlines, since_newline, line_at}

-- the greatest number of a line: those behind it have it too
abbrev pub most : ℕ
most = 4294967295

-- the line behind a byte at an offset: behind a 0A the next one begins
abbrev pub line_past : Line → ℕ → ℕ → Line
line_past l at b = cond (eqb b newline) (record { number = min (l.number + 1) most; start = at + 1 }) l

-- the line behind these bytes, of which the first stands at an offset
unfoldable pub line_over : Line → ℕ → List ℕ → Line
line_over l at [] = l
line_over l at (b ∷ w) = line_over (line_past l at b) (at + 1) w

-- the line in which a place of a text stands: its number, and where it starts
unfoldable pub line_of : List ℕ → ℕ → Line
line_of s at = record { number = line_at s at; start = at - length (since_newline (take at s)) }

-- For private functions. These bytes have a 0A.
abbrev pub has_newline : List ℕ → Bool
has_newline w = not (eqb (newlines w) 0)

-- From one offset of a text up to a place, no further than another offset, there is none.
pub record Clear (s : List ℕ) (from to at : ℕ) : Type 0 where
  pub begin : from ≤ at
  pub inside : at ≤ to
  pub end : to ≤ length s
  pub none : newlines (slice from at s) ≡ 0

-- There it is, the first one; or the place is that offset.
abbrev pub FirstNewline : List ℕ → ℕ → ℕ → ℕ → Type 0
FirstNewline s from to at = Clear s from to at × ((at ≡ to) ⊎ (get_or s at 0 ≡ newline))
