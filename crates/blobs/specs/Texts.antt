-- Blobs with their bytes, and bytes with their blobs. Assumes nothing.
use Rattle.std.specs.Prelude.{ℕ, List, [], ◌∷◌}
use Prim.Native.String.{String}
use Rattle.keywords.specs.Text.{bytes}

pub record Row : Type 0 where
  pub text : List ℕ
  pub bytes : List ℕ

abbrev pub row : String → List ℕ → Row
row t v = record { text = bytes t; bytes = v }

abbrev pub reads : List Row
reads =
    -- the page's example
    row "X'53514C697465'" (bytes "SQLite") ∷
    row "x''" [] ∷
    row "X'00'" (0 ∷ []) ∷
    row "x'0aF9'" (10 ∷ 249 ∷ []) ∷
    row "x'FFfF'" (255 ∷ 255 ∷ []) ∷
    []

abbrev pub writes : List Row
writes =
    row "x''" [] ∷
    row "x'00'" (0 ∷ []) ∷
    row "x'0AF9'" (10 ∷ 249 ∷ []) ∷
    row "x'2780FF'" (39 ∷ 128 ∷ 255 ∷ []) ∷
    []
