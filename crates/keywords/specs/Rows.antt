-- What looking a word up by its row is: a row of 17 bytes holds a folded word, with dots behind it. The contract of `kind_of_row` speaks
-- of it; a word's kind is defined without it. Assumes nothing.
use Rattle.std.specs.Prelude.{ℕ, zero, suc, cond, List, [], ◌∷◌, map, eqb, length}
use Prim.Native.Char.{code}
use Rattle.keywords.specs.Words.{Entry, word_list, kind_in}

-- a row of n bytes: the word, and dots behind it
abbrev pub row_of : ℕ → List ℕ → List ℕ
row_of zero w = w
row_of (suc n) [] = code "." ∷ row_of n []
row_of (suc n) (b ∷ w) = b ∷ row_of n w

abbrev pub row_entry : Entry → Entry
row_entry e = record { word = row_of 17 e.word; kind = e.kind }

-- the entries whose words have n bytes
abbrev pub of_length : ℕ → List Entry → List Entry
of_length n [] = []
of_length n (e ∷ es) = cond (eqb (length e.word) n) (e ∷ of_length n es) (of_length n es)

-- the kind of the first word of n bytes whose row is r, else TK_ID
unfoldable pub kind_of_row : ℕ → List ℕ → ℕ
kind_of_row n r = kind_in (map row_entry (of_length n word_list)) r
