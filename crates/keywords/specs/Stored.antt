-- How the code stores the word list: the words end to end, the shortest first and those of one length by their first letter; where each
-- group of words with one length and one first letter begins; and the kinds in the same order. All of it is made from the word list.
-- Only the contracts of this crate's private functions speak of it. Assumes nothing.
use Rattle.std.specs.Prelude.{ℕ, zero, suc, ◌+◌, ◌/◌, ◌%◌, cond, List, [], ◌∷◌, ◌++◌, map, eqb, length, get_or}
use Prim.Native.Char.{code}
use Rattle.keywords.specs.Words.{Entry, word_list}
use Rattle.keywords.specs.Rows.{of_length}

-- the entries whose words begin with the byte b
abbrev pub beginning : ℕ → List Entry → List Entry
beginning b [] = []
beginning b (e ∷ es) = cond (eqb (get_or e.word 0 0) b) (e ∷ beginning b es) (beginning b es)

-- group 28 n + a: the words of n bytes that begin with letter a, A being letter 0. No word is in the two groups of a length behind Z
unfoldable pub group : ℕ → List Entry
group x = beginning (code "A" + x % 28) (of_length (x / 28) word_list)

-- the words of the groups before x, group by group
abbrev pub before : ℕ → List Entry
before zero = []
before (suc x) = before x ++ group x

-- the words of 0 to 17 bytes, which are all, as the code has them
unfoldable pub stored : List Entry
stored = before 504

-- how many words stand before group x
unfoldable pub start_of : ℕ → ℕ
start_of x = length (before x)

abbrev pub joined : List Entry → List ℕ
joined [] = []
joined (e ∷ es) = e.word ++ joined es

-- the words end to end
unfoldable pub store : List ℕ
store = joined stored

unfoldable pub letter_at : ℕ → ℕ
letter_at p = get_or store p 0

unfoldable pub kind_at : ℕ → ℕ
kind_at k = get_or (map (λ e. e.kind) stored) k 0

-- word k, of n bytes, stands at byte n k - s of the store, s being number n here; no word has 0, 1, 14, 15 or 16 bytes
abbrev pub skips : List ℕ
skips = 0 ∷ 0 ∷ 0 ∷ 11 ∷ 32 ∷ 79 ∷ 149 ∷ 249 ∷ 370 ∷ 498 ∷ 639 ∷ 784 ∷ 930 ∷ 1079 ∷ 1229 ∷ 1379 ∷ 1529 ∷ 1679 ∷ []
