-- A record, its numbers, and the records in a list of numbers. Assumes nothing.
use Rattle.std.specs.Prelude.{ℕ, ◌+◌, ◌*◌, Bool, cond, List, [], ◌∷◌, ◌++◌, leb, length, take, drop}
use Rattle.records.specs.declared.Record.{Record}

-- a record of five numbers
abbrev pub record_of : ℕ → ℕ → ℕ → ℕ → ℕ → Record
record_of k start n line column = record { kind = k; start = start; length = n; line = line; column = column }

-- its numbers, and how many they are
abbrev pub numbers_of : Record → List ℕ
numbers_of r = r.kind ∷ r.start ∷ r.length ∷ r.line ∷ r.column ∷ []

abbrev pub width : ℕ
width = 5

-- the numbers of several, one behind the other
unfoldable pub numbers_of_all : List Record → List ℕ
numbers_of_all [] = []
numbers_of_all (r ∷ rs) = numbers_of r ++ numbers_of_all rs

-- read back: the whole records in a list of numbers, from the first on; numbers left over are in none
unfoldable pub read_back : List ℕ → List Record
read_back (k ∷ start ∷ n ∷ line ∷ column ∷ l) = record_of k start n line column ∷ read_back l
read_back [] = []
read_back (a ∷ []) = []
read_back (a ∷ b ∷ []) = []
read_back (a ∷ b ∷ c ∷ []) = []
read_back (a ∷ b ∷ c ∷ d ∷ []) = []

unfoldable pub left_over : List ℕ → List ℕ
left_over l = drop (width * length (read_back l)) l

-- a list whose front is these records, and that holds behind them what it held
abbrev pub at_front : List Record → List ℕ → List ℕ
at_front rs old = numbers_of_all rs ++ drop (width * length rs) old

-- for `put`: from a place of a list on a whole record is free; the list with a record there, as it was where none is
abbrev pub is_free : List ℕ → ℕ → Bool
is_free l at = leb (at + width) (length l)

unfoldable pub with_record : List ℕ → ℕ → Record → List ℕ
with_record l at r = cond (is_free l at) (take at l ++ numbers_of r ++ drop (at + width) l) l
