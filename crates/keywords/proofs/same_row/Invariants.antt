-- `keywords::same_row` meets its contract. Both loops' invariant: what is left of the rows decides. Assumes nothing.
use Prim.Native.Nat.{ℕ}
use mathlib.Core.List.{List}
use mathlib.Core.Path.{◌≡◌}
use lib.ListN.{take, drop}
use Rattle.keywords.specs.Words.{same}
use Rattle.keywords.specs.Rows.{row_of}
use Rattle.keywords.specs.Stored.{store}
use Rattle.keywords.proofs.same_row.Given as goal

-- the row that the code compares with
abbrev pub row_at : ℕ → ℕ → List ℕ
row_at n p = row_of 17 (take n (drop p store))

abbrev pub Decides : List ℕ → ℕ → ℕ → ℕ → Type 0
Decides row n p i = same row (row_at n p) ≡ same (drop i row) (drop i (row_at n p))

abbrev pub invariant-loop-i : goal.invariant-loop-i
invariant-loop-i l = Decides l.row l.n l.p l.i

abbrev pub invariant-loop-i-2 : goal.invariant-loop-i-2
invariant-loop-i-2 l = Decides l.row l.n l.p l.i
