-- The names' bytes in their order: each kind's stand at its number and fit a row of 17; no other number has any. Assumes nothing.
use Prim.Native.Nat.{ℕ, zero, suc, ◌≤◌}
use native.Mathlib.Omega.{arith}
use mathlib.Core.Path.{◌≡◌, refl, sym, ap}
use mathlib.Core.Bool.{Bool, true}
use mathlib.Core.List.{List, [], ◌∷◌, map}
use lib.Dec.{leb}
use lib.ListN.{length, get_or, get_or-map, get_or-eq_default}
use borrow.Author.Tests.{leb-true}
use Rattle.keywords.specs.Text.{bytes}
use Rattle.keywords.specs.Kinds.{kind_names}
use Rattle.keywords.specs.Rows.{row_of}
use Rattle.keywords.proofs.Logic.{and_left, and_right, every}
use Rattle.names.specs.Names.{name, name_row}

abbrev pub texts : List (List ℕ)
texts = map bytes kind_names

pub name_at : (k : ℕ) → get_or texts k [] ≡ name k
unfolding name
name_at k = get_or-map bytes kind_names k ""

pub name-none : (k : ℕ) → 176 ≤ k → [] ≡ name k
unfolding name
name-none k h = ap bytes (sym (get_or-eq_default kind_names "" {n = k} h))

pub row_at : (k : ℕ) → row_of 17 (get_or texts k []) ≡ name_row k
unfolding name_row
row_at k = ap (row_of 17) (name_at k)

pub row-none : (k : ℕ) → 176 ≤ k → row_of 17 [] ≡ name_row k
unfolding name_row
row-none k h = ap (row_of 17) (name-none k h)

-- every name fits its row: one test, which antt computes over all names
abbrev fits : List ℕ → Bool
fits b = leb (length b) 17

fit_at : (ts : List (List ℕ)) (k : ℕ) → every fits ts ≡ true → length (get_or ts k []) ≤ 17
fit_at [] k t = omega arith
fit_at (b ∷ ts) zero t = leb-true (length b) 17 (and_left (fits b) (every fits ts) t)
fit_at (b ∷ ts) (suc k) t = fit_at ts k (and_right (fits b) (every fits ts) t)

pub name-fits : (k : ℕ) → length (get_or texts k []) ≤ 17
name-fits k = fit_at texts k refl
