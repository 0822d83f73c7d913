-- Four bytes in a number: what is taken out of it is what was put in. The tables of `src/table.rt` have a byte to a place, so that no proof
-- cites this; it is for a table that is packed. Assumes nothing.
use Prim.Native.Nat.{ℕ, zero, suc, ◌+◌, ◌*◌, ◌/◌, ◌%◌, ◌^◌, ◌<◌}
use native.Mathlib.Nat.{add-zero}
use native.Mathlib.Omega.{arith}
use mathlib.Core.Path.{◌≡◌, ◌∙◌, ap}

-- four bytes in a number, the first the lowest: f (4 c) to f (4 c + 3)
unfoldable pub quad : (ℕ → ℕ) → ℕ → ℕ
quad f c = f (4 * c) + 256 * f (4 * c + 1) + 65536 * f (4 * c + 2) + 16777216 * f (4 * c + 3)

-- the c-th four and those before it are bytes
abbrev Bytes : (ℕ → ℕ) → ℕ → Type 0
Bytes f c = (j : ℕ) → j < 4 * c + 4 → f j < 256

-- byte r of the c-th four
module _ (f : ℕ → ℕ) (c : ℕ) (bytes : Bytes f c) where
  b0 : f (4 * c) < 256
  b0 = bytes (4 * c) (omega arith)

  b1 : f (4 * c + 1) < 256
  b1 = bytes (4 * c + 1) (omega arith)

  b2 : f (4 * c + 2) < 256
  b2 = bytes (4 * c + 2) (omega arith)

  b3 : f (4 * c + 3) < 256
  b3 = bytes (4 * c + 3) (omega arith)

  out : (r : ℕ) → r < 4 → quad f c / 2 ^ (8 * r) % 256 ≡ f (4 * c + r)
  unfolding quad
  out zero h = rw (add-zero (4 * c)) (omega (arith, b0, b1, b2, b3))
  out (suc zero) h = omega (arith, b0, b1, b2, b3)
  out (suc (suc zero)) h = omega (arith, b0, b1, b2, b3)
  out (suc (suc (suc zero))) h = omega (arith, b0, b1, b2, b3)
  out (suc (suc (suc (suc r)))) h = absurd (omega arith)

-- what is taken out of the number that a table gives is the list's
pub taken : (f : ℕ → ℕ) (i four r : ℕ) → Bytes f (i / 4) → four ≡ quad f (i / 4) → r ≡ four / 2 ^ (8 * (i % 4)) % 256 → r ≡ f i
taken f i four r bytes p q =
    let whole : 4 * (i / 4) + i % 4 ≡ i = omega arith in
    q ∙ rw p (out f (i / 4) bytes (i % 4) (omega arith)) ∙ ap f whole
