-- Blobs: the bytes of a literal, and the literal of bytes. Assumes nothing.
use Rattle.std.specs.Prelude.{ℕ, ◌+◌, ◌-◌, ◌*◌, ◌/◌, ◌%◌, List, [], ◌∷◌, ◌++◌, length, take, drop}
use Rattle.keywords.specs.Text.{bytes}
use Rattle.hexdigits.specs.Digits.{worth, digit}

-- two H a byte
unfoldable pub pairs : List ℕ → List ℕ
pairs [] = []
pairs (h ∷ []) = []
pairs (h ∷ l ∷ w) = (worth h * 16 + worth l) ∷ pairs w

-- the bytes of a blob: what stands between `x'` and `'`
unfoldable pub blob_bytes : List ℕ → List ℕ
blob_bytes w = pairs (take (length w - 3) (drop 2 w))

-- a byte's two H, in capitals
unfoldable pub hexed : List ℕ → List ℕ
hexed [] = []
hexed (b ∷ v) = digit (b / 16) ∷ digit (b % 16) ∷ hexed v

-- the blob of bytes: small `x`
unfoldable pub blob_literal : List ℕ → List ℕ
blob_literal v = bytes "x'" ++ hexed v ++ bytes "'"
