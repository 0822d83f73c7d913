-- What the loops keep: the bytes of pairs, and the pairs of bytes, that are put into a buffer. Assumes nothing.
use Prim.Native.Nat.{ℕ, ◌+◌, ◌*◌, ◌/◌, ◌%◌, ◌≤◌, ◌<◌}
use native.Mathlib.Omega.{arith}
use mathlib.Core.Path.{◌≡◌}
use mathlib.Core.List.{List, [], ◌∷◌, ◌++◌}
use lib.ListN.{length, get_or, drop, set}
use Rattle.buffers.specs.Buffers.{before}
use Rattle.buffers.proofs.FillLaws.{Filling, begins, one_more, with-left, whole}
use Rattle.hexdigits.specs.Digits.{worth, digit}
use Rattle.blobs.specs.Blobs.{pairs, hexed, blob_literal}
use Rattle.blobs.proofs.BlobLaws.{pairs-at, pairs_end, hexed-at, hexed-end}

-- n pairs are behind, and their bytes in the buffer
pub record Pairing (w old out : List ℕ) (n : ℕ) : Type 0 where
  pub upto : n ≤ length w / 2
  pub filling : Filling (pairs w) old out n (pairs (drop (2 * n) w))

module _ {w old out : List ℕ} {n : ℕ} (p : Pairing w old out n) where
  pub next-pair : n < length w / 2 → (b : ℕ) → b ≡ worth (get_or w (2 * n) 0) * 16 + worth (get_or w (2 * n + 1) 0)
      → Filling (pairs w) old out n (b ∷ pairs (drop (2 * (n + 1)) w))
  next-pair h b e =
      let two : 2 * n + 2 ≡ 2 * (n + 1) = omega arith in
      with-left p.filling _ (rw (e, ← two) (pairs-at w (2 * n) (omega arith)))

  pub pair-on : n < length w / 2 → (b : ℕ) → b ≡ worth (get_or w (2 * n) 0) * 16 + worth (get_or w (2 * n + 1) 0) → Pairing w old (set out n b) (n + 1)
  pair-on h b e = record { upto = omega arith; filling = one_more (next-pair h b e) }

  pub all-paired : length w / 2 ≤ n → out ≡ before (pairs w) old
  all-paired h = whole (with-left p.filling [] (pairs_end w (2 * n) (omega arith)))

-- the literal, from its `x`: n of its bytes are in the buffer, i of the blob's behind
pub blob-first : (v old : List ℕ) → length (blob_literal v) ≤ length old → Filling (blob_literal v) old old 0 (120 ∷ 39 ∷ hexed v ++ 39 ∷ [])
unfolding blob_literal
blob-first v old h = begins (blob_literal v) old h

pub record Hexing (v old out : List ℕ) (n i : ℕ) : Type 0 where
  pub upto : i ≤ length v
  pub filling : Filling (blob_literal v) old out n (hexed (drop i v) ++ 39 ∷ [])

module _ {v old out : List ℕ} {n i : ℕ} (f : Hexing v old out n i) where
  pub next-high : i < length v → (d : ℕ) → d ≡ digit (get_or v i 0 / 16)
      → Filling (blob_literal v) old out n (d ∷ digit (get_or v i 0 % 16) ∷ hexed (drop (i + 1) v) ++ 39 ∷ [])
  next-high h d e = with-left f.filling _ (rw (e, hexed-at v i h))

  pub next_low : i < length v → (d : ℕ) → d ≡ digit (get_or v i 0 / 16) → (k : ℕ) → k ≡ digit (get_or v i 0 % 16)
      → Filling (blob_literal v) old (set out n d) (n + 1) (k ∷ hexed (drop (i + 1) v) ++ 39 ∷ [])
  next_low h d e k g = with-left (one_more (next-high h d e)) _ (rw g)

  pub hex-on : i < length v → (d : ℕ) → d ≡ digit (get_or v i 0 / 16) → (k : ℕ) → k ≡ digit (get_or v i 0 % 16)
      → Hexing v old (set (set out n d) (n + 1) k) (n + 1 + 1) (i + 1)
  hex-on h d e k g = record { upto = omega arith; filling = one_more (next_low h d e k g) }

  pub quote-last : length v ≤ i → Filling (blob_literal v) old out n (39 ∷ [])
  quote-last h = with-left f.filling _ (rw (hexed-end v i h))
