-- Bytes to pairs of H, and back. Assumes nothing.
use Prim.Native.Nat.{ℕ, suc, ◌+◌, ◌-◌, ◌*◌, ◌/◌, ◌%◌, ◌≤◌, ◌<◌}
use native.Mathlib.Omega.{arith}
use native.Mathlib.Numerals.{add-one, add-two}
use mathlib.Core.Path.{◌≡◌, refl, ap}
use mathlib.Core.Bool.{true, ◌&&◌}
use mathlib.Core.List.{List, [], ◌∷◌, ◌++◌}
use lib.Dec.{leb, ltb}
use lib.ListN.{length, get_or, drop, length-append, length-drop, drop_of_length-le}
use lib.Seq.{take_at, drop-cons}
use lib.Pow.{are_bytes}
use borrow.Author.Tests.{leb-true, ltb-true}
use Rattle.keywords.specs.Text.{bytes}
use Rattle.keywords.proofs.Logic.{split, and_left, and_right}
use Rattle.words.specs.Bytes.{between, is_digit}
use Rattle.hexdigits.specs.Digits.{worth, digit}
use Rattle.hexdigits.proofs.DigitLaws.{worth-digit}
use Rattle.blobs.specs.Blobs.{pairs, blob_bytes, hexed, blob_literal}

-- an H is worth less than sixteen
pub worth-below : (b : ℕ) → worth b < 16
unfolding worth is_digit
worth-below b =
    split (between "0" "9" b)
    (λ e. rw e (omega (arith, upto 48 57 e)))
    (λ e. rw e
    (split (between "A" "F" b)
    (λ f. rw f (omega (arith, upto 65 70 f)))
    (λ f. rw f (split (between "a" "f" b) (λ g. rw g (omega (arith, upto 97 102 g))) (λ g. rw g (omega arith))))))
  where
    upto : (low high : ℕ) → leb low b && leb b high ≡ true → b ≤ high
    upto low high e = leb-true b high (and_right (leb low b) (leb b high) e)

-- how long
pub pairs-long : (w : List ℕ) → length (pairs w) ≡ length w / 2
unfolding pairs
pairs-long [] = refl
pairs-long (h ∷ []) = refl
pairs-long (h ∷ l ∷ w) = omega (arith, pairs-long w)

pub hexed-long : (v : List ℕ) → length (hexed v) ≡ length v * 2
unfolding hexed
hexed-long [] = refl
hexed-long (b ∷ v) = omega (arith, hexed-long v)

pub blob-long : (v : List ℕ) → length (blob_literal v) ≡ length v * 2 + 3
unfolding blob_literal
blob-long v = omega (arith, hexed-long v, length-append (hexed v) (bytes "'"))

-- there and back
pub pairs-hexed : (v : List ℕ) → are_bytes v ≡ true → pairs (hexed v) ≡ v
unfolding pairs hexed
pairs-hexed [] h = refl
pairs-hexed (b ∷ v) h =
    let low : b < 256 = ltb-true b 256 (and_left (ltb b 256) (are_bytes v) h) in
    let e : b / 16 * 16 + b % 16 ≡ b = omega arith in
    rw (worth-digit (b / 16) (omega arith), worth-digit (b % 16) (omega arith), e, pairs-hexed v (and_right (ltb b 256) (are_bytes v) h))

-- between `x'` and `'`
pub blob-between : (x : ℕ) (w : List ℕ) → blob_bytes (x ∷ 39 ∷ w ++ 39 ∷ []) ≡ pairs w
unfolding blob_bytes
blob-between x w = ap pairs (take_at w (39 ∷ []) (length (x ∷ 39 ∷ w ++ 39 ∷ []) - 3) (omega (arith, length-append w (39 ∷ []))))

-- a pair, and what is left behind it
pub pairs-at : (w : List ℕ) (i : ℕ) → i + 1 < length w → pairs (drop i w) ≡ (worth (get_or w i 0) * 16 + worth (get_or w (i + 1) 0)) ∷ pairs (drop (i + 2) w)
unfolding pairs
pairs-at w i h = rw (drop-cons w i 0 (omega arith), drop-cons w (suc i) 0 (omega arith), add-one i, add-two i)

pub pairs_end : (w : List ℕ) (i : ℕ) → length w ≤ i + 1 → pairs (drop i w) ≡ []
pairs_end w i h = none (pairs (drop i w)) (omega (arith, pairs-long (drop i w), length-drop i w))
  where
    none : (l : List ℕ) → length l ≡ 0 → l ≡ []
    none [] e = refl
    none (x ∷ l) e = absurd (omega arith)

-- a byte's two H, and what is left behind them
pub hexed-at : (v : List ℕ) (i : ℕ) → i < length v → hexed (drop i v) ≡ digit (get_or v i 0 / 16) ∷ digit (get_or v i 0 % 16) ∷ hexed (drop (i + 1) v)
unfolding hexed
hexed-at v i h = rw (drop-cons v i 0 h, add-one i)

pub hexed-end : (v : List ℕ) (i : ℕ) → length v ≤ i → hexed (drop i v) ≡ []
unfolding hexed
hexed-end v i h = rw (drop_of_length-le v {i = i} h)
