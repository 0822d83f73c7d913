-- Values up to a limit, two's complement, and how the code computes it. Assumes nothing.
use Prim.Native.Nat.{ℕ, suc, ◌-◌, ◌^◌, ◌≤◌, ◌<◌}
use native.Mathlib.Omega.{arith}
use mathlib.Core.Path.{◌≡◌, sym, ◌∙◌, ap}
use mathlib.Core.Bool.{true, false, true≢false}
use lib.Dec.{leb, ltb}
use lib.IntN.{ℤ, pos, negsuc}
use lib.Signed.{mag, lt_z}
use mir.Syntax.{w64}
use mir.Val.{SFits, to_z, of_z}
use mir.ValLaws.{to_z-of_z, to_z_pos}
use Rattle.std.proofs.Math.Facts.{to_z-neg}
use Rattle.std.proofs.lemmas.Int.{of_z-to_z}
use borrow.Author.Tests.{lt-ltb, le-ltb, le-leb, lt-leb, leb-true, ltb-true, ltb-false}
use Rattle.keywords.proofs.Logic.{split}
use Rattle.buffers.specs.Buffers.{valued, refused_as}
use Rattle.integers.specs.Integers.{signed, bits_of, up_to, decimal, hexadecimal, integer_literal}

pub in-range : (limit n : ℕ) → n ≤ limit → up_to limit n ≡ valued (signed n)
unfolding up_to
in-range limit n h = rw (le-leb n limit h)

pub out_of_range : (limit n : ℕ) → limit < n → up_to limit n ≡ refused_as "OutOfRange"
unfolding up_to
out_of_range limit n h = rw (lt-leb n limit h)

pub in-range-only : (limit n : ℕ) (v : ℤ) → up_to limit n ≡ valued v → (n ≤ limit) × (signed n ≡ v)
unfolding up_to
in-range-only limit n v e =
    split (leb n limit)
    (λ f. let g = rw f at e in (leb-true n limit f, cc))
    (λ f. let g = rw f at e in absurd (let z : ◌≡◌ {A = ℕ} 0 1 = cc in omega arith))

pub signed_low : (n : ℕ) → n < 2 ^ 63 → signed n ≡ pos n
unfolding signed
signed_low n h = rw (lt-ltb n (2 ^ 63) h)

pub signed_high : (n : ℕ) → 2 ^ 63 ≤ n → signed n ≡ negsuc (2 ^ 64 - suc n)
unfolding signed
signed_high n h = rw (le-ltb n (2 ^ 63) h)

-- what std's method gives
pub signed-cast : (n : ℕ) → n < 2 ^ 64 → to_z w64 n ≡ signed n
signed-cast n h =
    split (ltb n (2 ^ 63))
    (λ e. let l : n < 2 ^ 63 = ltb-true n (2 ^ 63) e in to_z_pos w64 n l ∙ sym (signed_low n l))
    (λ e.
    let l : 2 ^ 63 ≤ n = ltb-false n (2 ^ 63) e in
    let m : n ≡ 2 ^ 64 - suc (2 ^ 64 - suc n) = omega arith in
    ap (to_z w64) m ∙ to_z-neg w64 (2 ^ 64 - suc n) (omega arith) ∙ sym (signed_high n l))

-- and what an answer says of it
pub cast-valued : {n : ℕ} {z : ℤ} → n < 2 ^ 64 → z ≡ to_z w64 n → valued (to_z w64 (of_z w64 z)) ≡ valued (signed n)
cast-valued {n} h e = ap valued (rw e (ap (to_z w64) (of_z-to_z w64 n h) ∙ signed-cast n h))

pub signed-bits : (v : ℤ) → mag v < 2 ^ 63 → signed (bits_of v) ≡ v
unfolding bits_of
signed-bits (pos n) h = signed_low n h
signed-bits (negsuc k) h =
    let e : 2 ^ 64 - suc (2 ^ 64 - suc k) ≡ k = omega arith in
    signed_high (2 ^ 64 - suc k) (omega arith) ∙ ap negsuc e

not-below : (n : ℕ) → lt_z (pos n) (pos 0) ≡ true → ⊥
not-below n e = true≢false (sym e ∙ le-ltb n 0 (omega arith))

-- the literal of its bits, which std's method gives of a value as the code reads it
module _ (v : ℤ) (f : SFits w64 v) {n : ℕ} (g : n ≡ of_z w64 (to_z w64 (of_z w64 v))) where
  bits : n ≡ of_z w64 v
  bits = g ∙ ap (of_z w64) (to_z-of_z w64 v f)

  pub below-literal : lt_z (to_z w64 (of_z w64 v)) (pos 0) ≡ true → hexadecimal n ≡ integer_literal v
  unfolding integer_literal bits_of
  below-literal e = of v bits (ap (λ (z : ℤ). lt_z z (pos 0)) (sym (to_z-of_z w64 v f)) ∙ e)
    where
      of : (z : ℤ) → n ≡ of_z w64 z → lt_z z (pos 0) ≡ true → hexadecimal n ≡ integer_literal z
      of (pos m) b l = absurd (not-below m l)
      of (negsuc k) b l = ap hexadecimal b

  pub above-literal : lt_z (to_z w64 (of_z w64 v)) (pos 0) ≡ false → decimal n ≡ integer_literal v
  unfolding integer_literal
  above-literal e = of v bits (ap (λ (z : ℤ). lt_z z (pos 0)) (sym (to_z-of_z w64 v f)) ∙ e)
    where
      of : (z : ℤ) → n ≡ of_z w64 z → lt_z z (pos 0) ≡ false → decimal n ≡ integer_literal z
      of (pos m) b l = ap decimal b
      of (negsuc k) b l = absurd (true≢false l)
