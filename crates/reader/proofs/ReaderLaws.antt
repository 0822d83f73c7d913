-- For readers: a part of a text's memory that remains. Assumes nothing.
use Prim.Native.Nat.{ℕ, ◌+◌, ◌-◌, ◌≤◌}
use native.Mathlib.Omega.{arith}
use mathlib.Core.Path.{◌≡◌, refl, ◌∙◌, ap, subst}
use mathlib.Core.List.{List}
use lib.ListN.{length, take, drop, length-drop}
use lib.Seq.{take-length}
use denote.Ref.{Bor}
use Rattle.reader.specs.Reads.{Remains}

-- the part of a text from a place on, at which the same bytes begin as at the offset
pub part-remains : (text : Bor (List ℕ)) (offset at : ℕ) → at ≤ length text.now → drop at text.now ≡ drop offset text.now
    → Remains text offset (record { ref_ptr = (text.ref_ptr.0, at + text.ref_ptr.1); now = take (length text.now - at) (drop at text.now) })
part-remains text offset at inside e =
    record {
      bytes = whole ∙ e;
      block = refl;
      ends = let n : length (take (length text.now - at) (drop at text.now)) ≡ length text.now - at = ap length whole ∙ length-drop at
          text.now in omega arith;
    }
  where
    whole : take (length text.now - at) (drop at text.now) ≡ drop at text.now
    whole = subst (λ (n : ℕ). take n (drop at text.now) ≡ drop at text.now) (length-drop at text.now) (take-length (drop at text.now))
