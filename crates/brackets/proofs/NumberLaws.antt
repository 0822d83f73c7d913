-- The records in a list of numbers: how many they are, and where the kind of each stands. Assumes nothing.
use Prim.Native.Nat.{ℕ, zero, suc, ◌+◌, ◌*◌, ◌%◌, ◌≤◌, ◌<◌}
use native.Mathlib.Omega.{arith}
use mathlib.Core.Path.{◌≡◌, refl, ap, ◌∙◌}
use mathlib.Core.Bool.{true}
use mathlib.Core.List.{List, [], ◌∷◌}
use lib.ListN.{length, get_or}
use borrow.Author.Tests.{eqb-true}
use Rattle.records.specs.Records.{width, read_back}
use Rattle.brackets.specs.Numbers.{are_records, kinds_of}

-- five numbers a record, and fewer than five left over
counted : (ns : List ℕ) → (r : ℕ) × (r < 5) × (length ns ≡ length (kinds_of ns) * 5 + r)
unfolding kinds_of read_back
counted (k ∷ a ∷ b ∷ c ∷ d ∷ ns) = let (r, small, e) = counted ns in (r, small, omega (arith, e))
counted [] = (0, omega arith, omega arith)
counted (a ∷ []) = (1, omega arith, omega arith)
counted (a ∷ b ∷ []) = (2, omega arith, omega arith)
counted (a ∷ b ∷ c ∷ []) = (3, omega arith, omega arith)
counted (a ∷ b ∷ c ∷ d ∷ []) = (4, omega arith, omega arith)

pub records-count : (ns : List ℕ) → are_records ns ≡ true → length ns ≡ length (kinds_of ns) * width
records-count ns e = let (r, small, l) = counted ns in omega (arith, small, l, eqb-true (length ns % width) 0 e)

-- an index counted in numbers, beside their end
module _ (ns : List ℕ) (i : ℕ) (r : are_records ns ≡ true) where
  pub index-inside : i * width < length ns → i < length (kinds_of ns)
  index-inside h = omega (arith, h, records-count ns r)

  pub index-past : length ns ≤ i * width → length (kinds_of ns) ≤ i
  index-past h = omega (arith, h, records-count ns r)

  pub index-at-end : i * width ≡ length ns → i ≡ length (kinds_of ns)
  index-at-end h = omega (arith, h, records-count ns r)

  pub index-before : i ≤ length (kinds_of ns) → (i * width ≡ length ns → ⊥) → i < length (kinds_of ns)
  index-before l h = omega (arith, l, h, records-count ns r)

-- record i begins at number 5 i, with its kind
pub kind-here : (ns : List ℕ) (i : ℕ) → i < length (kinds_of ns) → (i * width < length ns) × (get_or ns (i * width) 0 ≡ get_or (kinds_of ns) i 0)
unfolding kinds_of read_back
kind-here (k ∷ a ∷ b ∷ c ∷ d ∷ ns) zero l = (omega arith, refl)
kind-here (k ∷ a ∷ b ∷ c ∷ d ∷ ns) (suc i) l =
    let (inside, e) = kind-here ns i (omega (arith, l)) in
    let five-on : suc i * width ≡ suc (suc (suc (suc (suc (i * width))))) = omega arith in
    (omega (arith, inside), ap (λ (n : ℕ). get_or (k ∷ a ∷ b ∷ c ∷ d ∷ ns) n 0) five-on ∙ e)
kind-here [] i l = absurd (omega (arith, l))
kind-here (a ∷ []) i l = absurd (omega (arith, l))
kind-here (a ∷ b ∷ []) i l = absurd (omega (arith, l))
kind-here (a ∷ b ∷ c ∷ []) i l = absurd (omega (arith, l))
kind-here (a ∷ b ∷ c ∷ d ∷ []) i l = absurd (omega (arith, l))
