-- When partners are right, for theorems: `partners-right` says that those written are, `pairing-unique` that no others can be; and what the
-- deepest nesting is, by the partners alone: `deepest-is` says that the number of an outcome is it. Assumes nothing.
use Rattle.std.specs.Prelude.{ℕ, zero, suc, ◌≤◌, ◌<◌, ◌≡◌, Bool, true, false, cond, ◌&&◌, List, leb, length, get_or}
use Rattle.brackets.specs.Brackets.{is_opener, is_closer, closer_of}

-- number i of a list: the kind of record i, or its partner's index
abbrev pub at : List ℕ → ℕ → ℕ
at l i = get_or l i 0

pub record Pairing (ks ps : List ℕ) : Type 0 where
  -- each record has a partner
  pub each : length ks ≤ length ps
  -- the partner of a record's partner is itself
  pub back : (i : ℕ) → i < length ks → at ps (at ps i) ≡ i
  -- an opener's partner is a closer of its kind behind it
  pub opener : (i : ℕ) → i < length ks → is_opener (at ks i) ≡ true → (i < at ps i) × (at ps i < length ks) × (at ks (at ps i) ≡ closer_of (at ks i))
  -- what lies between the two is paired within
  pub within : (i j : ℕ) → i < length ks → is_opener (at ks i) ≡ true → i < j → j < at ps i → (i < at ps j) × (at ps j < at ps i)
  -- a closer's partner is an opener, and what is no bracket has none but itself
  pub closer : (i : ℕ) → i < length ks → is_closer (at ks i) ≡ true → (at ps i < length ks) × (is_opener (at ks (at ps i)) ≡ true)
  pub plain : (i : ℕ) → i < length ks → is_opener (at ks i) ≡ false → is_closer (at ks i) ≡ false → at ps i ≡ i

-- how many of the numbers below n pass a test
unfoldable pub counting : (ℕ → Bool) → ℕ → ℕ
counting test zero = zero
counting test (suc n) = cond (test n) (suc (counting test n)) (counting test n)

-- record j is an opener, and record i is of its group: the opener, its partner, or between the two
abbrev pub holds : (ks ps : List ℕ) (i j : ℕ) → Bool
holds ks ps i j = is_opener (at ks j) && leb j i && leb i (at ps j)

-- how many groups hold record i, its own included
abbrev pub around : (ks ps : List ℕ) (i : ℕ) → ℕ
around ks ps i = counting (holds ks ps i) (length ks)

-- d is the deepest nesting: no record lies in more groups, and one lies in as many unless d is 0; `deepest-one` says that no other number is
pub record DeepestNesting (ks ps : List ℕ) (d : ℕ) : Type 0 where
  pub most : (i : ℕ) → i < length ks → around ks ps i ≤ d
  pub reached : 0 < d → (i : ℕ) × (i < length ks) × (around ks ps i ≡ d)
