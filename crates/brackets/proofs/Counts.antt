-- `counting`, law by law: tests that agree count the same, and numbers that fail the test do not count. Assumes nothing.
use Prim.Native.Nat.{ℕ, zero, suc, ◌≤◌, ◌<◌}
use native.Mathlib.Omega.{arith}
use mathlib.Core.Path.{◌≡◌, refl, ◌∙◌}
use mathlib.Core.Bool.{Bool, true, false}
use Rattle.brackets.specs.Pairings.{counting}
use Rattle.brackets.proofs.Cases.{by_last}

module _ (test : ℕ → Bool) (n : ℕ) where
  -- the last number counts where it passes
  pub count-one : test n ≡ true → counting test (suc n) ≡ suc (counting test n)
  unfolding counting
  count-one e = rw e

  pub skip-one : test n ≡ false → counting test (suc n) ≡ counting test n
  unfolding counting
  skip-one e = rw e

-- two tests that agree below n
pub count_same : (s t : ℕ → Bool) (n : ℕ) → ((j : ℕ) → j < n → s j ≡ t j) → counting s n ≡ counting t n
unfolding counting
count_same s t zero same = refl
count_same s t (suc n) same = rw (same n (omega arith), count_same s t n (λ j h. same j (omega arith)))

-- nothing passes from m on
pub count_low : (test : ℕ → Bool) (m n : ℕ) → m ≤ n → ((j : ℕ) → m ≤ j → j < n → test j ≡ false) → counting test n ≡ counting test m
count_low test m zero h none = let e : m ≡ 0 = omega arith in rw e
count_low test m (suc n) h none =
    by_last (suc n) m (omega arith)
    (λ l. skip-one test n (none n (omega arith) (omega arith)) ∙ count_low test m n (omega arith) (λ j a b. none j a (omega arith)))
    (λ e. rw e)
