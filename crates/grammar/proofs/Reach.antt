-- The states that texts lead to: what holds in all of them holds behind every text. Assumes nothing.
use Prim.Native.Nat.{ℕ, zero, suc, ◌<◌}
use native.Mathlib.Nat.{not-suc-le-zero}
use native.Mathlib.Omega.{arith}
use mathlib.Core.Path.{◌≡◌, refl, sym, subst}
use mathlib.Core.Bool.{Bool, true, ◌&&◌}
use mathlib.Core.List.{List, [], ◌∷◌}
use lib.Dec.{eqb}
use borrow.Author.Tests.{eqb-true, eqb-false}
use Rattle.keywords.proofs.Logic.{split, and_left, and_right, every}
use Rattle.grammar.proofs.States.{State, step, after}
use Rattle.grammar.proofs.High.{plain, low_step}
use Rattle.grammar.proofs.Alike.{alike, alike-eq, key}
use Rattle.grammar.proofs.Follow.{goes, finds, found-always}

-- the test passes at each of the n lowest bytes
abbrev pub below : ℕ → (ℕ → Bool) → Bool
below zero p = true
below (suc n) p = p n && below n p

pub below_at : (p : ℕ → Bool) (n : ℕ) → below n p ≡ true → (k : ℕ) → k < n → p k ≡ true
below_at p zero e k h = absurd (not-suc-le-zero h)
below_at p (suc n) e k h =
    split (eqb k n)
    (λ d. subst (λ (i : ℕ). p i ≡ true) (sym (eqb-true k n d)) (and_left (p n) (below n p) e))
    (λ d. let o = eqb-false k n d in below_at p n (and_right (p n) (below n p) e) k (omega arith))

-- the state names no byte above 7F, and the test passes
abbrev passes : (State → Bool) → State → Bool
passes p q = every plain q && p q

-- such is each state that can be reached from q, and following n of them finds them all
abbrev pub reaches : ℕ → (State → Bool) → State → Bool
reaches n p q = finds step key alike n (passes p) q

-- behind every text no byte above 7F is named, and the test passes
pub always : (n : ℕ) (p : State → Bool) (q : State) → reaches n p q ≡ true → (w : List ℕ) → (every plain (after q w) ≡ true) × (p (after q w) ≡ true)
always n p q e w =
    let low-go : (b : ℕ) (r : State) → passes p r ≡ true → _ = λ b r h. low_step b r (and_left (every plain r) (p r) h) in
    let h = subst (λ (r : State). passes p r ≡ true) (same w q) (found-always step key alike alike-eq (passes p) low-go n q e w) in
    (and_left (every plain (after q w)) (p (after q w)) h, and_right (every plain (after q w)) (p (after q w)) h)
  where
    same : (w : List ℕ) (q : State) → goes step q w ≡ after q w
    same [] q = refl
    same (b ∷ w) q = same w (step b q)
