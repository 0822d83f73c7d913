-- Next as a function that computes: the last place at which a rule is met. Assumes nothing.
use Prim.Native.Nat.{ℕ, zero, suc, ◌≤◌, ◌<◌, zero-le, suc-le-suc}
use native.Mathlib.Nat.{not-suc-le-zero, le_of_suc-le-suc}
use mathlib.Core.Path.{◌≡◌, refl}
use mathlib.Core.Bool.{cond}
use mathlib.Core.List.{List, [], ◌∷◌}
use mathlib.Core.Logic.{inl}
use lib.Dec.{eqb, ltb}
use lib.ListN.{length, take, drop}
use Rattle.grammar.specs.Classes.{Rule}
use Rattle.grammar.specs.Answers.{Answer, end, past_end, answer}
use Rattle.grammar.proofs.States.{State, rule_at, start, step, after, met, Met}

pub data Found : Type 0 where
  nothing : Found
  found : ℕ → ℕ → Found

abbrev pub here : List ℕ → Found
here [] = nothing
here (k ∷ l) = found 0 k

abbrev pub onward : Found → List ℕ → Found
onward nothing l = here l
onward (found n k) l = found (suc n) k

-- how far the text meets a rule, and the place of that rule
abbrev pub scan : State → List ℕ → Found
scan q [] = here (met q)
scan q (b ∷ s) = onward (scan (step b q) s) (met q)

abbrev pub given : List Rule → List ℕ → ℕ → Found → Answer
given rs s at nothing = end at
given rs s at (found n k) = answer (rule_at rs k).class at (take n s)

-- what Next gives
abbrev pub next : List Rule → List ℕ → ℕ → Answer
next rs s at =
    let lexeme = given rs (drop at s) at (scan (start rs) (drop at s)) in
    cond (ltb (length s) at) (past_end at) (cond (eqb at (length s)) (end at) lexeme)

-- no rule is met behind m bytes
abbrev pub Unmet : State → List ℕ → ℕ → Type 0
Unmet q s m = met (after q (take m s)) ≡ []

-- the k-th rule is met behind n bytes, and none behind more
abbrev pub Right : State → List ℕ → Found → Type 0
Right q s nothing = (m : ℕ) → m ≤ length s → Unmet q s m
Right q s (found n k) = (n ≤ length s) × Met k (after q (take n s)) × ((m : ℕ) → m ≤ length s → n < m → Unmet q s m)

here-right : (q : State) (s : List ℕ) (l : List ℕ) → met q ≡ l → ((m : ℕ) → m ≤ length s → 0 < m → Unmet q s m) → Right q s (here l)
here-right q s [] e n = all
  where
    all : (m : ℕ) → m ≤ length s → Unmet q s m
    all zero h = e
    all (suc m) h = n (suc m) h (suc-le-suc zero-le)
here-right q s (k ∷ l) e n = (zero-le, rw e (inl refl), n)

onward-right : (q : State) (b : ℕ) (s : List ℕ) (f : Found) → Right (step b q) s f → Right q (b ∷ s) (onward f (met q))
onward-right q b s nothing h = here-right q (b ∷ s) (met q) refl more
  where
    more : (m : ℕ) → m ≤ length (b ∷ s) → 0 < m → Unmet q (b ∷ s) m
    more zero l p = absurd (not-suc-le-zero p)
    more (suc m) l p = h m (le_of_suc-le-suc l)
onward-right q b s (found n k) h = (suc-le-suc h.0, h.1, more)
  where
    more : (m : ℕ) → m ≤ length (b ∷ s) → suc n < m → Unmet q (b ∷ s) m
    more zero l p = absurd (not-suc-le-zero p)
    more (suc m) l p = h.2 m (le_of_suc-le-suc l) (le_of_suc-le-suc p)

pub scan-right : (s : List ℕ) (q : State) → Right q s (scan q s)
scan-right [] q = here-right q [] (met q) refl none
  where
    none : (m : ℕ) → m ≤ 0 → 0 < m → Unmet q [] m
    none zero l p = absurd (not-suc-le-zero p)
    none (suc m) l p = absurd (not-suc-le-zero l)
scan-right (b ∷ s) q = onward-right q b s (scan (step b q) s) (scan-right s (step b q))
