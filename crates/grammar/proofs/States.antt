-- All rules read together, a byte at a time: a state is what is left of each rule that can still be met, with the rule's place in
-- the list. Assumes nothing.
use Prim.Native.Nat.{ℕ, zero, suc, ◌+◌, ◌<◌, suc-le-suc}
use native.Mathlib.Nat.{not-suc-le-zero, le_of_suc-le-suc}
use native.Mathlib.Omega.{arith}
use mathlib.Core.Path.{◌≡◌, sym, ◌∙◌, subst}
use mathlib.Core.Bool.{cond, true≢false}
use mathlib.Core.List.{List, [], ◌∷◌}
use mathlib.Core.Logic.Iff
use mathlib.Core.Logic.{◌↔◌, ◌⊎◌, inl, inr}
use lib.ListN.{length, get_or}
use Rattle.keywords.proofs.Logic.{split}
use Rattle.grammar.specs.Form.{Form, never, empty, anything, Has}
use Rattle.grammar.specs.Classes.{Rule, ◌is◌, blank_run}
use Rattle.grammar.specs.Longest.{Some}
use Rattle.grammar.proofs.Equivalences.{one_of, no-left}
use Rattle.grammar.proofs.Rest.{nullable, View, is_never, is_empty, is_anything, other, view, rest, null_has, rest_has}

pub record Left : Type 0 where
  pub place : ℕ
  pub form : Form

abbrev pub State : Type 0
State = List Left

abbrev left : ℕ → Form → Left
left k f = record { place = k; form = f }

abbrev pub rule_at : List Rule → ℕ → Rule
rule_at rs k = get_or rs k (blank_run is never)

-- nothing is read yet
abbrev start_from : ℕ → List Rule → State
start_from k [] = []
start_from k (r ∷ rs) = left k r.form ∷ start_from (suc k) rs

abbrev pub start : List Rule → State
start rs = start_from 0 rs

abbrev keep : ℕ → {f : Form} → View f → State → State
keep k is_never q = q
keep k is_empty q = left k empty ∷ q
keep k is_anything q = left k anything ∷ q
keep k (other f) q = left k f ∷ q

-- the state behind a byte, and behind a text
abbrev pub step : ℕ → State → State
step b [] = []
step b (x ∷ q) = keep x.place (view (rest b x.form)) (step b q)

abbrev pub after : State → List ℕ → State
after q [] = q
after q (b ∷ w) = after (step b q) w

-- the places of the rules that are met
abbrev pub met : State → List ℕ
met [] = []
met (x ∷ q) = cond (nullable x.form) (x.place ∷ met q) (met q)

abbrev pub Met : ℕ → State → Type 0
Met k q = Some (λ j. j ≡ k) (met q)

-- what is left of the k-th rule is the form of w
abbrev In : ℕ → State → List ℕ → Type 0
In k q w = Some (λ x. (x.place ≡ k) × Has x.form w) q

module _ (k : ℕ) where
  keep-in : (j : ℕ) {f : Form} (v : View f) (q : State) (w : List ℕ) → In k (keep j v q) w ↔ (((j ≡ k) × Has f w) ⊎ In k q w)
  keep-in j is_never q w = no-left (λ h. h.1)
  keep-in j is_empty q w = Iff.rfl
  keep-in j is_anything q w = Iff.rfl
  keep-in j (other f) q w = Iff.rfl

  step_in : (b : ℕ) (q : State) (w : List ℕ) → In k (step b q) w ↔ In k q (b ∷ w)
  step_in b [] w = Iff.rfl
  step_in b (x ∷ q) w =
      Iff.trans (keep-in x.place (view (rest b x.form)) (step b q) w)
      (one_of (λ h. (h.0, (rest_has b x.form w).0 h.1), λ h. (h.0, (rest_has b x.form w).1 h.1)) (step_in b q w))

  met-in : (q : State) → Met k q ↔ In k q []
  met-in [] = Iff.rfl
  met-in (x ∷ q) =
      split (nullable x.form)
      (λ e. rw e (one_of (λ h. (h, (null_has x.form).0 e), λ h. h.0) (met-in q)))
      (λ e. rw e (Iff.trans (met-in q) (no-left (λ h. true≢false (sym ((null_has x.form).1 h.1) ∙ e)))))

  pub after-in : (w : List ℕ) (q : State) → Met k (after q w) ↔ In k q w
  after-in [] q = met-in q
  after-in (b ∷ w) q = Iff.trans (after-in w (step b q)) (step_in b q w)

-- the k-th rule from j on
abbrev Nth : ℕ → List Rule → ℕ → List ℕ → Type 0
Nth j rs k w = (i : ℕ) × (k ≡ j + i) × (i < length rs) × Has (rule_at rs i).form w

start-in : (rs : List Rule) (j k : ℕ) (w : List ℕ) → In k (start_from j rs) w ↔ Nth j rs k w
start-in [] j k w = (λ h. absurd h, λ h. not-suc-le-zero h.2)
start-in (r ∷ rs) j k w = (make (start-in rs (suc j) k w).0, take (start-in rs (suc j) k w).1)
  where
    make : (In k (start_from (suc j) rs) w → Nth (suc j) rs k w) → In k (start_from j (r ∷ rs)) w → Nth j (r ∷ rs) k w
    make more (inl h) = (0, omega (arith, h.0), omega arith, h.1)
    make more (inr h) = let (i, e, l, g) = more h in (suc i, omega arith, suc-le-suc l, g)

    take : (Nth (suc j) rs k w → In k (start_from (suc j) rs) w) → Nth j (r ∷ rs) k w → In k (start_from j (r ∷ rs)) w
    take more (zero, e, l, h) = inl (omega arith, h)
    take more (suc i, e, l, h) = inr (more (i, omega arith, le_of_suc-le-suc l, h))

-- behind a text the rules met are those whose form it has
pub met-rule : (rs : List Rule) (w : List ℕ) (k : ℕ) → Met k (after (start rs) w) ↔ ((k < length rs) × Has (rule_at rs k).form w)
met-rule rs w k = Iff.trans (after-in k w (start rs)) (Iff.trans (start-in rs 0 k w) (make, λ h. (k, omega arith, h.0, h.1)))
  where
    make : Nth 0 rs k w → (k < length rs) × Has (rule_at rs k).form w
    make (i, e, l, h) = let d : i ≡ k = omega arith in (subst (λ (n : ℕ). n < length rs) d l, subst (λ (n : ℕ). Has (rule_at rs n).form w) d h)
