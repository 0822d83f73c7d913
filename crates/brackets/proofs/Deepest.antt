-- `deepest-is`: where a list of kinds is not refused, the outcome's number is the deepest nesting, as the partners say it. `deepest-one`: no
-- other number is. `deepest-small`: it is no more than the levels that pass. Assumes nothing.
use Prim.Native.Nat.{ℕ, suc, ◌≤◌, ◌<◌, max, zero-le}
use native.Mathlib.Omega.{arith}
use mathlib.Core.Path.{◌≡◌, sym, ◌∙◌, ap, subst}
use mathlib.Core.Bool.{true, false}
use mathlib.Core.List.{List, [], ◌∷◌}
use lib.Dec.{ltb}
use lib.ListN.{length}
use borrow.Author.Tests.{ltb-true, ltb-false}
use Rattle.keywords.proofs.Logic.{split}
use Rattle.brackets.specs.Brackets.{is_opener, is_closer, levels, Open, opening, closing, deepest, nesting}
use Rattle.brackets.specs.Pairings.{at, Pairing, around, DeepestNesting}
use Rattle.brackets.proofs.Cases.{closer-no-opener, by_kind, by_last}
use Rattle.brackets.proofs.StepLaws.{Left, left-all, left-before, left_here, left-on}
use Rattle.brackets.proofs.StepLaws.{nesting-opener, nesting-closer, nesting-plain, nesting-end, opens_small, closes-right, none_left}
use Rattle.brackets.proofs.Accepted.{Waiting, waiting-opener, waiting-plain, waiting-closer}
use Rattle.brackets.proofs.Around.{around-opener, around-other}

-- what a walk at index i has met: d is the deepest nesting before it, and no fewer than those that are open
record Met (ks qs : List ℕ) (i : ℕ) (os : Open) (d : ℕ) : Type 0 where
  most : (j : ℕ) → j < i → around ks qs j ≤ d
  reached : 0 < d → (j : ℕ) × (j < i) × (around ks qs j ≡ d)
  enough : length os ≤ d

module _ (ks qs : List ℕ) (i : ℕ) (os : Open) (d : ℕ) (met : Met ks qs i os d) where
  -- an opener is in one group more than are open
  met-opener : (k : ℕ) → around ks qs i ≡ suc (length os) → Met ks qs (suc i) (opening i k os) (max d (suc (length os)))
  met-opener k e = record { most = most; reached = reached; enough = omega arith }
    where
      top : ℕ
      top = max d (suc (length os))

      most : (j : ℕ) → j < suc i → around ks qs j ≤ top
      most j h = by_last i j h (λ b. omega (arith, met.most j b)) (λ s. rw (s, e) (omega arith))

      -- the opener itself is deepest, or what was so before is
      higher : d < suc (length os) → (j : ℕ) × (j < suc i) × (around ks qs j ≡ top)
      higher h = (i, omega arith, omega (arith, e))

      lower : suc (length os) ≤ d → (j : ℕ) × (j < suc i) × (around ks qs j ≡ top)
      lower h = let (j, l, r) = met.reached (omega arith) in (j, omega arith, omega arith)

      reached : 0 < top → (j : ℕ) × (j < suc i) × (around ks qs j ≡ top)
      reached z =
          split (ltb d (suc (length os))) (λ t. higher (ltb-true d (suc (length os)) t)) (λ t. lower (ltb-false d (suc (length os)) t))

  -- any other record is in as many as are open
  met-other : (rest : Open) → length rest ≤ length os → around ks qs i ≡ length os → Met ks qs (suc i) rest d
  met-other rest h e =
      record {
        most = λ j l. by_last i j l (met.most j) (λ s. rw (s, e) met.enough);
        reached = λ z. let (j, b, r) = met.reached z in (j, omega arith, r);
        enough = omega (arith, met.enough);
      }

closing-less : (os : Open) → length (closing os) ≤ length os
closing-less [] = zero-le
closing-less (o ∷ os) = omega arith

module _ (ks qs : List ℕ) (q : Pairing ks qs) (m : ℕ) where
  -- from any index i on, where those are open that the pairing says, the walk ends with the deepest nesting
  abbrev DeepestFrom : List ℕ → Type 0
  DeepestFrom rest = (i : ℕ) (os : Open) (d : ℕ) → Left ks i rest → Waiting ks qs i os → nesting rest i os d ≡ deepest m → Met ks qs i os d
      → DeepestNesting ks qs m

  deepest-end : DeepestFrom []
  deepest-end i [] d l w e met =
      let all : i ≡ length ks = omega (arith, l.counts) in
      let same : deepest d ≡ deepest m = sym (nesting-end i [] d) ∙ e in
      let number : d ≡ m = cc in
      subst (DeepestNesting ks qs) number
      record {
        most = λ j h. met.most j (omega arith);
        reached = λ z. let (j, h, r) = met.reached z in (j, omega arith, r);
      }
  deepest-end i (o ∷ os) d l w e met = absurd (none_left i o os d m e)

  deepest-step : (k : ℕ) (rest : List ℕ) → DeepestFrom rest → DeepestFrom (k ∷ rest)
  deepest-step k rest deep i os d l w e met = by_kind k opens shuts passes
    where
      inside : i < length ks
      inside = left-before ks i k rest l

      here : at ks i ≡ k
      here = left_here ks i k rest l

      on : Left ks (suc i) rest
      on = left-on ks i k rest l

      opens : is_opener k ≡ true → DeepestNesting ks qs m
      opens o =
          let next = sym (nesting-opener k rest i os d o (opens_small k rest i os d m e o)) ∙ e in
          let groups = around-opener ks qs q i os inside w (ap is_opener here ∙ o) in
          deep (suc i) (opening i k os) (max d (suc (length os))) on (waiting-opener ks qs q i k os inside here o w) next
          (met-opener ks qs i os d met k groups)

      shuts : is_closer k ≡ true → DeepestNesting ks qs m
      shuts c =
          let next = sym (nesting-closer k rest i os d c (closes-right k rest i os d m e c)) ∙ e in
          let groups = around-other ks qs q i os inside w (ap is_opener here ∙ closer-no-opener k c) in
          deep (suc i) (closing os) d on (waiting-closer ks qs q i os inside (ap is_closer here ∙ c) w) next
          (met-other ks qs i os d met (closing os) (closing-less os) groups)

      passes : is_opener k ≡ false → is_closer k ≡ false → DeepestNesting ks qs m
      passes o c =
          let next = sym (nesting-plain k rest i os d o c) ∙ e in
          let groups = around-other ks qs q i os inside w (ap is_opener here ∙ o) in
          deep (suc i) os d on (waiting-plain ks qs q i os inside (ap is_opener here ∙ o) (ap is_closer here ∙ c) w) next
          (met-other ks qs i os d met os (omega arith) groups)

  deepest-from : (rest : List ℕ) → DeepestFrom rest
  deepest-from [] = deepest-end
  deepest-from (k ∷ rest) = deepest-step k rest (deepest-from rest)

pub deepest-is : (ks ps : List ℕ) (d : ℕ) → nesting ks 0 [] 0 ≡ deepest d → Pairing ks ps → DeepestNesting ks ps d
deepest-is ks ps d e p = deepest-from ks ps p d ks 0 [] 0 (left-all ks) (λ j h k. absurd (omega arith)) e nothing-met
  where
    nothing-met : Met ks ps 0 [] 0
    nothing-met = record { most = λ j h. absurd (omega arith); reached = λ z. absurd (omega arith); enough = zero-le }

-- there is one deepest nesting
pub deepest-one : (ks ps : List ℕ) (c d : ℕ) → DeepestNesting ks ps c → DeepestNesting ks ps d → c ≡ d
deepest-one ks ps c d a b =
    let not-less : c < d → ⊥ = λ h. let (i, l, e) = b.reached (omega arith) in omega (arith, a.most i l) in
    let not_more : d < c → ⊥ = λ h. let (i, l, e) = a.reached (omega arith) in omega (arith, b.most i l) in
    omega arith

-- no opener is deeper than there are levels
small-from : (ks : List ℕ) (i : ℕ) (os : Open) (d m : ℕ) → nesting ks i os d ≡ deepest m → d ≤ levels → m ≤ levels
small-from [] i [] d m e h =
    let same : deepest d ≡ deepest m = sym (nesting-end i [] d) ∙ e in
    let number : d ≡ m = cc in
    omega arith
small-from [] i (o ∷ os) d m e h = absurd (none_left i o os d m e)
small-from (k ∷ ks) i os d m e h =
    let small = opens_small k ks i os d m e in
    let next = max d (suc (length os)) in
    by_kind k
    (λ o. small-from ks (suc i) (opening i k os) next m (sym (nesting-opener k ks i os d o (small o)) ∙ e) (omega (arith, small o)))
    (λ c. small-from ks (suc i) (closing os) d m (sym (nesting-closer k ks i os d c (closes-right k ks i os d m e c)) ∙ e) h)
    (λ o c. small-from ks (suc i) os d m (sym (nesting-plain k ks i os d o c) ∙ e) h)

pub deepest-small : (ks : List ℕ) (d : ℕ) → nesting ks 0 [] 0 ≡ deepest d → d ≤ levels
deepest-small ks d e = small-from ks 0 [] 0 d e zero-le
