-- `too-deep-is`: where a list of kinds that has a right pairing is refused for its depth, more groups hold the record than there are levels.
-- With `deepest-is`, `deepest-small` and `paired-is-accepted`: such a list passes where no record lies deeper, and only there. Assumes nothing.
use Prim.Native.Nat.{ℕ, suc, ◌≤◌, ◌<◌, max}
use native.Mathlib.Omega.{arith}
use mathlib.Core.Path.{◌≡◌, sym, ◌∙◌, ap}
use mathlib.Core.Bool.{true, false}
use mathlib.Core.List.{List, [], ◌∷◌}
use lib.ListN.{length}
use Rattle.brackets.specs.Refusals.{pair_refusal}
use Rattle.brackets.specs.Brackets.{is_opener, is_closer, levels, Open, opening, is_closed_by, closing, refused, nesting}
use Rattle.brackets.specs.Pairings.{at, Pairing, around}
use Rattle.brackets.proofs.Cases.{by-record}
use Rattle.brackets.proofs.StepLaws.{Left, left-all, left-before, left_here, left-on}
use Rattle.brackets.proofs.StepLaws.{nesting-opener, nesting-deep, nesting-closer, nesting-wrong, nesting-plain, nesting-end, deepest-not-refused}
use Rattle.brackets.proofs.Accepted.{Waiting, waiting-opener, waiting-plain, waiting-closer}
use Rattle.brackets.proofs.Around.{around-opener}

-- no other refusal is this one
only-deep : (number i index : ℕ) → refused number i ≡ refused (pair_refusal "TooDeep") index → number ≡ pair_refusal "TooDeep"
only-deep number i index e = cc

module _ (ks qs : List ℕ) (q : Pairing ks qs) (index : ℕ) where
  abbrev LiesDeep : Type 0
  LiesDeep = (index < length ks) × (levels < around ks qs index)

  -- from any index i on, where those are open that the pairing says
  abbrev DeepFrom : List ℕ → Type 0
  DeepFrom rest = (i : ℕ) (os : Open) (d : ℕ) → Left ks i rest → Waiting ks qs i os → nesting rest i os d ≡ refused (pair_refusal "TooDeep") index → LiesDeep

  deep-end : DeepFrom []
  deep-end i [] d l w e = absurd (deepest-not-refused d _ _ (sym (nesting-end i [] d) ∙ e))
  deep-end i (o ∷ os) d l w e = absurd (omega (arith, only-deep (pair_refusal "LeftOpen") o.at index (sym (nesting-end i (o ∷ os) d) ∙ e)))

  deep_step : (k : ℕ) (rest : List ℕ) → DeepFrom rest → DeepFrom (k ∷ rest)
  deep_step k rest deep i os d l w e = by-record k os opens refuses shuts wrong passes
    where
      inside : i < length ks
      inside = left-before ks i k rest l

      here : at ks i ≡ k
      here = left_here ks i k rest l

      on : Left ks (suc i) rest
      on = left-on ks i k rest l

      opens : is_opener k ≡ true → length os < levels → LiesDeep
      opens o h =
          let next = sym (nesting-opener k rest i os d o h) ∙ e in
          deep (suc i) (opening i k os) (max d (suc (length os))) on (waiting-opener ks qs q i k os inside here o w) next

      -- the record refused opens a group more than are open
      refuses : is_opener k ≡ true → levels ≤ length os → LiesDeep
      refuses o h =
          let same : refused (pair_refusal "TooDeep") i ≡ refused (pair_refusal "TooDeep") index = sym (nesting-deep k rest i os d o h) ∙ e in
          let it : index ≡ i = cc in
          rw it (inside, omega (arith, around-opener ks qs q i os inside w (ap is_opener here ∙ o)))

      shuts : is_closer k ≡ true → is_closed_by os k ≡ true → LiesDeep
      shuts c t =
          let next = sym (nesting-closer k rest i os d c t) ∙ e in
          deep (suc i) (closing os) d on (waiting-closer ks qs q i os inside (ap is_closer here ∙ c) w) next

      wrong : is_closer k ≡ true → is_closed_by os k ≡ false → LiesDeep
      wrong c t = absurd (omega (arith, only-deep (pair_refusal "WrongCloser") i index (sym (nesting-wrong k rest i os d c t) ∙ e)))

      passes : is_opener k ≡ false → is_closer k ≡ false → LiesDeep
      passes o c =
          let next = sym (nesting-plain k rest i os d o c) ∙ e in
          deep (suc i) os d on (waiting-plain ks qs q i os inside (ap is_opener here ∙ o) (ap is_closer here ∙ c) w) next

  deep-from : (rest : List ℕ) → DeepFrom rest
  deep-from [] = deep-end
  deep-from (k ∷ rest) = deep_step k rest (deep-from rest)

pub too-deep-is : (ks ps : List ℕ) (index : ℕ) → nesting ks 0 [] 0 ≡ refused (pair_refusal "TooDeep") index → Pairing ks ps
    → (index < length ks) × (levels < around ks ps index)
too-deep-is ks ps index e p = deep-from ks ps p index ks 0 [] 0 (left-all ks) (λ j h k. absurd (omega arith)) e
