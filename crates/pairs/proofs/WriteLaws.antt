-- What the functions of `writing` promise, step by step, of a list without a fault. Assumes nothing.
use Prim.Native.Nat.{ℕ, suc, ◌+◌, ◌≤◌, ◌<◌, max}
use native.Mathlib.Omega.{arith}
use mathlib.Core.Path.{◌≡◌, refl, sym, ◌∙◌}
use mathlib.Core.Bool.{Bool, true, false}
use mathlib.Core.List.{List, [], ◌∷◌}
use lib.Dec.{eqb, ltb}
use lib.ListN.{length, get_or, set}
use borrow.Author.Tests.{ltb-true, ltb-false}
use Rattle.keywords.proofs.Logic.{split}
use Rattle.brackets.specs.Refusals.{pair_refusal}
use Rattle.brackets.specs.Brackets.{is_opener, is_closer, closer_of, levels, Open, opening, deepest, nesting, partners}
use Rattle.brackets.proofs.StepLaws.{deepest-not-refused}
use Rattle.pairs.specs.Parts.{Stops, Sound, Writes}
use Rattle.pairs.proofs.StepLaws.{plain-nesting, plain-partners, opener-nesting, opener-too-deep, opener-partners, closer-nesting}
use Rattle.pairs.proofs.StepLaws.{closer-of-none, closer-partners, end-nesting, end-partners}

-- no fault: on behind what is plain, within a group, behind it
module _ (ks : List ℕ) (from depth : ℕ) where
  pub sound-plain : from < length ks → is_opener (get_or ks from 0) ≡ false → is_closer (get_or ks from 0) ≡ false → Sound ks from depth → Sound ks (from + 1) depth
  unfolding Sound
  sound-plain l o c (os, d, most, n, e) = (os, d, most, n, sym (plain-nesting ks from l o c os d) ∙ e)

  -- an opener has a level left
  pub sound-level : from < length ks → is_opener (get_or ks from 0) ≡ true → Sound ks from depth → depth ≤ levels → depth < levels
  unfolding Sound
  sound-level l o (os, d, most, n, e) h =
      split (ltb depth levels) (λ f. ltb-true depth levels f) λ f.
      absurd (deepest-not-refused most _ _ (sym e ∙ opener-too-deep ks from l o os d (omega (arith, n, h, ltb-false depth levels f))))

  pub sound-opener : from < length ks → is_opener (get_or ks from 0) ≡ true → depth < levels → Sound ks from depth → Sound ks (from + 1) (depth + 1)
  unfolding Sound
  sound-opener l o h (os, d, most, n, e) =
      (opening from (get_or ks from 0) os, max d (suc (length os)), most, omega (arith, n), sym (opener-nesting ks from l o os d (omega (arith, n, h))) ∙ e)

  -- with a bracket open the list has not ended
  pub sound_more : from ≤ length ks → Sound ks from (depth + 1) → from < length ks
  unfolding Sound
  sound_more l ([], d, most, n, e) = absurd (omega (arith, n))
  sound_more l (o ∷ os, d, most, n, e) =
      split (ltb from (length ks)) (λ f. ltb-true from (length ks) f) λ f.
      absurd (deepest-not-refused most _ _ (sym e ∙ end-nesting ks from (ltb-false from (length ks) f) (o ∷ os) d))

  pub sound-closer : from < length ks → is_closer (get_or ks from 0) ≡ true → Sound ks from (depth + 1) → Sound ks (from + 1) depth
  unfolding Sound
  sound-closer l c ([], d, most, n, e) = absurd (omega (arith, n))
  sound-closer l c (o ∷ os, d, most, n, e) =
      let met = closer-nesting ks from l c o os d in
      split (eqb (get_or ks from 0) (closer_of o.kind)) (λ f. (os, d, most, omega (arith, n), sym (met ∙ rw f) ∙ e)) λ f.
      absurd (deepest-not-refused most (pair_refusal "WrongCloser") from (sym e ∙ met ∙ rw f))

-- items: none yet, then one behind the other
module _ (ks : List ℕ) (from depth : ℕ) (ps : List ℕ) where
  pub none_written : Writes ks from depth ps from ps
  unfolding Writes
  none_written os n = refl

  pub then-own : (at : ℕ) (qs : List ℕ) → at < length ks → is_opener (get_or ks at 0) ≡ false → is_closer (get_or ks at 0) ≡ false → Writes ks from depth ps at qs
      → Writes ks from depth ps (at + 1) (set qs at at)
  unfolding Writes
  then-own at qs l o c w os n = w os n ∙ plain-partners ks at l o c os qs

  pub then-both : (at : ℕ) (qs : List ℕ) (to : ℕ) (rs : List ℕ) → Writes ks from depth ps at qs → Writes ks at depth qs to rs → Writes ks from depth ps to rs
  unfolding Writes
  then-both at qs to rs w v os n = w os n ∙ v os n

-- a group: its two brackets get each other's index
pub group-written : (ks : List ℕ) (from depth : ℕ) (ps : List ℕ) (end : ℕ) (qs : List ℕ) → from < length ks → is_opener (get_or ks from 0) ≡ true → end < length ks
    → is_closer (get_or ks end 0) ≡ true → Writes ks (from + 1) (depth + 1) ps end qs → Writes ks from depth ps (end + 1) (set (set qs from end) end from)
unfolding Writes
group-written ks from depth ps end qs l o h c w os n =
    let within : Open = opening from (get_or ks from 0) os in
    opener-partners ks from l o os ps ∙ w within (omega (arith, n)) ∙ closer-partners ks end h c _ os qs

-- the whole list: where nothing is open, items without a fault end with it
module _ (ks ps : List ℕ) where
  pub sound-whole : (d : ℕ) → nesting ks 0 [] 0 ≡ deepest d → Sound ks 0 0
  unfolding Sound
  sound-whole d e = ([], 0, d, refl, e)

  pub whole-written : (at : ℕ) (qs : List ℕ) → Writes ks 0 0 ps at qs → Stops ks 0 at → Sound ks at 0 → qs ≡ partners ks 0 [] ps
  unfolding Writes Sound
  whole-written at qs w ends ([], d, most, n, e) = sym (w [] refl ∙ end-partners ks at (ended (ltb at (length ks)) refl) [] qs)
    where
      ended : (t : Bool) → ltb at (length ks) ≡ t → length ks ≤ at
      ended true f =
          let inside = ltb-true at (length ks) f in
          absurd (deepest-not-refused most _ _ (sym e ∙ closer-of-none ks at inside (ends.2 inside) d))
      ended false f = ltb-false at (length ks) f
  whole-written at qs w ends (o ∷ os, d, most, n, e) = absurd (omega (arith, n))
