-- The two walks at an index of a list: what the record there does to the brackets that are open. Assumes nothing.
use Prim.Native.Nat.{ℕ, suc, ◌+◌, ◌≤◌, ◌<◌, max}
use native.Mathlib.Nat.{le_of_eq}
use native.Mathlib.Numerals.{add-one}
use mathlib.Core.Path.{◌≡◌, refl, sym, ◌∙◌, ap}
use mathlib.Core.Bool.{Bool, true, false, cond}
use mathlib.Core.List.{List, [], ◌∷◌}
use lib.Dec.{eqb}
use lib.ListN.{length, get_or, set, drop, drop_of_length-le}
use lib.Seq.{drop-cons}
use Rattle.keywords.proofs.Logic.{split}
use Rattle.brackets.specs.Refusals.{pair_refusal}
use Rattle.brackets.specs.Brackets.{is_opener, is_closer, closer_of, levels, Opened, Open, opening, refused, ended}
use Rattle.brackets.proofs.StepLaws.{nesting-opener, nesting-deep, nesting-closer, nesting-wrong, nesting-plain, nesting-end}
use Rattle.brackets.proofs.StepLaws.{partners-opener, partners-closer, partners-plain, partners-end}
use Rattle.pairs.specs.Parts.{nesting_from, partners_from}

-- what a call told of a kind that another call gave
pub told : (f : ℕ → Bool) (k there : ℕ) (r b : Bool) → k ≡ there → r ≡ f k → r ≡ b → f there ≡ b
told f k there r b e g h = ap f (sym e) ∙ sym g ∙ h

module _ (ks : List ℕ) (i : ℕ) (l : i < length ks) where
  module _ (o : is_opener (get_or ks i 0) ≡ false) (c : is_closer (get_or ks i 0) ≡ false) where
    pub plain-nesting : (os : Open) (d : ℕ) → nesting_from ks i os d ≡ nesting_from ks (i + 1) os d
    plain-nesting os d = rw (add-one, drop-cons ks i 0 l) (nesting-plain (get_or ks i 0) (drop (suc i) ks) i os d o c)

    pub plain-partners : (os : Open) (ps : List ℕ) → partners_from ks i os ps ≡ partners_from ks (i + 1) os (set ps i i)
    plain-partners os ps = rw (add-one, drop-cons ks i 0 l) (partners-plain (get_or ks i 0) (drop (suc i) ks) i os ps o c)

  module _ (o : is_opener (get_or ks i 0) ≡ true) where
    pub opener-nesting : (os : Open) (d : ℕ) → length os < levels
        → nesting_from ks i os d ≡ nesting_from ks (i + 1) (opening i (get_or ks i 0) os) (max d (suc (length os)))
    opener-nesting os d h = rw (add-one, drop-cons ks i 0 l) (nesting-opener (get_or ks i 0) (drop (suc i) ks) i os d o h)

    pub opener-too-deep : (os : Open) (d : ℕ) → length os ≡ levels → nesting_from ks i os d ≡ refused (pair_refusal "TooDeep") i
    opener-too-deep os d h = rw (drop-cons ks i 0 l) (nesting-deep (get_or ks i 0) (drop (suc i) ks) i os d o (le_of_eq (sym h)))

    pub opener-partners : (os : Open) (ps : List ℕ) → partners_from ks i os ps ≡ partners_from ks (i + 1) (opening i (get_or ks i 0) os) ps
    opener-partners os ps = rw (add-one, drop-cons ks i 0 l) (partners-opener (get_or ks i 0) (drop (suc i) ks) i os ps o)

  module _ (c : is_closer (get_or ks i 0) ≡ true) where
    pub closer-nesting : (b : Opened) (os : Open) (d : ℕ)
        → nesting_from ks i (b ∷ os) d ≡ cond (eqb (get_or ks i 0) (closer_of b.kind)) (nesting_from ks (i + 1) os d) (refused (pair_refusal "WrongCloser") i)
    closer-nesting b os d =
        rw (add-one, drop-cons ks i 0 l)
        (split (eqb (get_or ks i 0) (closer_of b.kind))
        (λ e. rw e (nesting-closer (get_or ks i 0) (drop (suc i) ks) i (b ∷ os) d c e))
        (λ e. rw e (nesting-wrong (get_or ks i 0) (drop (suc i) ks) i (b ∷ os) d c e)))

    pub closer-of-none : (d : ℕ) → nesting_from ks i [] d ≡ refused (pair_refusal "WrongCloser") i
    closer-of-none d = rw (drop-cons ks i 0 l) (nesting-wrong (get_or ks i 0) (drop (suc i) ks) i [] d c refl)

    pub closer-partners : (b : Opened) (os : Open) (ps : List ℕ)
        → partners_from ks i (b ∷ os) ps ≡ partners_from ks (i + 1) os (set (set ps b.at i) i b.at)
    closer-partners b os ps = rw (add-one, drop-cons ks i 0 l) (partners-closer (get_or ks i 0) (drop (suc i) ks) i (b ∷ os) ps c)

module _ (ks : List ℕ) (i : ℕ) (l : length ks ≤ i) where
  pub end-nesting : (os : Open) (d : ℕ) → nesting_from ks i os d ≡ ended os d
  end-nesting os d = rw (drop_of_length-le ks {i = i} l) (nesting-end i os d)

  pub end-partners : (os : Open) (ps : List ℕ) → partners_from ks i os ps ≡ ps
  end-partners os ps = rw (drop_of_length-le ks {i = i} l) (partners-end i os ps)
