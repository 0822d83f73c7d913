-- `nesting` and `partners`, one record at a time. Assumes nothing.
use Prim.Native.Nat.{ℕ, suc, ◌+◌, ◌≤◌, ◌<◌, max}
use native.Mathlib.Omega.{arith}
use mathlib.Core.Path.{◌≡◌, refl, sym, ◌∙◌}
use mathlib.Core.Bool.{true, false}
use mathlib.Core.List.{List, [], ◌∷◌}
use lib.Dec.{ltb}
use lib.ListN.{length, drop, set}
use lib.Seq.{drop-cons}
use borrow.Author.Tests.{lt-ltb, le-ltb, ltb-true, ltb-false}
use Rattle.keywords.proofs.Logic.{split}
use Rattle.brackets.specs.Refusals.{pair_refusal}
use Rattle.brackets.specs.Brackets.{is_opener, is_closer, levels, Opened, Open, opening, is_closed_by, closing, paired}
use Rattle.brackets.specs.Brackets.{deepest, refused, ended, nesting, partners}
use Rattle.brackets.specs.Pairings.{at}
use Rattle.brackets.proofs.Cases.{closer-no-opener}

-- the kinds that a walk at index i has before it
pub record Left (ks : List ℕ) (i : ℕ) (rest : List ℕ) : Type 0 where
  pub counts : i + length rest ≡ length ks
  pub there : drop i ks ≡ rest

pub left-all : (ks : List ℕ) → Left ks 0 ks
left-all ks = record { counts = omega arith; there = refl }

-- the first of them is that at index i
module _ (ks : List ℕ) (i k : ℕ) (rest : List ℕ) (l : Left ks i (k ∷ rest)) where
  pub left-before : i < length ks
  left-before = omega (arith, l.counts)

  parted : at ks i ∷ drop (suc i) ks ≡ k ∷ rest
  parted = sym (drop-cons ks i 0 left-before) ∙ l.there

  pub left_here : at ks i ≡ k
  left_here = let e = parted in cc

  pub left-on : Left ks (suc i) rest
  left-on = let e = parted in record { counts = omega (arith, l.counts); there = cc }

module _ (k : ℕ) (ks : List ℕ) (i : ℕ) (os : Open) where
  -- an opener opens a level, where one is left
  pub nesting-opener : (d : ℕ) → is_opener k ≡ true → length os < levels
      → nesting (k ∷ ks) i os d ≡ nesting ks (suc i) (opening i k os) (max d (suc (length os)))
  unfolding nesting
  nesting-opener d o h = rw (o, lt-ltb (length os) levels h)

  pub nesting-deep : (d : ℕ) → is_opener k ≡ true → levels ≤ length os → nesting (k ∷ ks) i os d ≡ refused (pair_refusal "TooDeep") i
  unfolding nesting
  nesting-deep d o h = rw (o, le-ltb (length os) levels h)

  pub partners-opener : (ps : List ℕ) → is_opener k ≡ true → partners (k ∷ ks) i os ps ≡ partners ks (suc i) (opening i k os) ps
  unfolding partners
  partners-opener ps o = rw o

  -- a closer closes one, where it is the right one
  pub nesting-closer : (d : ℕ) → is_closer k ≡ true → is_closed_by os k ≡ true → nesting (k ∷ ks) i os d ≡ nesting ks (suc i) (closing os) d
  unfolding nesting
  nesting-closer d c h = rw (closer-no-opener k c, c, h)

  pub nesting-wrong : (d : ℕ) → is_closer k ≡ true → is_closed_by os k ≡ false → nesting (k ∷ ks) i os d ≡ refused (pair_refusal "WrongCloser") i
  unfolding nesting
  nesting-wrong d c h = rw (closer-no-opener k c, c, h)

  pub partners-closer : (ps : List ℕ) → is_closer k ≡ true → partners (k ∷ ks) i os ps ≡ partners ks (suc i) (closing os) (paired i os ps)
  unfolding partners
  partners-closer ps c = rw (closer-no-opener k c, c)

  -- any other record is passed over
  pub nesting-plain : (d : ℕ) → is_opener k ≡ false → is_closer k ≡ false → nesting (k ∷ ks) i os d ≡ nesting ks (suc i) os d
  unfolding nesting
  nesting-plain d o c = rw (o, c)

  pub partners-plain : (ps : List ℕ) → is_opener k ≡ false → is_closer k ≡ false → partners (k ∷ ks) i os ps ≡ partners ks (suc i) os (set ps i i)
  unfolding partners
  partners-plain ps o c = rw (o, c)

-- at the end
pub nesting-end : (i : ℕ) (os : Open) (d : ℕ) → nesting [] i os d ≡ ended os d
unfolding nesting
nesting-end i os d = refl

pub partners-end : (i : ℕ) (os : Open) (ps : List ℕ) → partners [] i os ps ≡ ps
unfolding partners
partners-end i os ps = refl

pub deepest-not-refused : (d number index : ℕ) → deepest d ≡ refused number index → ⊥
deepest-not-refused d number index e = let z : ◌≡◌ {A = ℕ} 0 1 = cc in omega arith

-- where a list is not refused, an opener has a level left, a closer is the right one, and nothing is left open
module _ (k : ℕ) (ks : List ℕ) (i : ℕ) (os : Open) (d m : ℕ) (e : nesting (k ∷ ks) i os d ≡ deepest m) where
  pub opens_small : is_opener k ≡ true → length os < levels
  opens_small o =
      split (ltb (length os) levels)
      (ltb-true (length os) levels)
      (λ t. absurd (deepest-not-refused m _ _ (sym e ∙ nesting-deep k ks i os d o (ltb-false (length os) levels t))))

  pub closes-right : is_closer k ≡ true → is_closed_by os k ≡ true
  closes-right c = split (is_closed_by os k) (λ t. t) (λ t. absurd (deepest-not-refused m _ _ (sym e ∙ nesting-wrong k ks i os d c t)))

pub none_left : (i : ℕ) (o : Opened) (os : Open) (d m : ℕ) → nesting [] i (o ∷ os) d ≡ deepest m → ⊥
none_left i o os d m e = deepest-not-refused m _ _ (sym e ∙ nesting-end i (o ∷ os) d)
