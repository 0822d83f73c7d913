-- `left-open-last`: an opener that is reported as left open is the last one that is not closed: no record is at fault, and what is behind it
-- is paired by itself. Assumes nothing.
use Prim.Native.Nat.{ℕ, suc, ◌≤◌, ◌<◌, max, zero-le}
use native.Mathlib.Omega.{arith}
use mathlib.Core.Path.{◌≡◌, refl, sym, ◌∙◌, ap}
use mathlib.Core.Bool.{true, false}
use mathlib.Core.List.{List, [], ◌∷◌}
use lib.ListN.{length, take}
use Rattle.brackets.specs.Refusals.{pair_refusal}
use Rattle.brackets.specs.Brackets.{is_opener, is_closer, levels, Opened, Open, opening, is_closed_by, closing, deepest, refused, nesting}
use Rattle.brackets.specs.Faults.{faultless, LastOpen}
use Rattle.brackets.proofs.Cases.{by-record, by_last}
use Rattle.brackets.proofs.StepLaws.{Left, left-all, left-before, left_here, left-on}
use Rattle.brackets.proofs.StepLaws.{nesting-opener, nesting-deep, nesting-closer, nesting-wrong, nesting-plain, nesting-end, deepest-not-refused}
use Rattle.brackets.proofs.FirstFault.{faultless-openings}

-- from index i on, the walk comes to the end, where the opener at `index` is the innermost that is open
abbrev Leaves : (index : ℕ) (ks : List ℕ) (i : ℕ) (os : Open) (d : ℕ) → Type 0
Leaves index ks i os d = nesting ks i os d ≡ refused (pair_refusal "LeftOpen") index

-- so the record at i is not at fault, and the walk goes on
module _ {X : Type 0} (index k : ℕ) (ks : List ℕ) (i : ℕ) (os : Open) (d : ℕ) (e : Leaves index (k ∷ ks) i os d) where
  by-leaving : (is_opener k ≡ true → length os < levels → Leaves index ks (suc i) (opening i k os) (max d (suc (length os))) → X)
      → (is_closer k ≡ true → is_closed_by os k ≡ true → Leaves index ks (suc i) (closing os) d → X)
      → (is_opener k ≡ false → is_closer k ≡ false → Leaves index ks (suc i) os d → X) → X
  by-leaving opens shuts plain =
      by-record k os
      (λ o h. opens o h (sym (nesting-opener k ks i os d o h) ∙ e))
      (λ o h. absurd (omega (arith, no_other (pair_refusal "TooDeep") (nesting-deep k ks i os d o h))))
      (λ c t. shuts c t (sym (nesting-closer k ks i os d c t) ∙ e))
      (λ c t. absurd (omega (arith, no_other (pair_refusal "WrongCloser") (nesting-wrong k ks i os d c t))))
      (λ o c. plain o c (sym (nesting-plain k ks i os d o c) ∙ e))
    where
      no_other : (number : ℕ) → nesting (k ∷ ks) i os d ≡ refused number i → number ≡ pair_refusal "LeftOpen"
      no_other number s = let same : refused number i ≡ refused (pair_refusal "LeftOpen") index = sym s ∙ e in cc

-- at the end it is the innermost
leaves-end : (index i : ℕ) (o : Opened) (os : Open) (d : ℕ) → Leaves index [] i (o ∷ os) d → o.at ≡ index
leaves-end index i o os d e =
    let same : refused (pair_refusal "LeftOpen") o.at ≡ refused (pair_refusal "LeftOpen") index = sym (nesting-end i (o ∷ os) d) ∙ e in cc

leaves_none : (index i d : ℕ) → Leaves index [] i [] d → ⊥
leaves_none index i d e = deepest-not-refused d _ _ (sym (nesting-end i [] d) ∙ e)

-- the record at `index` is not open
abbrev Shut : (index : ℕ) → Open → Type 0
Shut index [] = Unit {0}
Shut index (o ∷ os) = (o.at ≡ index → ⊥) × Shut index os

shut-closing : (index : ℕ) (os : Open) → Shut index os → Shut index (closing os)
shut-closing index [] s = tt
shut-closing index (o ∷ os) (other, s) = s

-- a record that is passed and not open will not be open at the end
shut-stays : (index : ℕ) (ks : List ℕ) (i : ℕ) (os : Open) (d : ℕ) → index < i → Shut index os → Leaves index ks i os d → ⊥
shut-stays index [] i [] d h s e = leaves_none index i d e
shut-stays index [] i (o ∷ os) d h (other, s) e = other (leaves-end index i o os d e)
shut-stays index (k ∷ ks) i os d h s e =
    by-leaving index k ks i os d e
    (λ o small on. shut-stays index ks (suc i) (opening i k os) (max d (suc (length os))) (omega arith) ((λ z. omega arith), s) on)
    (λ c t on. shut-stays index ks (suc i) (closing os) d (omega arith) (shut-closing index os s) on)
    (λ o c on. shut-stays index ks (suc i) os d (omega arith) s on)

-- Two walks over the same records: the one has `up` open above the record at `index`, and the other `up` alone, perhaps at other indices.
abbrev Above : (index : ℕ) (os up : Open) → Type 0
Above index [] up = ⊥
Above index (o ∷ os) [] = Shut index os
Above index (o ∷ os) (u ∷ up) = (o.at ≡ index → ⊥) × (o.kind ≡ u.kind) × Above index os up

above-fewer : (index : ℕ) (os up : Open) → Above index os up → length up < length os
above-fewer index [] up a = elim a [ ]
above-fewer index (o ∷ os) [] a = omega arith
above-fewer index (o ∷ os) (u ∷ up) (other, kinds, a) = let less = above-fewer index os up a in omega arith

-- What closes one closes the other, since the record at `index` stays open.
above-closing : (index k : ℕ) (ks : List ℕ) (i : ℕ) (os up : Open) (d : ℕ) → index < i → Above index os up → is_closed_by os k ≡ true
    → Leaves index ks i (closing os) d → (is_closed_by up k ≡ true) × Above index (closing os) (closing up)
above-closing index k ks i [] up d h a t e = elim a [ ]
above-closing index k ks i (o ∷ os) [] d h a t e = absurd (shut-stays index ks i os d h a e)
above-closing index k ks i (o ∷ os) (u ∷ up) d h (other, kinds, a) t e = (rw kinds at t, a)

-- so the other walk ends with nothing open
abbrev PairedAbove : (index : ℕ) → List ℕ → Type 0
PairedAbove index ks = (i : ℕ) (os : Open) (d j : ℕ) (up : Open) (m : ℕ) → index < i → Above index os up → Leaves index ks i os d
    → (n : ℕ) × (nesting ks j up m ≡ deepest n)

above-end : (index : ℕ) → PairedAbove index []
above-end index i [] d j up m h a e = elim a [ ]
above-end index i (o ∷ os) d j [] m h a e = (m, nesting-end j [] m)
above-end index i (o ∷ os) d j (u ∷ up) m h (other, kinds, a) e = absurd (other (leaves-end index i o os d e))

above_step : (index k : ℕ) (ks : List ℕ) → PairedAbove index ks → PairedAbove index (k ∷ ks)
above_step index k ks paired i os d j up m h a e = by-leaving index k ks i os d e opens shuts passes
  where
    deep : ℕ
    deep = max d (suc (length os))

    high : ℕ
    high = max m (suc (length up))

    opens : is_opener k ≡ true → length os < levels → Leaves index ks (suc i) (opening i k os) deep → (n : ℕ) × (nesting (k ∷ ks) j up m ≡ deepest n)
    opens o small on =
        let less = above-fewer index os up a in
        let (n, r) = paired (suc i) (opening i k os) deep (suc j) (opening j k up) high (omega arith) ((λ z. omega arith), refl, a) on in
        (n, nesting-opener k ks j up m o (omega arith) ∙ r)

    shuts : is_closer k ≡ true → is_closed_by os k ≡ true → Leaves index ks (suc i) (closing os) d → (n : ℕ) × (nesting (k ∷ ks) j up m ≡ deepest n)
    shuts c t on =
        let (closes, b) = above-closing index k ks (suc i) os up d (omega arith) a t on in
        let (n, r) = paired (suc i) (closing os) d (suc j) (closing up) m (omega arith) b on in
        (n, nesting-closer k ks j up m c closes ∙ r)

    passes : is_opener k ≡ false → is_closer k ≡ false → Leaves index ks (suc i) os d → (n : ℕ) × (nesting (k ∷ ks) j up m ≡ deepest n)
    passes o c on = let (n, r) = paired (suc i) os d (suc j) up m (omega arith) a on in (n, nesting-plain k ks j up m o c ∙ r)

above-paired : (index : ℕ) (ks : List ℕ) → PairedAbove index ks
above-paired index [] = above-end index
above-paired index (k ∷ ks) = above_step index k ks (above-paired index ks)

module _ (ks : List ℕ) (index : ℕ) (whole : (n : ℕ) → faultless (nesting (take n ks) 0 [] 0) ≡ true) where
  -- the record at `index` is an opener: else it would not be open at the end
  last-here : (k : ℕ) (rest : List ℕ) (os : Open) (d : ℕ) → Left ks index (k ∷ rest) → Shut index os → Leaves index (k ∷ rest) index os d
      → LastOpen ks index
  last-here k rest os d l s e =
      by-leaving index k rest index os d e opens
      (λ c t on. absurd (shut-stays index rest (suc index) (closing os) d (omega arith) (shut-closing index os s) on))
      (λ o c on. absurd (shut-stays index rest (suc index) os d (omega arith) s on))
    where
      next : ℕ
      next = max d (suc (length os))

      opens : is_opener k ≡ true → length os < levels → Leaves index rest (suc index) (opening index k os) next → LastOpen ks index
      opens o small on =
          record {
            inside = left-before ks index k rest l;
            opener = ap is_opener (left_here ks index k rest l) ∙ o;
            whole = whole;
            behind = rw (left-on ks index k rest l).there (above-paired index rest (suc index) (opening index k os) next 0 [] 0 (omega arith) s on);
          }

  -- from any index up to it
  abbrev LastFrom : List ℕ → Type 0
  LastFrom rest = (i : ℕ) (os : Open) (d : ℕ) → Left ks i rest → i ≤ index → Shut index os → Leaves index rest i os d → LastOpen ks index

  last-end : LastFrom []
  last-end i [] d l h s e = absurd (leaves_none index i d e)
  last-end i (o ∷ os) d l h (other, s) e = absurd (other (leaves-end index i o os d e))

  last_step : (k : ℕ) (rest : List ℕ) → LastFrom rest → LastFrom (k ∷ rest)
  last_step k rest last i os d l h s e = by_last index i (omega arith) before (λ z. last-here k rest os d (rw z at l) s (rw z at e))
    where
      on : Left ks (suc i) rest
      on = left-on ks i k rest l

      before : i < index → LastOpen ks index
      before b =
          by-leaving index k rest i os d e
          (λ o small r. last (suc i) (opening i k os) (max d (suc (length os))) on b ((λ z. omega arith), s) r)
          (λ c t r. last (suc i) (closing os) d on b (shut-closing index os s) r)
          (λ o c r. last (suc i) os d on b s r)

  last-from : (rest : List ℕ) → LastFrom rest
  last-from [] = last-end
  last-from (k ∷ rest) = last_step k rest (last-from rest)

pub left-open-last : (ks : List ℕ) (index : ℕ) → nesting ks 0 [] 0 ≡ refused (pair_refusal "LeftOpen") index → LastOpen ks index
left-open-last ks index e = last-from ks index (faultless-openings ks (ap faultless e)) ks 0 [] 0 (left-all ks) zero-le tt e
