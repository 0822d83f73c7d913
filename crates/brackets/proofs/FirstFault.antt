-- `fault-first`: a refusal for a record gives the first that is at fault. `faultless-openings`: where no record of a list is at fault, none
-- of its opening part is. Assumes nothing.
use Prim.Native.Nat.{ℕ, zero, suc, ◌+◌, ◌≤◌, ◌<◌, max}
use native.Mathlib.Omega.{arith}
use mathlib.Core.Path.{◌≡◌, sym, ◌∙◌, ap}
use mathlib.Core.Bool.{true}
use mathlib.Core.List.{List, [], ◌∷◌}
use lib.ListN.{length, take}
use borrow.Author.Tests.{eqb-true}
use Rattle.brackets.specs.Refusals.{pair_refusal}
use Rattle.brackets.specs.Brackets.{Open, opening, closing, refused, nesting}
use Rattle.brackets.specs.Faults.{faultless, FirstFault}
use Rattle.brackets.proofs.Cases.{by-record}
use Rattle.brackets.proofs.StepLaws.{nesting-opener, nesting-deep, nesting-closer, nesting-wrong, nesting-plain, nesting-end, deepest-not-refused}

-- what a record does, whatever is behind it: the walk goes on
abbrev GoesOn : (k i : ℕ) (os : Open) (d : ℕ) (next : Open) (m : ℕ) → Type 0
GoesOn k i os d next m = (ks : List ℕ) → nesting (k ∷ ks) i os d ≡ nesting ks (suc i) next m

-- or the record is at fault
record AtFault (k i : ℕ) (os : Open) (d number : ℕ) : Type 0 where
  fault : number ≡ pair_refusal "LeftOpen" → ⊥
  found : (ks : List ℕ) → nesting (k ∷ ks) i os d ≡ refused number i

by-step : {X : Type 0} (k i : ℕ) (os : Open) (d : ℕ) → ((next : Open) (m : ℕ) → GoesOn k i os d next m → X)
    → ((number : ℕ) → AtFault k i os d number → X) → X
by-step k i os d on ends =
    by-record k os
    (λ o h. on (opening i k os) (max d (suc (length os))) (λ ks. nesting-opener k ks i os d o h))
    (λ o h. ends (pair_refusal "TooDeep") record { fault = λ e. omega arith; found = λ ks. nesting-deep k ks i os d o h })
    (λ c t. on (closing os) d (λ ks. nesting-closer k ks i os d c t))
    (λ c t. ends (pair_refusal "WrongCloser") record { fault = λ e. omega arith; found = λ ks. nesting-wrong k ks i os d c t })
    (λ o c. on os d (λ ks. nesting-plain k ks i os d o c))

-- at the end there is no record to be at fault
end-faultless : (i : ℕ) (os : Open) (d : ℕ) → faultless (nesting [] i os d) ≡ true
end-faultless i [] d = ap faultless (nesting-end i [] d)
end-faultless i (o ∷ os) d = ap faultless (nesting-end i (o ∷ os) d)

faultless-from : (ks : List ℕ) (i : ℕ) (os : Open) (d n : ℕ) → faultless (nesting ks i os d) ≡ true → faultless (nesting (take n ks) i os d) ≡ true
faultless-from ks i os d zero e = end-faultless i os d
faultless-from [] i os d (suc n) e = e
faultless-from (k ∷ ks) i os d (suc n) e =
    by-step k i os d
    (λ next m on. ap faultless (on (take n ks)) ∙ faultless-from ks (suc i) next m n (sym (ap faultless (on ks)) ∙ e))
    (λ number f. absurd (f.fault (eqb-true number (pair_refusal "LeftOpen") (sym (ap faultless (f.found ks)) ∙ e))))

pub faultless-openings : (ks : List ℕ) → faultless (nesting ks 0 [] 0) ≡ true → (n : ℕ) → faultless (nesting (take n ks) 0 [] 0) ≡ true
faultless-openings ks e n = faultless-from ks 0 [] 0 n e

-- from any index i on: the first fault, so many records behind it
record FaultFrom (ks : List ℕ) (i : ℕ) (os : Open) (d number index : ℕ) : Type 0 where
  place : ℕ
  counts : i + place ≡ index
  inside : place < length ks
  alone : nesting (take (suc place) ks) i os d ≡ refused number index
  before : (n : ℕ) → n ≤ place → faultless (nesting (take n ks) i os d) ≡ true

module _ (k : ℕ) (ks : List ℕ) (i : ℕ) (os : Open) (d number index : ℕ) where
  -- where the walk goes on, it is one record further off than from the next index
  fault-later : (next : Open) (m : ℕ) → GoesOn k i os d next m → FaultFrom ks (suc i) next m number index → FaultFrom (k ∷ ks) i os d number index
  fault-later next m on r =
      record {
        place = suc r.place;
        counts = omega (arith, r.counts);
        inside = omega (arith, r.inside);
        alone = on (take (suc r.place) ks) ∙ r.alone;
        before = before;
      }
    where
      before : (n : ℕ) → n ≤ suc r.place → faultless (nesting (take n (k ∷ ks)) i os d) ≡ true
      before zero h = end-faultless i os d
      before (suc n) h = ap faultless (on (take n ks)) ∙ r.before n (omega arith)

  fault-here : (other : ℕ) → AtFault k i os d other → nesting (k ∷ ks) i os d ≡ refused number index → FaultFrom (k ∷ ks) i os d number index
  fault-here other f e =
      let same : refused other i ≡ refused number index = sym (f.found ks) ∙ e in
      let here : i ≡ index = cc in
      record {
        place = 0;
        counts = omega arith;
        inside = omega arith;
        alone = f.found [] ∙ same;
        before = λ n h. let none : n ≡ 0 = omega arith in rw none (end-faultless i os d);
      }

fault-from : (ks : List ℕ) (i : ℕ) (os : Open) (d number index : ℕ) → nesting ks i os d ≡ refused number index → (number ≡ pair_refusal "LeftOpen" → ⊥)
    → FaultFrom ks i os d number index
fault-from [] i [] d number index e other = absurd (deepest-not-refused d number index (sym (nesting-end i [] d) ∙ e))
fault-from [] i (o ∷ os) d number index e other =
    let same : refused (pair_refusal "LeftOpen") o.at ≡ refused number index = sym (nesting-end i (o ∷ os) d) ∙ e in
    let left : number ≡ pair_refusal "LeftOpen" = cc in
    absurd (other left)
fault-from (k ∷ ks) i os d number index e other =
    by-step k i os d
    (λ next m on. fault-later k ks i os d number index next m on (fault-from ks (suc i) next m number index (sym (on ks) ∙ e) other))
    (λ n f. fault-here k ks i os d number index n f e)

pub fault-first : (ks : List ℕ) (number index : ℕ) → nesting ks 0 [] 0 ≡ refused number index → (number ≡ pair_refusal "LeftOpen" → ⊥)
    → FirstFault ks number index
fault-first ks number index e other =
    let r = fault-from ks 0 [] 0 number index e other in
    let here : r.place ≡ index = omega (arith, r.counts) in
    record {
      inside = omega (arith, r.inside);
      alone = rw here at r.alone;
      before = λ n h. r.before n (omega arith);
    }
