-- `paired-is-accepted`: a list of kinds that has a right pairing is refused for its depth alone: no closer is wrong and nothing is left open.
-- Assumes nothing.
use Prim.Native.Nat.{ℕ, suc, ◌≤◌, ◌<◌, max, zero-le}
use native.Mathlib.Omega.{arith}
use mathlib.Core.Path.{◌≡◌, sym, ◌∙◌, ap}
use mathlib.Core.Bool.{true, false}
use mathlib.Core.List.{List, [], ◌∷◌}
use lib.Dec.{ltb}
use lib.ListN.{length}
use borrow.Author.Tests.{ltb-true, ltb-false, eq-eqb}
use Rattle.keywords.proofs.Logic.{split}
use Rattle.brackets.specs.Refusals.{pair_refusal}
use Rattle.brackets.specs.Brackets.{is_opener, is_closer, closer_of, levels, Opened, Open, opening, is_closed_by, closing, refused, nesting}
use Rattle.brackets.specs.Pairings.{at, Pairing}
use Rattle.brackets.proofs.Cases.{not-both, by_kind, by_last, by_place}
use Rattle.brackets.proofs.Stacks.{since}
use Rattle.brackets.proofs.StepLaws.{Left, left-all, left-before, left_here, left-on}
use Rattle.brackets.proofs.StepLaws.{nesting-opener, nesting-deep, nesting-closer, nesting-plain, nesting-end, deepest-not-refused}
use Rattle.brackets.proofs.Unique.{partner-closes}

-- the partners of a part lie in it
abbrev pub Kept : (qs : List ℕ) (from to : ℕ) → Type 0
Kept qs from to = (j : ℕ) → from ≤ j → j < to → (from ≤ at qs j) × (at qs j < to)

-- an opener before index i whose partner is not, and what lies between the two
pub record Waits (ks qs : List ℕ) (i : ℕ) (o : Opened) : Type 0 where
  pub before : o.at < i
  pub known : o.at < length ks
  pub opener : is_opener (at ks o.at) ≡ true
  pub kind : o.kind ≡ at ks o.at
  pub later : i ≤ at qs o.at
  pub between : Kept qs (suc o.at) i

-- those that are open at index i are the openers before it whose partners are not
abbrev pub Waiting : (ks qs : List ℕ) (i : ℕ) → Open → Type 0
Waiting ks qs i [] = Kept qs 0 i
Waiting ks qs i (o ∷ os) = Waits ks qs i o × Waiting ks qs o.at os

since-le : (ks qs : List ℕ) (i : ℕ) (os : Open) → Waiting ks qs i os → since os ≤ i
since-le ks qs i [] w = zero-le
since-le ks qs i (o ∷ os) (top, rest) = top.before

-- the same are open further on, where the part behind the innermost is longer and its partner still is not reached
further : (ks qs : List ℕ) (i n : ℕ) (os : Open) → i ≤ n → (Kept qs (since os) i → Kept qs (since os) n)
    → ((o : Opened) → Waits ks qs i o → n ≤ at qs o.at) → Waiting ks qs i os → Waiting ks qs n os
further ks qs i n [] h more still w = more w
further ks qs i n (o ∷ os) h more still (top, rest) =
    let b = top.before in
    let later = still o top in
    (record { before = omega arith; known = top.known; opener = top.opener; kind = top.kind; later = later; between = more top.between }, rest)

-- a part is longer by a record that is its own partner
kept-plain : (qs : List ℕ) (from i : ℕ) → from ≤ i → at qs i ≡ i → Kept qs from i → Kept qs from (suc i)
kept-plain qs from i f e kept j h k = by_last i j k (λ l. let (a, b) = kept j h l in (a, omega arith)) (λ s. rw (s, e) (f, omega arith))

-- or by a group
kept-group : (qs : List ℕ) (from o i : ℕ) → from ≤ o → o < i → at qs o ≡ i → at qs i ≡ o → Kept qs (suc o) i → Kept qs from o → Kept qs from (suc i)
kept-group qs from o i f l to fro between kept j h k =
    by_place o i j k
    (λ b. let (low, high) = kept j h b in (low, omega arith))
    (λ s. rw (s, to) (omega arith, omega arith))
    (λ a b. let (low, high) = between j a b in (omega arith, omega arith))
    (λ s. rw (s, fro) (f, omega arith))

module _ (ks qs : List ℕ) (q : Pairing ks qs) where
  -- an opener waits for its partner, which is behind it
  pub waiting-opener : (i k : ℕ) (os : Open) → i < length ks → at ks i ≡ k → is_opener k ≡ true → Waiting ks qs i os → Waiting ks qs (suc i) (opening i k os)
  waiting-opener i k os l e o w =
      let opens : is_opener (at ks i) ≡ true = ap is_opener e ∙ o in (
        record {
          before = omega arith;
          known = l;
          opener = opens;
          kind = sym e;
          later = (q.opener i l opens).0;
          between = λ j h k. absurd (omega arith);
        },
        w,
      )

  -- what is no bracket is nobody's partner
  pub waiting-plain : (i : ℕ) (os : Open) → i < length ks → is_opener (at ks i) ≡ false → is_closer (at ks i) ≡ false → Waiting ks qs i os
      → Waiting ks qs (suc i) os
  waiting-plain i os l o c w = further ks qs i (suc i) os (omega arith) (kept-plain qs (since os) i (since-le ks qs i os w) itself) still w
    where
      itself : at qs i ≡ i
      itself = q.plain i l o c

      -- the partner of an opener that is open is not i, which is its own
      still : (p : Opened) → Waits ks qs i p → suc i ≤ at qs p.at
      still p v =
          let other : at qs p.at ≡ i → ⊥ = λ e. omega (arith, v.before, sym (q.back p.at v.known) ∙ ap (at qs) e ∙ itself) in
          omega (arith, v.later, other)

  -- A closer's partner is the innermost that is open: an opener before that has its closer behind the innermost one's, and one behind it has
  -- its closer already.
  innermost : (i : ℕ) (o : Opened) → i < length ks → is_closer (at ks i) ≡ true → Waits ks qs i o → at qs i ≡ o.at
  innermost i o l c v = omega (arith, not-before, not_behind)
    where
      m : ℕ
      m = at qs i

      back : at qs m ≡ i
      back = q.back i l

      known : m < length ks
      known = (q.closer i l c).0

      opens : is_opener (at ks m) ≡ true
      opens = (q.closer i l c).1

      not-before : m < o.at → ⊥
      not-before h = let (low, high) = q.within m o.at known opens h (omega (arith, v.before, back)) in omega (arith, v.later, back)

      not_behind : o.at < m → ⊥
      not_behind h = let (low, high) = v.between m h (omega (arith, back, (q.opener m known opens).0)) in omega (arith, back)

  -- where nothing is open there is no closer
  some-open : (i : ℕ) → i < length ks → is_closer (at ks i) ≡ true → Waiting ks qs i [] → ⊥
  some-open i l c kept =
      let m = at qs i in
      let (known, opens) = q.closer i l c in
      let back : at qs m ≡ i = q.back i l in
      let (m<i, m-known, kinds) = q.opener m known opens in
      let (a, b) = kept m zero-le (omega (arith, back)) in
      omega (arith, back)

  -- so no closer is wrong
  closes : (i k : ℕ) (os : Open) → i < length ks → at ks i ≡ k → is_closer k ≡ true → Waiting ks qs i os → is_closed_by os k ≡ true
  closes i k [] l e c w = absurd (some-open i l (ap is_closer e ∙ c) w)
  closes i k (o ∷ os) l e c (top, rest) =
      let fro : at qs i ≡ o.at = innermost i o l (ap is_closer e ∙ c) top in
      let to : at qs o.at ≡ i = sym (ap (at qs) fro) ∙ q.back i l in
      let (a, b, kinds) = q.opener o.at top.known top.opener in
      eq-eqb k (closer_of o.kind) (sym e ∙ sym (ap (at ks) to) ∙ kinds ∙ sym (ap closer_of top.kind))

  -- then the next one waits, for a partner further on
  pub waiting-closer : (i : ℕ) (os : Open) → i < length ks → is_closer (at ks i) ≡ true → Waiting ks qs i os → Waiting ks qs (suc i) (closing os)
  waiting-closer i [] l c w = absurd (some-open i l c w)
  waiting-closer i (o ∷ os) l c (top, rest) =
      further ks qs o.at (suc i) os (omega (arith, top.before))
      (kept-group qs (since os) o.at i (since-le ks qs o.at os rest) top.before to fro top.between) still rest
    where
      fro : at qs i ≡ o.at
      fro = innermost i o l c top

      to : at qs o.at ≡ i
      to = sym (ap (at qs) fro) ∙ q.back i l

      -- the next one's closer is behind that of the innermost, which lies within
      still : (p : Opened) → Waits ks qs o.at p → suc i ≤ at qs p.at
      still p v =
          let closer = partner-closes ks qs q p.at v.known v.opener in
          let other : at qs p.at ≡ o.at → ⊥ = λ e. not-both (at ks o.at) top.opener (rw e at closer) in
          let (low, high) = q.within p.at o.at v.known v.opener v.before (omega (arith, v.later, other)) in
          omega (arith, high, to)

  -- from any index i on, where those are open that the pairing says, there is no other refusal
  abbrev AcceptedFrom : List ℕ → Type 0
  AcceptedFrom rest = (i : ℕ) (os : Open) (d : ℕ) → Left ks i rest → Waiting ks qs i os → (number index : ℕ)
      → nesting rest i os d ≡ refused number index → number ≡ pair_refusal "TooDeep"

  -- nothing waits at the end, where all partners have come
  accepted-end : AcceptedFrom []
  accepted-end i [] d l w number index e = absurd (deepest-not-refused d number index (sym (nesting-end i [] d) ∙ e))
  accepted-end i (o ∷ os) d l (top, rest) number index e =
      let (a, known, kinds) = q.opener o.at top.known top.opener in
      absurd (omega (arith, l.counts, top.later, known))

  accepted-step : (k : ℕ) (rest : List ℕ) → AcceptedFrom rest → AcceptedFrom (k ∷ rest)
  accepted-step k rest accepted i os d l w number index e = by_kind k opens shuts passes
    where
      inside : i < length ks
      inside = left-before ks i k rest l

      here : at ks i ≡ k
      here = left_here ks i k rest l

      on : Left ks (suc i) rest
      on = left-on ks i k rest l

      small : is_opener k ≡ true → length os < levels → number ≡ pair_refusal "TooDeep"
      small o h =
          let next = sym (nesting-opener k rest i os d o h) ∙ e in
          accepted (suc i) (opening i k os) (max d (suc (length os))) on (waiting-opener i k os inside here o w) number index next

      deep : is_opener k ≡ true → levels ≤ length os → number ≡ pair_refusal "TooDeep"
      deep o h = let same : refused number index ≡ refused (pair_refusal "TooDeep") i = sym e ∙ nesting-deep k rest i os d o h in cc

      opens : is_opener k ≡ true → number ≡ pair_refusal "TooDeep"
      opens o =
          split (ltb (length os) levels) (λ t. small o (ltb-true (length os) levels t)) (λ t. deep o (ltb-false (length os) levels t))

      shuts : is_closer k ≡ true → number ≡ pair_refusal "TooDeep"
      shuts c =
          let next = sym (nesting-closer k rest i os d c (closes i k os inside here c w)) ∙ e in
          accepted (suc i) (closing os) d on (waiting-closer i os inside (ap is_closer here ∙ c) w) number index next

      passes : is_opener k ≡ false → is_closer k ≡ false → number ≡ pair_refusal "TooDeep"
      passes o c =
          let next = sym (nesting-plain k rest i os d o c) ∙ e in
          accepted (suc i) os d on (waiting-plain i os inside (ap is_opener here ∙ o) (ap is_closer here ∙ c) w) number index next

  accepted-from : (rest : List ℕ) → AcceptedFrom rest
  accepted-from [] = accepted-end
  accepted-from (k ∷ rest) = accepted-step k rest (accepted-from rest)

pub paired-is-accepted : (ks qs : List ℕ) → Pairing ks qs → (number index : ℕ) → nesting ks 0 [] 0 ≡ refused number index → number ≡ pair_refusal "TooDeep"
paired-is-accepted ks qs q number index e = accepted-from ks qs q ks 0 [] 0 (left-all ks) (λ j h k. absurd (omega arith)) number index e
