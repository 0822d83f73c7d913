-- How many groups hold a record: as many as are open where a walk comes to it, and one more where it opens one. Assumes nothing.
use Prim.Native.Nat.{ℕ, suc, ◌≤◌, ◌<◌, zero-le}
use native.Mathlib.Omega.{arith}
use mathlib.Core.Path.{◌≡◌, sym, ◌∙◌, ap}
use mathlib.Core.Bool.{true, false}
use mathlib.Core.List.{List, [], ◌∷◌}
use lib.Dec.{leb}
use lib.ListN.{length}
use borrow.Author.Tests.{leb-true, leb-false, le-leb, lt-leb}
use Rattle.keywords.proofs.Logic.{split}
use Rattle.brackets.specs.Brackets.{is_opener, Opened, Open}
use Rattle.brackets.specs.Pairings.{at, Pairing, counting, holds, around}
use Rattle.brackets.proofs.Cases.{not-both}
use Rattle.brackets.proofs.Unique.{partner-closes}
use Rattle.brackets.proofs.Accepted.{Waits, Waiting}
use Rattle.brackets.proofs.Counts.{count-one, skip-one, count_same, count_low}

-- whether record j's group holds record i: it must be an opener, not behind i, and its partner not before i
module _ (ks ps : List ℕ) (i j : ℕ) where
  holds-opener : is_opener (at ks j) ≡ true → j ≤ i → holds ks ps i j ≡ leb i (at ps j)
  holds-opener o h = rw (o, le-leb j i h)

  holds-other : is_opener (at ks j) ≡ false → holds ks ps i j ≡ false
  holds-other o = rw o

  holds-behind : i < j → holds ks ps i j ≡ false
  holds-behind h = split (is_opener (at ks j)) (λ o. rw (o, lt-leb j i h)) (λ o. rw o)

  holds-closed : j ≤ i → at ps j < i → holds ks ps i j ≡ false
  holds-closed h l = split (is_opener (at ks j)) (λ o. holds-opener o h ∙ lt-leb i (at ps j) l) (λ o. rw o)

module _ (ks qs : List ℕ) (q : Pairing ks qs) where
  -- an opener before one that is open is closed behind it
  outlasts : (i j : ℕ) (o : Opened) → Waits ks qs i o → j < o.at → is_opener (at ks j) ≡ true → o.at ≤ at qs j → i ≤ at qs j
  outlasts i j o v h opens l =
      let known : j < length ks = omega (arith, v.known) in
      let closer = partner-closes ks qs q j known opens in
      let other : at qs j ≡ o.at → ⊥ = λ e. not-both (at ks o.at) v.opener (rw e at closer) in
      let (low, high) = q.within j o.at known opens h (omega (arith, other)) in
      omega (arith, v.later)

  -- so the groups of those before it hold record i where they hold it
  holds_same : (i j : ℕ) (o : Opened) → Waits ks qs i o → j < o.at → holds ks qs i j ≡ holds ks qs o.at j
  holds_same i j o v h = split (is_opener (at ks j)) opens (λ e. holds-other ks qs i j e ∙ sym (holds-other ks qs o.at j e))
    where
      opens : is_opener (at ks j) ≡ true → holds ks qs i j ≡ holds ks qs o.at j
      opens e =
          rw (holds-opener ks qs i j e (omega (arith, v.before)), holds-opener ks qs o.at j e (omega arith))
          (split (leb o.at (at qs j))
          (λ t. le-leb i (at qs j) (outlasts i j o v h e (leb-true o.at (at qs j) t)) ∙ sym t)
          (λ t. lt-leb i (at qs j) (omega (arith, v.before, leb-false o.at (at qs j) t)) ∙ sym t))

  -- the groups before record i that hold it are those that are open
  waiting-count : (i : ℕ) (os : Open) → Waiting ks qs i os → counting (holds ks qs i) i ≡ length os
  unfolding counting
  waiting-count i [] kept = count_low (holds ks qs i) 0 i zero-le (λ j a b. holds-closed ks qs i j (omega arith) (kept j a b).1)
  waiting-count i (o ∷ os) (top, rest) =
      let own = holds-opener ks qs i o.at top.opener (omega (arith, top.before)) ∙ le-leb i (at qs o.at) top.later in
      count_low (holds ks qs i) (suc o.at) i top.before (λ j a b. holds-closed ks qs i j (omega arith) (top.between j a b).1) ∙
      count-one (holds ks qs i) o.at own ∙
      ap suc (count_same (holds ks qs i) (holds ks qs o.at) o.at (λ j h. holds_same i j o top h) ∙ waiting-count o.at os rest)

  module _ (i : ℕ) (os : Open) (l : i < length ks) (w : Waiting ks qs i os) where
    -- no group behind record i holds it
    around-upto : around ks qs i ≡ counting (holds ks qs i) (suc i)
    around-upto = count_low (holds ks qs i) (suc i) (length ks) l (λ j a b. holds-behind ks qs i j a)

    -- around an opener there are those that are open and its own
    pub around-opener : is_opener (at ks i) ≡ true → around ks qs i ≡ suc (length os)
    around-opener o =
        let own = holds-opener ks qs i i o (omega arith) ∙ le-leb i (at qs i) (omega (arith, (q.opener i l o).0)) in
        around-upto ∙ count-one (holds ks qs i) i own ∙ ap suc (waiting-count i os w)

    -- around any other record there are those that are open: a closer's own is one of them
    pub around-other : is_opener (at ks i) ≡ false → around ks qs i ≡ length os
    around-other o = around-upto ∙ skip-one (holds ks qs i) i (holds-other ks qs i i o) ∙ waiting-count i os w
