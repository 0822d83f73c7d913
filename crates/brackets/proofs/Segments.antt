-- Parts of a list of kinds that are paired within themselves: nothing in them has a partner outside. Such a part may lie in a longer one,
-- be lengthened by a record that is no bracket, or make a group. Assumes nothing.
use Prim.Native.Nat.{ℕ, suc, ◌≤◌, ◌<◌, zero-le}
use native.Mathlib.Omega.{arith}
use mathlib.Core.Path.{◌≡◌, sym, ◌∙◌, ap}
use mathlib.Core.Bool.{true, false, true≢false}
use mathlib.Core.List.{List}
use lib.ListN.{length}
use Rattle.brackets.specs.Brackets.{is_opener, is_closer, closer_of}
use Rattle.brackets.specs.Pairings.{at, Pairing}
use Rattle.brackets.proofs.Cases.{not-both, closer_of-closes, by_last, by_place}

-- record j has its partner, from index `from` on and before index `to`
pub record Done (ks ps : List ℕ) (from to j : ℕ) : Type 0 where
  pub back : at ps (at ps j) ≡ j
  pub low : from ≤ at ps j
  pub high : at ps j < to
  pub opener : is_opener (at ks j) ≡ true → (j < at ps j) × (at ks (at ps j) ≡ closer_of (at ks j))
  pub within : is_opener (at ks j) ≡ true → (m : ℕ) → j < m → m < at ps j → (j < at ps m) × (at ps m < at ps j)
  pub closer : is_closer (at ks j) ≡ true → is_opener (at ks (at ps j)) ≡ true
  pub plain : is_opener (at ks j) ≡ false → is_closer (at ks j) ≡ false → at ps j ≡ j

-- every record of a part has
abbrev pub Whole : (ks ps : List ℕ) (from to : ℕ) → Type 0
Whole ks ps from to = (j : ℕ) → from ≤ j → j < to → Done ks ps from to j

-- two lists of partners say the same of a part
abbrev pub Agree : (ps qs : List ℕ) (from to : ℕ) → Type 0
Agree ps qs from to = (j : ℕ) → from ≤ j → j < to → at qs j ≡ at ps j

pub whole-empty : (ks ps : List ℕ) (i : ℕ) → Whole ks ps i i
whole-empty ks ps i j h k = absurd (omega arith)

-- no number outside a part matters to it
pub agree-whole : (ks ps qs : List ℕ) (from to : ℕ) → Agree ps qs from to → Whole ks ps from to → Whole ks qs from to
agree-whole ks ps qs from to same w j h k =
    let d = w j h k in
    let e = same j h k in
    record {
      back = rw e (same (at ps j) d.low d.high ∙ d.back);
      low = rw e d.low;
      high = rw e d.high;
      opener = rw e d.opener;
      within = rw e (λ o m a b. rw (same m (omega arith) (omega arith)) (d.within o m a b));
      closer = rw e d.closer;
      plain = rw e d.plain;
    }

-- the part may be longer
widen : (ks ps : List ℕ) (from to from' to' j : ℕ) → from' ≤ from → to ≤ to' → Done ks ps from to j → Done ks ps from' to' j
widen ks ps from to from' to' j h k d =
    record {
      back = d.back;
      low = omega arith;
      high = omega arith;
      opener = d.opener;
      within = d.within;
      closer = d.closer;
      plain = d.plain;
    }

-- one more record, which is no bracket
pub whole_plain : (ks ps : List ℕ) (from i : ℕ) → from ≤ i → Whole ks ps from i → at ps i ≡ i → is_opener (at ks i) ≡ false → is_closer (at ks i) ≡ false
    → Whole ks ps from (suc i)
whole_plain ks ps from i f w e o c j h k =
    by_last i j k (λ b. widen ks ps from i from (suc i) j (omega arith) (omega arith) (w j h b)) (λ b. rw b itself)
  where
    itself : Done ks ps from (suc i) i
    itself =
        record {
          back = rw (e, e);
          low = rw e f;
          high = rw e (omega arith);
          opener = λ p. absurd (true≢false (sym p ∙ o));
          within = λ p. absurd (true≢false (sym p ∙ o));
          closer = λ p. absurd (true≢false (sym p ∙ c));
          plain = λ p q. e;
        }

-- a group: an opener and a closer of its kind that are each other's partners, and between them what is paired within itself
module _ (ks ps : List ℕ) (from o i : ℕ) (f : from ≤ o) (l : o < i) (before : Whole ks ps from o) (between : Whole ks ps (suc o) i)
    (to : at ps o ≡ i) (fro : at ps i ≡ o) (opens : is_opener (at ks o) ≡ true) (closes : at ks i ≡ closer_of (at ks o)) where
  closer-here : is_closer (at ks i) ≡ true
  closer-here = ap is_closer closes ∙ closer_of-closes (at ks o)

  opener-done : Done ks ps from (suc i) o
  opener-done =
      record {
        back = rw (to, fro);
        low = rw to (omega arith);
        high = rw to (omega arith);
        opener = rw to (λ p. (l, closes));
        within = rw to (λ p m a b. let d = between m a b in (d.low, d.high));
        closer = λ p. absurd (not-both (at ks o) opens p);
        plain = λ p q. absurd (true≢false (sym opens ∙ p));
      }

  closer-done : Done ks ps from (suc i) i
  closer-done =
      record {
        back = rw (fro, to);
        low = rw fro f;
        high = rw fro (omega arith);
        opener = λ p. absurd (not-both (at ks i) p closer-here);
        within = λ p. absurd (not-both (at ks i) p closer-here);
        closer = λ p. rw fro opens;
        plain = λ p q. absurd (true≢false (sym closer-here ∙ q));
      }

  pub whole-group : Whole ks ps from (suc i)
  whole-group j h k =
      by_place o i j k
      (λ b. widen ks ps from o from (suc i) j (omega arith) (omega arith) (before j h b))
      (λ e. rw e opener-done)
      (λ a b. widen ks ps (suc o) i from (suc i) j (omega arith) (omega arith) (between j a b))
      (λ e. rw e closer-done)

-- a list that is paired within itself is rightly paired
pub whole-pairing : (ks ps : List ℕ) → length ks ≤ length ps → Whole ks ps 0 (length ks) → Pairing ks ps
whole-pairing ks ps room w =
    record {
      each = room;
      back = λ i h. (w i zero-le h).back;
      opener = λ i h o. let d = w i zero-le h in let (a, b) = d.opener o in (a, d.high, b);
      within = λ i j h o. (w i zero-le h).within o j;
      closer = λ i h c. let d = w i zero-le h in (d.high, d.closer c);
      plain = λ i h. (w i zero-le h).plain;
    }
