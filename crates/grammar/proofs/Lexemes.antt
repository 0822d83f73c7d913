-- From a test that passes in every state: the longest lexeme exists, stands in one class only, and needs no look at what follows.
-- Assumes nothing.
use Prim.Native.Nat.{ℕ, zero, suc, ◌≤◌, ◌<◌, zero-le, suc-le-suc}
use native.Mathlib.Nat.{not-suc-le-zero, le_of_suc-le-suc}
use native.Mathlib.Omega.{arith}
use mathlib.Core.Path.{◌≡◌, refl, sym, ◌∙◌, ap, subst}
use mathlib.Core.Bool.{Bool, true, false, ◌&&◌, ◌||◌, true≢false}
use mathlib.Core.List.{List, [], ◌∷◌, ◌++◌, nil≢cons, head-eq_of_cons-eq}
use mathlib.Core.Logic.{◌↔◌, inl, inr, ⊎_elim}
use lib.Dec.{leb, ltb, eqb}
use lib.ListN.{length, take, drop, length-append, length-drop}
use lib.Seq.{take-append-le}
use borrow.Author.Tests.{leb-true, leb-false, ltb-true, ltb-false, eqb-true, eqb-false}
use Rattle.keywords.proofs.Logic.{split, and_left, and_right, every, every-at}
use Rattle.grammar.specs.Form.{holds, Has}
use Rattle.grammar.specs.Classes.{Class, Rule}
use Rattle.grammar.specs.Longest.{Some, Follows, Stands, Longest, anywhere, Lexeme, Gives}
use Rattle.grammar.proofs.Equivalences.{or-iff, some-every}
use Rattle.grammar.proofs.States.{State, rule_at, start, step, after, met, Met, met-rule}
use Rattle.grammar.proofs.Model.{Found, nothing, found, scan, given, next, Right, scan-right}
use Rattle.grammar.proofs.High.{plain_set, low, low-set, low_step, low_small}
use Rattle.grammar.proofs.ClassLaws.{any-follows}
use Rattle.grammar.proofs.Unique.{longest-unique}
use Rattle.grammar.proofs.Reach.{below, below_at, reaches, always}

abbrev some? : List ℕ → Bool
some? [] = false
some? (k ∷ l) = true

abbrev once : List ℕ → Bool
once [] = true
once (k ∷ []) = true
once (k ∷ j ∷ l) = false

-- where a rule is met that b may not follow, b leads on to a rule that is met
abbrev leads_on : List Rule → ℕ → State → Bool
leads_on rs b q = let more = some? (met (step b q)) in every (λ k. holds (rule_at rs k).next b || more) (met q)

-- at most one rule is met, and what follows it needs no look
abbrev is_sound : List Rule → State → Bool
is_sound rs q = once (met q) && below 129 (λ b. leads_on rs b q)

-- What is computed of a list of rules: the test passes in each state that can be reached, and following `limit` of them finds them
-- all; no byte above 7F is named; no lexeme is empty; and every byte begins one.
pub record Sound (rs : List Rule) : Type 0 where
  pub limit : ℕ
  pub states : reaches limit (is_sound rs) (start rs) ≡ true
  pub next : every (λ r. plain_set r.next) rs ≡ true
  pub empty : met (start rs) ≡ []
  pub bytes : below 129 (λ b. some? (met (step b (start rs)))) ≡ true

once-eq : (l : List ℕ) → once l ≡ true → (j k : ℕ) → Some (λ i. i ≡ j) l → Some (λ i. i ≡ k) l → j ≡ k
once-eq [] e j k g h = absurd g
once-eq (i ∷ []) e j k (inl g) (inl h) = sym g ∙ h
once-eq (i ∷ []) e j k (inl g) (inr h) = absurd h
once-eq (i ∷ []) e j k (inr g) h = absurd g
once-eq (i ∷ x ∷ l) e j k g h = absurd (true≢false (sym e))

some-not-nil : (l : List ℕ) → some? l ≡ true → l ≡ [] → ⊥
some-not-nil l e n = true≢false (sym e ∙ ap some? n)

-- some rule is the one at some place
some_at : (P : Rule → Type 0) (rs : List Rule) → Some P rs ↔ ((k : ℕ) × (k < length rs) × P (rule_at rs k))
some_at P [] = (λ h. absurd h, λ h. not-suc-le-zero h.1)
some_at P (r ∷ rs) = (make (some_at P rs).0, take (some_at P rs).1)
  where
    make : (Some P rs → (k : ℕ) × (k < length rs) × P (rule_at rs k)) → Some P (r ∷ rs) → (k : ℕ) × (k < suc (length rs)) × P (rule_at (r ∷ rs) k)
    make more (inl h) = (0, omega arith, h)
    make more (inr h) = let (k, l, p) = more h in (suc k, omega arith, p)

    take : ((k : ℕ) × (k < length rs) × P (rule_at rs k) → Some P rs) → (k : ℕ) × (k < suc (length rs)) × P (rule_at (r ∷ rs) k) → Some P (r ∷ rs)
    take more (zero, l, p) = inl p
    take more (suc k, l, p) = inr (more (k, le_of_suc-le-suc l, p))

-- the state behind one byte more
after-take : (n : ℕ) (s : List ℕ) (q : State) (b : ℕ) (u : List ℕ) → drop n s ≡ b ∷ u
    → (after q (take (suc n) s) ≡ step b (after q (take n s))) × (suc n ≤ length s)
after-take zero [] q b u e = absurd (nil≢cons e)
after-take zero (x ∷ s) q b u e = (ap (λ (y : ℕ). step y q) (head-eq_of_cons-eq e), suc-le-suc zero-le)
after-take (suc n) [] q b u e = absurd (nil≢cons e)
after-take (suc n) (x ∷ s) q b u e = let (p, l) = after-take n s (step x q) b u e in (p, suc-le-suc l)

module _ (rs : List Rule) (ok : Sound rs) where
  abbrev Q : List ℕ → State
  Q w = after (start rs) w

  sound-at : (w : List ℕ) → is_sound rs (Q w) ≡ true
  sound-at w = (always ok.limit (is_sound rs) (start rs) ok.states w).1

  pub low-at : (b : ℕ) (w : List ℕ) → step (low b) (Q w) ≡ step b (Q w)
  low-at b w = low_step b (Q w) (always ok.limit (is_sound rs) (start rs) ok.states w).0

  -- no text has the forms of two rules
  pub disjoint : (w : List ℕ) (j k : ℕ) → Met j (Q w) → Met k (Q w) → j ≡ k
  disjoint w j k g h =
      once-eq (met (Q w)) (and_left (once (met (Q w))) (below 129 (λ b. leads_on rs b (Q w))) (sound-at w)) j k g h

  -- where a rule is met, and no rule is behind the next byte, that byte may follow
  may-follow : (w : List ℕ) (k b : ℕ) → k < length rs → Met k (Q w) → met (step b (Q w)) ≡ [] → holds (rule_at rs k).next b ≡ true
  may-follow w k b l h n =
      let t = below_at (λ b. leads_on rs b (Q w)) 129 (and_right (once (met (Q w))) (below 129 (λ b. leads_on rs b (Q w))) (sound-at w)) (low b) (low_small b) in
      let (j, d, f) = some-every (λ k. holds (rule_at rs k).next (low b) || some? (met (step (low b) (Q w)))) (λ j. j ≡ k) (met (Q w)) t h in
      let e = subst (λ (k : ℕ). holds (rule_at rs k).next (low b) || some? (met (step (low b) (Q w))) ≡ true) d f in
      let p = every-at (λ r. plain_set r.next) rs (rule_at [] 0) k l ok.next in
      ⊎_elim
      (λ g. sym (low-set b (rule_at rs k).next p) ∙ g)
      (λ g. absurd (some-not-nil (met (step b (Q w))) (subst (λ (q : State). some? (met q) ≡ true) (low-at b w) g) n))
      ((or-iff (holds (rule_at rs k).next (low b)) (some? (met (step (low b) (Q w))))).0 e)

  -- the rule is of class c and w has its form
  abbrev Fits : Class → List ℕ → (Rule → Type 0) → Rule → Type 0
  Fits c w P r = (r.class ≡ c) × Has r.form w × P r

  -- a rule of class c is met behind w
  abbrev pub Meets : Class → List ℕ → (Rule → Type 0) → Type 0
  Meets c w P = (k : ℕ) × (k < length rs) × ((rule_at rs k).class ≡ c) × Met k (Q w) × P (rule_at rs k)

  -- standing in a class is meeting one of its rules, with what follows as that rule says, or with nothing said of it
  stands-meets : (c : Class) (w : List ℕ) (P : Rule → Type 0) → Some (Fits c w P) rs ↔ Meets c w P
  stands-meets c w P = (make, take)
    where
      make : Some (Fits c w P) rs → Meets c w P
      make h = let (k, l, r) = (some_at (Fits c w P) rs).0 h in (k, l, r.0, (met-rule rs w k).1 (l, r.1), r.2)

      take : Meets c w P → Some (Fits c w P) rs
      take (k, l, e, m, p) = (some_at (Fits c w P) rs).1 (k, l, (e, ((met-rule rs w k).0 m).1, p))

  abbrev Anything : Rule → Type 0
  Anything r = Unit {0}

  pub anywhere-meets : (c : Class) (s : List ℕ) (n : ℕ) → Stands (anywhere rs) c s n ↔ ((n ≤ length s) × Meets c (take n s) Anything)
  anywhere-meets c s n = (
    λ h. (h.0, (stands-meets c (take n s) Anything).0 (drop-next rs h.1)),
    λ h. (h.0, add-next rs ((stands-meets c (take n s) Anything).1 h.1)),
  )
    where
      drop-next : (l : List Rule) → Some (Fits c (take n s) (λ r. Follows r.next (drop n s))) (anywhere l)
          → Some (Fits c (take n s) Anything) l
      drop-next [] h = h
      drop-next (r ∷ l) (inl h) = inl (h.0, h.1, tt)
      drop-next (r ∷ l) (inr h) = inr (drop-next l h)

      add-next : (l : List Rule) → Some (Fits c (take n s) Anything) l
          → Some (Fits c (take n s) (λ r. Follows r.next (drop n s))) (anywhere l)
      add-next [] h = h
      add-next (r ∷ l) (inl h) = inl (h.0, h.1, any-follows (drop n s))
      add-next (r ∷ l) (inr h) = inr (add-next l h)

  pub stands-anywhere : (c : Class) (s : List ℕ) (n : ℕ) → Stands rs c s n → Stands (anywhere rs) c s n
  stands-anywhere c s n (l, h) =
      let (k, i, e, m, f) = (stands-meets c (take n s) (λ r. Follows r.next (drop n s))).0 h in
      (anywhere-meets c s n).1 (l, (k, i, e, m, tt))

  -- no text is of two classes, whatever follows it
  pub classes-apart : (s : List ℕ) (n : ℕ) (c d : Class) → Stands (anywhere rs) c s n → Stands (anywhere rs) d s n → c ≡ d
  classes-apart s n c d x y =
      let (l, (j, i, e, g, u)) = (anywhere-meets c s n).0 x in
      let (m, (k, o, f, h, v)) = (anywhere-meets d s n).0 y in
      sym e ∙ ap (λ (i : ℕ). (rule_at rs i).class) (disjoint (take n s) j k g h) ∙ f

  module _ (s : List ℕ) (n k : ℕ) (h : Right (start rs) s (found n k)) where
    abbrev class : Class
    class = (rule_at rs k).class

    inside : k < length rs
    inside = ((met-rule rs (take n s) k).0 h.1).0

    -- none longer, none other, even with nothing said of what follows
    none-longer : (d : Class) (m : ℕ) → Stands (anywhere rs) d s m → m ≤ n
    none-longer d m t =
        let (l, (j, i, e, g, u)) = (anywhere-meets d s m).0 t in
        split (leb m n)
        (λ e. leb-true m n e)
        (λ e. absurd (subst (Some (λ i. i ≡ j)) (h.2 m l (leb-false m n e)) g))

    none_other : (d : Class) → Stands (anywhere rs) d s n → d ≡ class
    none_other d t = classes-apart s n d class t ((anywhere-meets class s n).1 (h.0, (k, inside, refl, h.1, tt)))

    follows : (t : List ℕ) → drop n s ≡ t → Follows (rule_at rs k).next t
    follows [] e = tt
    follows (b ∷ t) e =
        let (p, l) = after-take n s (start rs) b t e in
        may-follow (take n s) k b inside h.1 (subst (λ (q : State). met q ≡ []) p (h.2 (suc n) l (omega arith)))

    stands : Stands rs class s n
    stands = (h.0, (stands-meets class (take n s) (λ r. Follows r.next (drop n s))).1 (k, inside, refl, h.1, follows (drop n s) refl))

    found-longest : Longest rs s class n
    found-longest = record {
      stands = stands;
      longest = λ d m t. none-longer d m (stands-anywhere d s m t);
      alone = λ d t. none_other d (stands-anywhere d s n t);
    }

    found-anywhere : Longest (anywhere rs) s class n
    found-anywhere = record { stands = stands-anywhere class s n stands; longest = none-longer; alone = none_other }

  unmet-stands : (s : List ℕ) → Right (start rs) s nothing → (c : Class) (n : ℕ) → Stands (anywhere rs) c s n → ⊥
  unmet-stands s u c n t =
      let (l, (k, i, e, m, o)) = (anywhere-meets c s n).0 t in
      subst (Some (λ i. i ≡ k)) (u n l) m

  unmet-empty : (s : List ℕ) → Right (start rs) s nothing → s ≡ []
  unmet-empty [] u = refl
  unmet-empty (b ∷ s) u =
      let t = below_at (λ b. some? (met (step b (start rs)))) 129 ok.bytes (low b) (low_small b) in
      absurd (some-not-nil (met (step b (start rs))) (subst (λ (q : State). some? (met q) ≡ true) (low-at b []) t) (u 1 (suc-le-suc zero-le)))

  pub lexeme-given : (s : List ℕ) (at : ℕ) → 0 < length s → Lexeme rs s at (given rs s at (scan (start rs) s))
  lexeme-given s at p = go (scan (start rs) s) (scan-right s (start rs))
    where
      go : (f : Found) → Right (start rs) s f → Lexeme rs s at (given rs s at f)
      go nothing u = let e = ap length (unmet-empty s u) in absurd (omega arith)
      go (found n k) h = ((rule_at rs k).class, n, found-longest s n k h, refl)

  -- what the model finds is the longest lexeme, and the longest lexeme is found
  pub scan-longest : (s : List ℕ) (n k : ℕ) → scan (start rs) s ≡ found n k → Longest rs s (rule_at rs k).class n
  scan-longest s n k e = found-longest s n k (subst (Right (start rs) s) e (scan-right s (start rs)))

  pub longest-scan : (s : List ℕ) (c : Class) (n : ℕ) → Longest rs s c n → (k : ℕ) × (scan (start rs) s ≡ found n k) × ((rule_at rs k).class ≡ c)
  longest-scan s c n z = go (scan (start rs) s) refl
    where
      go : (f : Found) → scan (start rs) s ≡ f → (k : ℕ) × (scan (start rs) s ≡ found n k) × ((rule_at rs k).class ≡ c)
      go nothing e = absurd (unmet-stands s (subst (Right (start rs) s) e (scan-right s (start rs))) c n (stands-anywhere c s n z.stands))
      go (found m k) e =
          let (d, f) = longest-unique (scan-longest s m k e) z in
          (k, e ∙ ap (λ (m : ℕ). found m k) f, d)

  -- a lexeme is not empty
  pub positive : (s : List ℕ) (c : Class) (n : ℕ) → Stands rs c s n → 0 < n
  positive s c zero (l, h) =
      let (k, i, e, m, f) = (stands-meets c [] (λ r. Follows r.next s)).0 h in
      absurd (subst (Some (λ i. i ≡ k)) ok.empty m)
  positive s c (suc n) h = suc-le-suc zero-le

  -- the conditions on what follows make no difference to the longest lexeme
  pub look-ahead : (s : List ℕ) (c : Class) (n : ℕ) → Longest rs s c n ↔ Longest (anywhere rs) s c n
  look-ahead s c n = go (scan (start rs) s) (scan-right s (start rs))
    where
      move : {A B : List Rule} (d : Class) (m : ℕ) → Longest A s d m → Longest B s d m → Longest A s c n → Longest B s c n
      move {B = B} d m x y z =
          let (e, f) = longest-unique z x in
          subst (λ (d : Class). Longest B s d n) (sym e) (subst (Longest B s d) (sym f) y)

      go : (f : Found) → Right (start rs) s f → Longest rs s c n ↔ Longest (anywhere rs) s c n
      go nothing u = (λ z. absurd (unmet-stands s u c n (stands-anywhere c s n z.stands)), λ z. absurd (unmet-stands s u c n z.stands))
      go (found m k) h = (
        move (rule_at rs k).class m (found-longest s m k h) (found-anywhere s m k h),
        move (rule_at rs k).class m (found-anywhere s m k h) (found-longest s m k h),
      )

  -- a lexeme does not shrink when bytes are added
  pub grows : (s t : List ℕ) (c d : Class) (n m : ℕ) → Longest rs s c n → Longest rs (s ++ t) d m → n ≤ m
  grows s t c d n m x y =
      let (l, (k, i, e, g, u)) = (anywhere-meets c s n).0 (stands-anywhere c s n x.stands) in
      let p = take-append-le n s t l in
      let q : n ≤ length (s ++ t) = rw (length-append s t) (omega arith) in
      ((look-ahead (s ++ t) d m).0 y).longest c n ((anywhere-meets c (s ++ t) n).1 (q, (k, i, e, subst (λ (w : List ℕ). Met k (Q w)) (sym p) g, tt)))

  -- what the model computes is what Next gives
  pub next-gives : (s : List ℕ) (at : ℕ) → Gives rs s at (next rs s at)
  next-gives s at =
      split (ltb (length s) at)
      (λ e. rw e (inl (ltb-true (length s) at e, refl)))
      (λ e. split (eqb at (length s))
      (λ d. rw (e, d) (inr (inl (eqb-true at (length s) d, refl))))
      (λ d.
      let l = ltb-false (length s) at e in
      let n = eqb-false at (length s) d in
      let h : at < length s = omega arith in
      rw (e, d) (inr (inr (h, lexeme-given (drop at s) at (rw (length-drop at s) (omega arith)))))))
