-- The places that texts lead to, found by computing; what holds at all of them holds behind every text. Each place is followed once: that
-- its steps lead to places of the list is no second test, but what following it leaves behind. What a place is, is left open: a state of
-- some rules, or a state and what goes along with it. Assumes nothing.
use Prim.Native.Nat.{ℕ, zero, suc, ◌<◌}
use native.Mathlib.Nat.{not-suc-le-zero}
use native.Mathlib.Omega.{arith}
use mathlib.Core.Path.{◌≡◌, refl, sym, subst}
use mathlib.Core.Bool.{Bool, true, false, cond, ◌&&◌, true≢false}
use mathlib.Core.List.{List, [], ◌∷◌}
use mathlib.Core.Logic.{◌⊎◌, inl, inr}
use lib.Dec.{eqb}
use borrow.Author.Tests.{eqb-true, eqb-false}
use Rattle.keywords.proofs.Logic.{split, and_left, and_right}
use Rattle.grammar.specs.Longest.{Some}
use Rattle.grammar.proofs.High.{low, low_small}

-- a place that was seen, with its key
pub record Seen (A : Type 0) : Type 0 where
  pub at : ℕ
  pub place : A

-- the place behind a text, by where each byte leads
abbrev pub goes : {A : Type 0} → (ℕ → A → A) → A → List ℕ → A
goes go q [] = q
goes go q (b ∷ w) = goes go (go b q) w

-- where a byte leads from a place, the place's key, and whether two are the same
module _ {A : Type 0} (go : ℕ → A → A) (key : A → ℕ) (same : A → A → Bool) where
  -- the place is among them
  abbrev is_among : ℕ → A → List (Seen A) → Bool
  is_among k q [] = false
  is_among k q (x ∷ l) =
      let more = is_among k q l in
      let here = same x.place q in
      cond (eqb x.at k) here more

  -- Some places were followed, others are still to be. One more of these, unless it is there.
  abbrev add : A → List (Seen A) → List (Seen A) → List (Seen A)
  add q followed rest =
      let k = key q in
      let more : List (Seen A) = record { at = k; place = q } ∷ rest in
      let unless = cond (is_among k q rest) rest more in
      cond (is_among k q followed) rest unless

  -- The places behind a place and the n lowest bytes. Neighbours among the bytes mostly lead to the same place: one that is the last that
  -- was seen, in the beginning the place itself, is not looked for.
  abbrev add_steps : ℕ → A → A → List (Seen A) → List (Seen A) → List (Seen A)
  add_steps zero q last followed rest = rest
  add_steps (suc b) q last followed rest =
      let next = go b q in
      let skip = add_steps b q last followed rest in
      let more = add_steps b q next followed (add next followed rest) in
      cond (same last next) skip more

  -- The test passes at each place that is still to be followed, and at each that they lead to; following n of them finds them all. (129:
  -- the bytes to 7F, and 80, which stands for those above.)
  abbrev follow : (A → Bool) → ℕ → List (Seen A) → List (Seen A) → Bool
  follow p zero followed rest = false
  follow p (suc n) followed [] = true
  follow p (suc n) followed (x ∷ rest) =
      let q = x.place in
      let onward = follow p n (x ∷ followed) (add_steps 129 q q (x ∷ followed) rest) in
      p q && onward

  -- the test passes at each place that can be reached from q, and following n of them finds them all
  abbrev pub finds : ℕ → (A → Bool) → A → Bool
  finds n p q = follow p n [] (record { at = key q; place = q } ∷ [])

  abbrev Known : List (Seen A) → A → Type 0
  Known l q = Some (λ x. x.place ≡ q) l

  -- the place was followed or is still to be
  abbrev Either : List (Seen A) → List (Seen A) → A → Type 0
  Either followed rest q = Known followed q ⊎ Known rest q

  -- places that are the same are equal
  module _ (same-eq : (x y : A) → same x y ≡ true → x ≡ y) where
    among-known : (k : ℕ) (q : A) (l : List (Seen A)) → is_among k q l ≡ true → Known l q
    among-known k q [] = λ e. true≢false (sym e)
    among-known k q (x ∷ l) =
        split (eqb x.at k)
        (λ e. rw e (λ h. inl (same-eq x.place q h)))
        (λ e. rw e (λ h. inr (among-known k q l h)))

    -- nothing is lost, and what is added is there
    add-keeps : (q : A) (followed rest : List (Seen A)) (r : A) → Known rest r → Known (add q followed rest) r
    add-keeps q followed rest r h =
        split (is_among (key q) q followed)
        (λ e. rw e h)
        (λ e. split (is_among (key q) q rest) (λ f. rw (e, f) h) (λ f. rw (e, f) (inr h)))

    add-has : (q : A) (followed rest : List (Seen A)) → Either followed (add q followed rest) q
    add-has q followed rest =
        split (is_among (key q) q followed)
        (λ e. let h = e in rw e (inl (among-known (key q) q followed h)))
        (λ e. split (is_among (key q) q rest)
        (λ f. let h = f in rw (e, f) (inr (among-known (key q) q rest h)))
        (λ f. rw (e, f) (inr (inl refl))))

    steps-keep : (n : ℕ) (q last : A) (followed rest : List (Seen A)) (r : A) → Known rest r → Known (add_steps n q last followed rest) r
    steps-keep zero q last followed rest r h = h
    steps-keep (suc b) q last followed rest r h =
        split (same last (go b q))
        (λ e. rw e (steps-keep b q last followed rest r h))
        (λ e. rw e (steps-keep b q (go b q) followed (add (go b q) followed rest) r (add-keeps (go b q) followed rest r h)))

    either-keep : (n : ℕ) (q last : A) (followed rest : List (Seen A)) (r : A) → Either followed rest r → Either followed (add_steps n q last followed rest) r
    either-keep n q last followed rest r (inl h) = inl h
    either-keep n q last followed rest r (inr h) = inr (steps-keep n q last followed rest r h)

    steps-have : (n : ℕ) (q last : A) (followed rest : List (Seen A)) → Either followed rest last
        → (b : ℕ) → b < n → Either followed (add_steps n q last followed rest) (go b q)
    steps-have zero q last followed rest k b h = absurd (not-suc-le-zero h)
    steps-have (suc n) q last followed rest k b h =
        split (same last next)
        (λ e. let d = same-eq last next e in rw e (step-has last rest (subst (Either followed rest) d k) (steps-have n q last followed rest k b)))
        (λ e. rw e (step-has next more (add-has next followed rest) (steps-have n q next followed more (add-has next followed rest) b)))
      where
        next : A
        next = go n q

        more : List (Seen A)
        more = add next followed rest

        step-has : (to : A) (rest : List (Seen A)) → Either followed rest next → (b < n → Either followed (add_steps n q to followed rest) (go b q))
            → Either followed (add_steps n q to followed rest) (go b q)
        step-has to rest now earlier =
            split (eqb b n)
            (λ d. subst (λ (i : ℕ). Either followed (add_steps n q to followed rest) (go i q)) (sym (eqb-true b n d)) (either-keep n q to followed rest next now))
            (λ d. let o = eqb-false b n d in earlier (omega arith))

    module _ (p : A → Bool) where
      -- the test passes, and each of the lowest bytes leads to a place that is in one of the lists
      abbrev Fine : (A → Type 0) → A → Type 0
      Fine Into q = (p q ≡ true) × ((b : ℕ) → b < 129 → Into (go b q))

      -- places from which no text leads away
      record Closed (q : A) : Type 0 where
        all : List (Seen A)
        within : Known all q
        fine : (r : A) → Known all r → Fine (Known all) r

      follow-closed : (n : ℕ) (followed rest : List (Seen A)) → ((r : A) → Known followed r → Fine (Either followed rest) r)
          → follow p n followed rest ≡ true → (q : A) → Either followed rest q → Closed q
      follow-closed zero followed rest inv e q h = absurd (true≢false (sym e))
      follow-closed (suc n) followed [] inv e q h =
          record { all = followed; within = only q h; fine = λ r k. let (a, c) = inv r k in (a, λ i l. only (go i r) (c i l)) }
        where
          only : (r : A) → Either followed [] r → Known followed r
          only r (inl k) = k
          only r (inr k) = absurd k
      follow-closed (suc n) followed (x ∷ rest) inv e q h = follow-closed n (x ∷ followed) later onward good q (keep q h)
        where
          now : A
          now = x.place

          later : List (Seen A)
          later = add_steps 129 now now (x ∷ followed) rest

          -- what was there is still there
          keep : (r : A) → Either followed (x ∷ rest) r → Either (x ∷ followed) later r
          keep r (inl k) = inl (inr k)
          keep r (inr (inl k)) = inl (inl k)
          keep r (inr (inr k)) = inr (steps-keep 129 now now (x ∷ followed) rest r k)

          good : follow p n (x ∷ followed) later ≡ true
          good = and_right (p now) (follow p n (x ∷ followed) later) e

          onward : (r : A) → Known (x ∷ followed) r → Fine (Either (x ∷ followed) later) r
          onward r (inl k) =
              subst (Fine (Either (x ∷ followed) later)) k (and_left (p now) (follow p n (x ∷ followed) later) e, steps-have 129 now now (x ∷ followed) rest (inl (inl refl)))
          onward r (inr k) = let (a, c) = inv r k in (a, λ i l. keep (go i r) (c i l))

      -- where the test passes the lowest bytes stand for all
      module _ (low-go : (b : ℕ) (q : A) → p q ≡ true → go (low b) q ≡ go b q) where
        -- no text leads out of them
        stays : {q : A} (c : Closed q) (w : List ℕ) (r : A) → Known c.all r → Known c.all (goes go r w)
        stays c [] r h = h
        stays c (b ∷ w) r h =
            let (passed, into) = c.fine r h in
            stays c w (go b r) (subst (Known c.all) (low-go b r passed) (into (low b) (low_small b)))

        -- behind every text the test passes
        pub found-always : (n : ℕ) (q : A) → finds n p q ≡ true → (w : List ℕ) → p (goes go q w) ≡ true
        found-always n q e w =
            let c = follow-closed n [] (record { at = key q; place = q } ∷ []) (λ s k. absurd k) e q (inr (inl refl)) in
            (c.fine (goes go q w) (stays c w q c.within)).0
