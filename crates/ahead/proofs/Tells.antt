-- What the bytes behind a state tell of those still to come. Assumes nothing.
use Prim.Native.Nat.{ℕ, zero, suc, ◌+◌}
use native.Mathlib.Omega.{arith}
use mathlib.Core.Path.{◌≡◌, refl, sym, ◌∙◌, ap, subst}
use mathlib.Core.Bool.{Bool, true, false, ◌||◌, true≢false}
use mathlib.Core.List.{List, [], ◌∷◌, ◌++◌, nil≢cons, cons≢nil, head-eq_of_cons-eq, tail-eq_of_cons-eq}
use mathlib.Core.Logic.{◌⊎◌, inl, inr, ⊎_elim}
use lib.ListN.{length, take}
use borrow.Author.Tests.{lt-ltb}
use Rattle.keywords.proofs.Logic.{every}
use Rattle.grammar.proofs.Equivalences.{or-iff}
use Rattle.grammar.proofs.States.{State, step, after, met}
use Rattle.grammar.proofs.Model.{Found, nothing, found, here, onward, scan}
use Rattle.grammar.proofs.High.{plain, low, low_step, low_small}
use Rattle.grammar.proofs.Reach.{below, below_at}
use Rattle.grammar.proofs.Scan.{meets, dead, is_found, scan-found}

-- behind one text and then another
pub after-append : (u w : List ℕ) (q : State) → after q (u ++ w) ≡ after (after q u) w
after-append [] w q = refl
after-append (b ∷ u) w q = after-append u w (step b q)

abbrev ended : State → Bool
ended [] = true
ended (x ∷ q) = false

-- If no rule is met behind any of the next n bytes, none will be behind more.
abbrev pub tells : ℕ → State → Bool
tells zero q = below 129 (λ b. ended (step b q))
tells (suc n) q = below 129 (λ b. let on = step b q in ended on || meets on || tells n on)

-- the same of every byte
abbrev pub Tells : ℕ → State → Type 0
Tells zero q = (b : ℕ) → step b q ≡ []
Tells (suc n) q = (b : ℕ) → (step b q ≡ []) ⊎ (meets (step b q) ≡ true) ⊎ Tells n (step b q)

ended-nil : (q : State) → ended q ≡ true → q ≡ []
ended-nil [] e = refl
ended-nil (x ∷ q) e = absurd (true≢false (sym e))

-- from a state out of which no text leads to one that names a byte above 7F
all_told : (n : ℕ) (q : State) → ((w : List ℕ) → every plain (after q w) ≡ true) → tells n q ≡ true → Tells n q
all_told zero q h e = λ b.
    let t = below_at (λ b. ended (step b q)) 129 e (low b) (low_small b) in
    sym (low_step b q (h [])) ∙ ended-nil (step (low b) q) t
all_told (suc n) q h e = λ b.
    let r = step b q in
    let t = below_at (λ b. ended (step b q) || meets (step b q) || tells n (step b q)) 129 e (low b) (low_small b) in
    let u = subst (λ (r : State). ended r || meets r || tells n r ≡ true) (low_step b q (h [])) t in
    ⊎_elim
    (λ x. ⊎_elim (λ y. inl (ended-nil r y)) (λ y. inr (inl y)) ((or-iff (ended r) (meets r)).0 x))
    (λ x. inr (inr (all_told n r (λ w. h (b ∷ w)) x)))
    ((or-iff (ended r || meets r) (tells n r)).0 u)

-- the same behind a text
pub told-behind : (n : ℕ) (q : State) (u : List ℕ) → ((w : List ℕ) → every plain (after q w) ≡ true) → tells n (after q u) ≡ true → Tells n (after q u)
told-behind n q u h = all_told n (after q u) (λ w. subst (λ (r : State). every plain r ≡ true) (after-append u w q) (h (u ++ w)))

-- nothing is found beyond the place itself
not-onward : (f : Found) (l : List ℕ) → onward f l ≡ here l → f ≡ nothing
not-onward nothing l e = refl
not-onward (found m k) [] e = let z : ◌≡◌ {A = Bool} true false = cc in absurd (true≢false z)
not-onward (found m k) (j ∷ l) e = let z : suc m ≡ 0 = cc in absurd (omega arith)

unmet : (q : State) (s : List ℕ) → scan q s ≡ nothing → here (met q) ≡ nothing
unmet q s e = go (met q) refl
  where
    go : (l : List ℕ) → met q ≡ l → here l ≡ nothing
    go [] d = refl
    go (k ∷ l) d = absurd (true≢false (sym (scan-found q s (rw d (lt-ltb 0 (suc (length l)) (omega arith)))) ∙ ap is_found e))

-- Where nothing is found beyond the place itself in one text, nothing is in another that begins with the same bytes, if these tell it.
pub still-here : (n : ℕ) (q : State) → Tells n q → (s t : List ℕ) → take n s ≡ take n t → scan q s ≡ here (met q) → scan q t ≡ here (met q)
still-here zero q h s [] e f = refl
still-here zero q h s (b ∷ t) e f = rw (h b, dead t)
still-here (suc n) q h [] [] e f = refl
still-here (suc n) q h [] (c ∷ t) e f = absurd (nil≢cons e)
still-here (suc n) q h (b ∷ s) [] e f = refl
still-here (suc n) q h (b ∷ s) (c ∷ t) e f =
    let none = subst (λ (c : ℕ). scan (step c q) s ≡ nothing) (head-eq_of_cons-eq e) (not-onward (scan (step b q) s) (met q) f) in
    let first = unmet (step c q) s none in
    ap (λ (f : Found). onward f (met q))
    (⊎_elim
    (λ i. ap (λ (r : State). scan r t) i ∙ dead t)
    (⊎_elim
    (λ i. absurd (true≢false (sym (scan-found (step c q) s i) ∙ ap is_found none)))
    (λ i. still-here n (step c q) i s t (tail-eq_of_cons-eq e) (none ∙ sym first) ∙ first))
    (h c))

here_found : (q : State) (s : List ℕ) (k : ℕ) → scan q s ≡ found 0 k → scan q s ≡ here (met q)
here_found q [] k e = refl
here_found q (b ∷ s) k e = go (scan (step b q) s) e
  where
    go : (f : Found) → onward f (met q) ≡ found 0 k → onward f (met q) ≡ here (met q)
    go nothing e = refl
    go (found m j) e = let z : suc m ≡ 0 = cc in absurd (omega arith)

later : (f : Found) (l : List ℕ) (m k : ℕ) → onward f l ≡ found (suc m) k → f ≡ found m k
later nothing [] m k e = let z : ◌≡◌ {A = Bool} true false = cc in absurd (true≢false z)
later nothing (j ∷ l) m k e = let z : 0 ≡ suc m = cc in absurd (omega arith)
later (found i j) l m k e = cc

-- What is found in one text is found in another that begins with the same bytes, as many more of them as tell it.
pub same-found : (m n : ℕ) (s t : List ℕ) (q : State) (k : ℕ) → Tells n (after q (take m s)) → take (m + n) s ≡ take (m + n) t
    → scan q s ≡ found m k → scan q t ≡ found m k
same-found zero n s t q k h e f =
    let i = here_found q s k f in
    let j : zero + n ≡ n = omega arith in
    still-here n q h s t (subst (λ (j : ℕ). take j s ≡ take j t) j e) i ∙ sym i ∙ f
same-found (suc m) n [] t q k h e f = absurd (none (met q) f)
  where
    none : (l : List ℕ) → here l ≡ found (suc m) k → ⊥
    none [] e = let z : ◌≡◌ {A = Bool} true false = cc in true≢false z
    none (j ∷ l) e = let z : 0 ≡ suc m = cc in absurd (omega arith)
same-found (suc m) n (b ∷ s) t q k h e f =
    let j : suc m + n ≡ suc (m + n) = omega arith in
    go (λ t d. same-found m n s t (step b q) k h d (later (scan (step b q) s) (met q) m k f)) t (subst (λ (j : ℕ). take j (b ∷ s) ≡ take j t) j e)
  where
    go : ((t : List ℕ) → take (m + n) s ≡ take (m + n) t → scan (step b q) t ≡ found m k) → (t : List ℕ) → take (suc (m + n)) (b ∷ s) ≡ take (suc (m + n)) t → scan q t ≡ found (suc m) k
    go more [] e = absurd (cons≢nil e)
    go more (c ∷ t) e = ap (λ (f : Found). onward f (met q)) (subst (λ (c : ℕ). scan (step c q) t ≡ found m k) (head-eq_of_cons-eq e) (more t (tail-eq_of_cons-eq e)))
