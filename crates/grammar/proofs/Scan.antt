-- Scanning from state to state, inside one lexeme: where the bytes of a set lead is found by computing. Assumes nothing.
use Prim.Native.Nat.{ℕ, zero, suc, ◌+◌, ◌-◌, ◌%◌}
use native.Mathlib.Omega.{arith}
use native.Mathlib.Nat.{add-zero}
use borrow.Author.Tests.{not-false}
use mathlib.Core.Path.{◌≡◌, refl, sym, ◌∙◌, ap}
use mathlib.Core.Bool.{Bool, true, false, not, ◌&&◌, ◌||◌, true≢false}
use mathlib.Core.List.{List, [], ◌∷◌, ◌++◌}
use lib.Dec.{ltb}
use lib.ListN.{length, drop}
use Rattle.keywords.proofs.Logic.{split, and_left, and_right, every}
use Rattle.grammar.specs.Form.{Set, no, ◌or◌, holds}
use Rattle.grammar.specs.Runs.{char, sees, run_length, sees_pair}
use Rattle.grammar.proofs.States.{State, step, after, met}
use Rattle.grammar.proofs.Model.{Found, nothing, found, here, onward, scan}
use Rattle.grammar.proofs.High.{plain_set, plain, low, low-set, low_step, low_small}
use Rattle.grammar.proofs.Alike.{alike, alike-eq}
use Rattle.grammar.proofs.Reach.{below, below_at}
use Rattle.grammar.proofs.Seen.{implied}

-- a find, by the place where it ends
abbrev pub ends : ℕ → Found → Found
ends at nothing = nothing
ends at (found n k) = found (at + n) k

-- Each byte of the set leads from q to r.
abbrev pub goes : State → Set → State → Bool
goes q t r = every plain q && plain_set t && below 129 (λ b. let there = alike (step b q) r in not (holds t b) || there)

goes_step : (q : State) (t : Set) (r : State) → goes q t r ≡ true → (b : ℕ) → holds t b ≡ true → step b q ≡ r
goes_step q t r g b h =
    let p = and_left (every plain q && plain_set t) (below 129 (λ b. not (holds t b) || alike (step b q) r)) g in
    let l = below_at (λ b. not (holds t b) || alike (step b q) r) 129 (and_right (every plain q && plain_set t) _ g) (low b) (low_small b) in
    let k = implied (holds t (low b)) (alike (step (low b) q) r) l (low-set b t (and_right (every plain q) (plain_set t) p) ∙ h) in
    sym (low_step b q (and_left (every plain q) (plain_set t) p)) ∙ alike-eq (step (low b) q) r k

-- a rule is met
abbrev pub meets : State → Bool
meets q = ltb 0 (length (met q))

pub dead : (s : List ℕ) → scan [] s ≡ nothing
dead [] = refl
dead (b ∷ s) = rw (dead s)

abbrev pub is_found : Found → Bool
is_found nothing = false
is_found (found n k) = true

here_found : (l : List ℕ) → ltb 0 (length l) ≡ true → is_found (here l) ≡ true
here_found [] e = e
here_found (k ∷ l) e = refl

onward-found : (f : Found) (l : List ℕ) → ltb 0 (length l) ≡ true → is_found (onward f l) ≡ true
onward-found nothing l e = here_found l e
onward-found (found n k) l e = refl

pub scan-found : (q : State) (s : List ℕ) → meets q ≡ true → is_found (scan q s) ≡ true
scan-found q [] e = here_found (met q) e
scan-found q (b ∷ s) e = onward-found (scan (step b q) s) (met q) e

ends-onward : (at : ℕ) (f : Found) (l : List ℕ) → is_found f ≡ true → ends at (onward f l) ≡ ends (at + 1) f
ends-onward at nothing l e = absurd (true≢false (sym e))
ends-onward at (found n k) l e = ap (λ (m : ℕ). found m k) (omega arith)

-- a byte is read
pub ends-step : (q : State) (t : Set) (r : State) → goes q t r ≡ true → meets r ≡ true → (at b : ℕ) (l : List ℕ) → holds t b ≡ true
    → ends at (scan q (b ∷ l)) ≡ ends (at + 1) (scan r l)
ends-step q t r g m at b l h =
    ap (λ (p : State). ends at (onward (scan p l) (met q))) (goes_step q t r g b h) ∙ ends-onward at (scan r l) (met q) (scan-found r l m)

-- the run of a set that leads back to the state
pub ends-run : (q : State) (t : Set) → goes q t q ≡ true → meets q ≡ true → (l : List ℕ) (at : ℕ)
    → ends at (scan q l) ≡ ends (at + run_length t l) (scan q (drop (run_length t l) l))
unfolding run_length
ends-run q t g m [] at = rw add-zero
ends-run q t g m (b ∷ l) at =
    split (holds t b)
    (λ e. let h = e in rw e (ends-step q t q g m at b l h ∙ ends-run q t g m l (at + 1) ∙ ap (λ (n : ℕ). ends n (scan q (drop (run_length t l) l))) (omega arith)))
    (λ e. rw (e, add-zero))

-- two states from which the bytes of a set lead to the same
abbrev pub joins : State → State → Set → Bool
joins q r t = every plain q && every plain r && plain_set t && below 129 (λ b. let same = alike (step b q) (step b r) in not (holds t b) || same)

joins-step : (q r : State) (t : Set) → joins q r t ≡ true → (b : ℕ) → holds t b ≡ true → step b q ≡ step b r
joins-step q r t g b h =
    let a = every plain q && every plain r && plain_set t in
    let test : ℕ → Bool = λ b. not (holds t b) || alike (step b q) (step b r) in
    let p = and_left a (below 129 test) g in
    let l = below_at test 129 (and_right a (below 129 test) g) (low b) (low_small b) in
    let k = implied (holds t (low b)) (alike (step (low b) q) (step (low b) r)) l (low-set b t (and_right (every plain q && every plain r) (plain_set t) p) ∙ h) in
    let e = and_left (every plain q && every plain r) (plain_set t) p in
    sym (low_step b q (and_left (every plain q) (every plain r) e)) ∙ alike-eq (step (low b) q) (step (low b) r) k ∙ low_step b r (and_right (every plain q) (every plain r) e)

no-not : (t : Set) (b : ℕ) → holds (no t) b ≡ false → holds t b ≡ true
no-not t b e = not-false (holds t b) e

pub scan-join : (q r : State) (t : Set) → joins q r t ≡ true → met q ≡ met r → (l : List ℕ) → sees (no t) l ≡ false → scan q l ≡ scan r l
unfolding sees
scan-join q r t g m [] e = ap here m
scan-join q r t g m (b ∷ l) e =
    ap (λ (p : State). onward (scan p l) (met q)) (joins-step q r t g b (no-not t b e)) ∙ ap (onward (scan (step b r) l)) m

-- no byte of the set follows, and every other ends it
pub scan-stop : (q : State) (t : Set) (k : ℕ) → goes q (no t) [] ≡ true → met q ≡ k ∷ [] → (l : List ℕ) → sees t l ≡ false → scan q l ≡ found 0 k
unfolding sees
scan-stop q t k g m [] e = ap here m
scan-stop q t k g m (b ∷ l) e =
    ap (λ (p : State). onward (scan p l) (met q)) (goes_step q (no t) [] g b (ap not e)) ∙ rw (dead l) (ap here m)

-- a run of a set that leads to and fro between two states
abbrev pub alternate : ℕ → State → State → State
alternate zero a b = a
alternate (suc n) a b = alternate n b a

pub ends-alternate : (t : Set) (l : List ℕ) (a b : State) → goes a t b && meets b ≡ true → goes b t a && meets a ≡ true → (at : ℕ)
    → ends at (scan a l) ≡ ends (at + run_length t l) (scan (alternate (run_length t l) a b) (drop (run_length t l) l))
unfolding run_length
ends-alternate t [] a b g h at = rw add-zero
ends-alternate t (c ∷ l) a b g h at =
    split (holds t c)
    (λ e. let i = e in rw e
    (ends-step a t b (and_left (goes a t b) (meets b) g) (and_right (goes a t b) (meets b) g) at c l i ∙ ends-alternate t l b a h g (at + 1)
    ∙ ap (λ (n : ℕ). ends n (scan (alternate (run_length t l) b a) (drop (run_length t l) l))) (omega arith)))
    (λ e. rw (e, add-zero))

pub alternate-even : (a b : State) (n : ℕ) → n % 2 ≡ 0 → alternate n a b ≡ a
alternate-even a b zero e = refl
alternate-even a b (suc zero) e = absurd (omega arith)
alternate-even a b (suc (suc n)) e = alternate-even a b n (omega arith)

pub alternate-odd : (a b : State) (n : ℕ) → (n % 2 ≡ 0 → ⊥) → alternate n a b ≡ b
alternate-odd a b zero e = absurd (e refl)
alternate-odd a b (suc zero) e = refl
alternate-odd a b (suc (suc n)) e = alternate-odd a b n (λ h. e (omega arith))

-- two states from which a byte leads on to the same
pub scan-joined : (q r : State) (t : Set) (p : State) → goes q t p ≡ true → goes r t p ≡ true → meets p ≡ true → (l : List ℕ) → sees t l ≡ true
    → scan q l ≡ scan r l
unfolding sees
scan-joined q r t p g h m [] e = absurd (true≢false (sym e))
scan-joined q r t p g h m (b ∷ l) e =
    ap (λ (x : State). onward (scan x l) (met q)) (goes_step q t p g b e) ∙ onward-same (scan p l) (scan-found p l m)
    ∙ sym (ap (λ (x : State). onward (scan x l) (met r)) (goes_step r t p h b e))
  where
    onward-same : (f : Found) → is_found f ≡ true → onward f (met q) ≡ onward f (met r)
    onward-same nothing e = absurd (true≢false (sym e))
    onward-same (found n k) e = refl

-- A pair leads from q over m to r.
abbrev pub paired : State → State → State → Bool
paired q m r = goes q (char ":") m && goes m (char ":") r && meets r

pub scan-pair : (q m r : State) → paired q m r ≡ true → (b c : ℕ) (l : List ℕ) → holds (char ":") b ≡ true → holds (char ":") c ≡ true
    → scan q (b ∷ c ∷ l) ≡ onward (onward (scan r l) (met m)) (met q)
scan-pair q m r g b c l e f =
    let x = goes q (char ":") m in
    let y = goes m (char ":") r in
    let h = and_left (x && y) (meets r) g in
    ap (λ (p : State). onward (onward (scan (step c p) l) (met p)) (met q)) (goes_step q (char ":") m (and_left x y h) b e)
    ∙ ap (λ (p : State). onward (onward (scan p l) (met m)) (met q)) (goes_step m (char ":") r (and_right x y h) c f)

pub twice : (f : Found) (k l : List ℕ) (at : ℕ) → is_found f ≡ true → ends at (onward (onward f k) l) ≡ ends (at + 2) f
twice nothing k l at e = absurd (true≢false (sym e))
twice (found n j) k l at e = ap (λ (m : ℕ). found m j) (omega arith)

-- no pair follows: then a colon does not count
abbrev pub unpaired : State → State → Set → Bool
unpaired q m t = goes q (no (t or char ":")) [] && goes q (char ":") m && goes m (no (char ":")) []

module _ (q m : State) (t : Set) (k : ℕ) (g : unpaired q m t ≡ true) (n : met m ≡ []) (e : met q ≡ k ∷ []) where
  other : goes q (no (t or char ":")) [] && goes q (char ":") m ≡ true
  other = and_left (goes q (no (t or char ":")) [] && goes q (char ":") m) (goes m (no (char ":")) []) g

  lone : goes m (no (char ":")) [] ≡ true
  lone = and_right (goes q (no (t or char ":")) [] && goes q (char ":") m) (goes m (no (char ":")) []) g

  colon : (l : List ℕ) → sees (char ":") l ≡ false → onward (scan m l) (met q) ≡ found 0 k
  unfolding sees
  colon [] h = rw (n, e)
  colon (c ∷ l) h =
      ap (λ (p : State). onward (onward (scan p l) (met m)) (met q)) (goes_step m (no (char ":")) [] lone c (ap not h)) ∙ rw (dead l, n, e)

  pub scan-no-pair : (l : List ℕ) → sees t l ≡ false → sees_pair l ≡ false → scan q l ≡ found 0 k
  unfolding sees sees_pair
  scan-no-pair [] = λ f h. ap here e
  scan-no-pair (b ∷ l) =
      let x = goes q (no (t or char ":")) [] in
      let y = goes q (char ":") m in
      let on : (r : State) → step b q ≡ r → scan q (b ∷ l) ≡ onward (scan r l) (met q) = λ r d. ap (λ (p : State). onward (scan p l) (met q)) d in
      split (holds (char ":") b)
      (λ c. let d = c in λ f. rw c (λ h. on m (goes_step q (char ":") m (and_right x y other) b d) ∙ colon l h))
      (λ c. let d = c in λ f h. on [] (goes_step q (no (t or char ":")) [] (and_left x y other) b (rw (f, d))) ∙ rw (dead l) (ap here e))

-- A rule is met behind each of the bytes.
abbrev pub along : State → List ℕ → Bool
along q [] = true
along q (b ∷ w) = meets (step b q) && along (step b q) w

pub ends-along : (w : List ℕ) (q : State) → along q w ≡ true → (l : List ℕ) (at : ℕ) → ends at (scan q (w ++ l)) ≡ ends (at + length w) (scan (after q w) l)
ends-along [] q a l at = rw add-zero
ends-along (b ∷ w) q a l at =
    ends-onward at (scan (step b q) (w ++ l)) (met q) (scan-found (step b q) (w ++ l) (and_left (meets (step b q)) (along (step b q) w) a))
    ∙ ends-along w (step b q) (and_right (meets (step b q)) (along (step b q) w) a) l (at + 1)
    ∙ ap (λ (n : ℕ). ends n (scan (after (step b q) w) l)) (omega arith)
