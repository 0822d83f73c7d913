-- What a text begins with, and the places that a cursor comes to. Assumes nothing.
use Prim.Native.Nat.{ℕ, ◌+◌, ◌-◌, ◌≤◌, ◌<◌}
use native.Mathlib.Omega.{arith}
use native.Mathlib.Nat.{add-zero}
use native.Mathlib.Numerals.{add-one}
use borrow.Author.Tests.{ltb-true, ltb-false}
use mathlib.Core.Path.{◌≡◌, refl, sym, ◌∙◌, ap}
use mathlib.Core.Bool.{Bool, true, false, not, ◌&&◌, ◌||◌, true≢false}
use mathlib.Core.List.{List, [], ◌∷◌}
use lib.Dec.{ltb}
use lib.ListN.{length, drop, get_or, drop_of_length-le}
use lib.Seq.{drop-cons, drop-drop}
use Rattle.keywords.proofs.Logic.{split, and_left, and_right}
use Rattle.grammar.specs.Form.{Set, none, any, no, ◌or◌, ◌except◌, holds}
use Rattle.grammar.specs.Runs.{char, sees, run_length, moved, optional, over, sees_pair}
use Rattle.grammar.proofs.High.{plain_set, low, low-set, low_small}
use Rattle.grammar.proofs.Reach.{below, below_at}

pub implied : (a b : Bool) → not a || b ≡ true → a ≡ true → b ≡ true
implied true b e h = e
implied false b e h = absurd (true≢false (sym h))

-- a byte that is seen stands in the text, with the rest behind it
pub seen-in : (t : Set) (s : List ℕ) (at : ℕ) → sees t (drop at s) ≡ true → at < length s
unfolding sees
seen-in t s at e =
    split (ltb at (length s))
    (λ l. ltb-true at (length s) l)
    (λ l. absurd (true≢false (sym e ∙ ap (sees t) (drop_of_length-le s (ltb-false at (length s) l)))))

pub seen-cons : (t : Set) (s : List ℕ) (at : ℕ) → sees t (drop at s) ≡ true → drop at s ≡ get_or s at 0 ∷ drop (at + 1) s
seen-cons t s at e = rw add-one (drop-cons s at 0 (seen-in t s at e))

pub seen-holds : (t : Set) (s : List ℕ) (at : ℕ) → sees t (drop at s) ≡ true → holds t (get_or s at 0) ≡ true
unfolding sees
seen-holds t s at e = sym (ap (sees t) (seen-cons t s at e)) ∙ e

-- both bytes of a pair
pub pair-seen : (s : List ℕ) (at : ℕ) → sees_pair (drop at s) ≡ true → (sees (char ":") (drop at s) ≡ true) × (sees (char ":") (drop (at + 1) s) ≡ true)
unfolding sees_pair
pair-seen s at h =
    let a = sees (char ":") (drop at s) in
    let b = sees (char ":") (drop 1 (drop at s)) in
    (and_left a b h, rw (← drop-drop 1 at s) (and_right a b h))

run-stops : (t : Set) (l : List ℕ) → sees t (drop (run_length t l) l) ≡ false
unfolding sees run_length
run-stops t [] = refl
run-stops t (b ∷ l) = split (holds t b) (λ e. rw e (run-stops t l)) (λ e. let h = e in rw e h)

-- the places that a cursor comes to
pub moved-one : (t : Set) (s : List ℕ) (at : ℕ) → sees t (drop at s) ≡ true → moved at s ≡ at + 1
unfolding moved
moved-one t s at e = rw (seen-cons t s at e)

pub moved_up : (s : List ℕ) (at d : ℕ) → d ≡ moved at s → at ≤ d
unfolding moved
moved_up s at d e = omega arith

pub moved_twice : (s : List ℕ) (at d e : ℕ) → d ≡ moved at s → e ≡ moved d s → at ≤ e
moved_twice s at d e f g = omega (arith, moved_up s at d f, moved_up s d e g)

pub moved-end : (s : List ℕ) (at : ℕ) → drop at s ≡ [] → moved at s ≡ at
unfolding moved
moved-end s at e = rw (e, add-zero)

pub optional-one : (t : Set) (s : List ℕ) (at : ℕ) → sees t (drop at s) ≡ true → optional t at s ≡ at + 1
unfolding optional
optional-one t s at e = rw e

pub optional-none : (t : Set) (s : List ℕ) (at : ℕ) → sees t (drop at s) ≡ false → optional t at s ≡ at
unfolding optional
optional-none t s at e = rw e

pub optional-up : (t : Set) (s : List ℕ) (at d : ℕ) → d ≡ optional t at s → at ≤ d
unfolding optional
optional-up t s at d = split (sees t (drop at s)) (λ e. rw e (λ f. omega arith)) (λ e. rw e (λ f. omega arith))

pub over-stops : (t : Set) (s : List ℕ) (at d : ℕ) → d ≡ over t at s → sees t (drop d s) ≡ false
unfolding over
over-stops t s at d e = rw (e, ← drop-drop (run_length t (drop at s)) at s) (run-stops t (drop at s))

pub over-on : (t : Set) (s : List ℕ) (at d : ℕ) → d ≡ over t at s → at ≤ d
unfolding over
over-on t s at d e = omega arith

pub moved-over : (t : Set) (s : List ℕ) (at d e : ℕ) → d ≡ moved at s → e ≡ over t d s → at ≤ e
moved-over t s at d e f g = omega (arith, moved_up s at d f, over-on t s d e g)

-- Every byte of t is one of u.
abbrev pub inside : Set → Set → Bool
inside t u = plain_set t && plain_set u && below 129 (λ b. not (holds t b) || holds u b)

pub inside-holds : (t u : Set) → inside t u ≡ true → (b : ℕ) → holds t b ≡ true → holds u b ≡ true
inside-holds t u g b h =
    let p = and_left (plain_set t && plain_set u) (below 129 (λ b. not (holds t b) || holds u b)) g in
    let l = below_at (λ b. not (holds t b) || holds u b) 129 (and_right (plain_set t && plain_set u) _ g) (low b) (low_small b) in
    sym (low-set b u (and_right (plain_set t) (plain_set u) p))
    ∙ implied (holds t (low b)) (holds u (low b)) l (low-set b t (and_left (plain_set t) (plain_set u) p) ∙ h)

pub inside-sees : (t u : Set) → inside t u ≡ true → (l : List ℕ) → sees t l ≡ true → sees u l ≡ true
unfolding sees
inside-sees t u g [] e = e
inside-sees t u g (b ∷ l) e = inside-holds t u g b e

pub inside-misses : (t u : Set) → inside t u ≡ true → (l : List ℕ) → sees u l ≡ false → sees t l ≡ false
inside-misses t u g l e = split (sees t l) (λ h. absurd (true≢false (sym (inside-sees t u g l h) ∙ e))) (λ h. h)

pub misses-none : (l : List ℕ) → sees none l ≡ false
unfolding sees
misses-none [] = refl
misses-none (b ∷ l) = refl

pub misses-any : (l : List ℕ) → sees (no any) l ≡ false
unfolding sees
misses-any [] = refl
misses-any (b ∷ l) = refl

pub misses-or : (t u : Set) (l : List ℕ) → sees t l ≡ false → sees u l ≡ false → sees (t or u) l ≡ false
unfolding sees
misses-or t u [] d e = refl
misses-or t u (b ∷ l) d e = rw (d, e)

-- one of two sets
pub or_left : (t u : Set) (l : List ℕ) → sees (t or u) l ≡ false → sees t l ≡ false
unfolding sees
or_left t u [] e = refl
or_left t u (b ∷ l) e = split (holds t b) (λ h. absurd (true≢false (rw h at e))) (λ h. h)

pub or_right : (t u : Set) (l : List ℕ) → sees (t or u) l ≡ false → sees u l ≡ false
unfolding sees
or_right t u [] e = refl
or_right t u (b ∷ l) e = split (holds t b) (λ h. absurd (true≢false (rw h at e))) (λ h. rw h at e)

pub or-other : (t u : Set) (l : List ℕ) → sees (t or u) l ≡ true → sees t l ≡ false → sees u l ≡ true
unfolding sees
or-other t u [] e h = absurd (true≢false (sym e))
or-other t u (b ∷ l) e h = rw h at e

pub except-sees : (t u : Set) (l : List ℕ) → sees t l ≡ true → sees u l ≡ false → sees (t except u) l ≡ true
unfolding sees
except-sees t u [] d e = d
except-sees t u (b ∷ l) d e = rw (d, e)

pub sees-no : (t : Set) (l : List ℕ) → sees t l ≡ true → sees (no t) l ≡ false
unfolding sees
sees-no t [] e = refl
sees-no t (b ∷ l) e = ap not e

pub at-end : (t : Set) (l : List ℕ) → sees t l ≡ false → sees (no t) l ≡ false → l ≡ []
unfolding sees
at-end t [] d e = refl
at-end t (b ∷ l) d e = absurd (true≢false (sym (ap not d) ∙ e))
