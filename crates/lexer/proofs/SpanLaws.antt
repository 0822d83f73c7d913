-- Where spans begin: the first byte of a set in a lexeme, and the last group of digits. Assumes nothing.
use Prim.Native.Nat.{ℕ, suc, ◌+◌, ◌-◌, ◌≤◌, ◌<◌}
use native.Mathlib.Omega.{arith}
use mathlib.Core.Path.{◌≡◌, refl, sym, ◌∙◌, ap}
use mathlib.Core.Bool.{Bool, true, false, not}
use mathlib.Core.List.{List, [], ◌∷◌, ◌++◌}
use lib.ListN.{length, get_or, take, drop, length-drop}
use lib.Seq.{drop-drop, take-suc, take-take, split_at, get_or-take, get_or-drop, length-take-le}
use borrow.Author.Tests.{not-true, ne_eqb}
use Rattle.keywords.proofs.Logic.{and_left, and_right, every}
use Rattle.grammar.specs.Form.{Set, any, no, holds}
use Rattle.grammar.specs.Answers.{first, after_last, init}
use Rattle.grammar.specs.Runs.{sees, part, moved}
use Rattle.grammar.proofs.Seen.{inside, inside-holds, moved-one, seen-in, seen-holds}
use Rattle.grammar.proofs.Places.{Only, Group}

-- a byte and what is behind it
module _ (s : List ℕ) (i b : ℕ) (l : List ℕ) (e : drop i s ≡ b ∷ l) where
  pub tail : drop (i + 1) s ≡ l
  tail = sym (drop-drop 1 i s) ∙ ap (drop 1) e

  pub seen : (w : Set) → holds w b ≡ true → sees w (drop i s) ≡ true
  unfolding sees
  seen w h = rw e h

  pub missed : (w : Set) → holds w b ≡ false → sees w (drop i s) ≡ false
  unfolding sees
  missed w h = rw e h

-- parts
module _ (s : List ℕ) (from at : ℕ) (o : from ≤ at) where
  part-long : at ≤ length s → length (part s from at) ≡ at - from
  part-long h = length-take-le (at - from) (drop from s) (omega (arith, length-drop from s))

  pub part-snoc : at < length s → part s from (at + 1) ≡ part s from at ++ get_or s at 0 ∷ []
  part-snoc h =
      let n : at + 1 - from ≡ suc (at - from) = omega arith in
      let m : from + (at - from) ≡ at = omega arith in
      rw n (take-suc (drop from s) (at - from) 0 (omega (arith, length-drop from s)) ∙ rw (get_or-drop (from) s (at - from) 0, m))

  part_cut : (e : ℕ) → at < e → e ≤ length s → (v : List ℕ) × (part s from e ≡ part s from at ++ get_or s at 0 ∷ v)
  part_cut e l h =
      let w = part s from e in
      let n : length w ≡ e - from = length-take-le (e - from) (drop from s) (omega (arith, length-drop from s)) in
      let m : from + (at - from) ≡ at = omega arith in
      let a : take (at - from) w ≡ part s from at = take-take (at - from) (e - from) (drop from s) (omega arith) in
      let b : get_or w (at - from) 0 ≡ get_or s at 0 = get_or-take (e - from) (drop from s) (at - from) 0 (omega arith) ∙ get_or-drop from s (at - from) 0 ∙ ap (λ (k : ℕ). get_or s k 0) m in
      (drop (suc (at - from)) w, split_at w (at - from) 0 (omega arith) ∙ rw (a, b))

  pub init-part : (e : ℕ) → e ≡ at + 1 → at < length s → init (part s from e) ≡ part s from at
  init-part e f h =
      let n : length (part s from e) ≡ e - from = length-take-le (e - from) (drop from s) (omega (arith, length-drop from s)) in
      let k : length (part s from e) - 1 ≡ at - from = omega arith in
      rw k (take-take (at - from) (e - from) (drop from s) (omega arith))

  -- the length before a last byte that is seen
  pub init-long : (t : Set) → sees t (drop at s) ≡ true → length (init (part s from (moved at s))) ≡ at - from
  init-long t h =
      let l = seen-in t s at h in
      rw (init-part (moved at s) (moved-one t s at h) l) (part-long (omega arith))

-- bytes that are all of a set
every-snoc : (p : ℕ → Bool) (w : List ℕ) (b : ℕ) → every p w ≡ true → p b ≡ true → every p (w ++ b ∷ []) ≡ true
every-snoc p [] b e h = rw h
every-snoc p (x ∷ w) b e h = rw (and_left (p x) (every p w) e) (every-snoc p w b (and_right (p x) (every p w) e) h)

every-inside : (t u : Set) → inside t u ≡ true → (w : List ℕ) → every (holds t) w ≡ true → every (holds u) w ≡ true
every-inside t u i [] e = refl
every-inside t u i (b ∷ w) e =
    rw (inside-holds t u i b (and_left (holds t b) (every (holds t) w) e)) (every-inside t u i w (and_right (holds t b) (every (holds t) w) e))

module _ (t : Set) (s : List ℕ) (from at : ℕ) (o : from ≤ at) where
  pub only-snoc : (u : Set) → inside u t ≡ true → sees u (drop at s) ≡ true → Only t s from at → Only t s from (at + 1)
  only-snoc u i h e =
      rw (part-snoc s from at o (seen-in u s at h)) (every-snoc (holds t) (part s from at) (get_or s at 0) e (inside-holds u t i (get_or s at 0) (seen-holds u s at h)))

  pub only-inside : (u : Set) → inside t u ≡ true → Only t s from at → Only u s from at
  only-inside u i e = every-inside t u i (part s from at) e

pub only_none : (t : Set) (s : List ℕ) (at : ℕ) → Only t s at at
only_none t s at = let n : at - at ≡ 0 = omega arith in rw n

pub only-any : (s : List ℕ) (from at : ℕ) → Only any s from at
only-any s from at = all (part s from at)
  where
    all : (w : List ℕ) → every (holds any) w ≡ true
    all [] = refl
    all (b ∷ w) = all w

-- the first byte of a set
first-at : (t u : Set) → inside t (no u) ≡ true → (w : List ℕ) (b : ℕ) (v : List ℕ) → every (holds t) w ≡ true → holds u b ≡ true
    → first u (w ++ b ∷ v) ≡ length w
first-at t u i [] b v e h = rw h
first-at t u i (x ∷ w) b v e h =
    let n : holds u x ≡ false = not-true (holds u x) (inside-holds t (no u) i x (and_left (holds t x) (every (holds t) w) e)) in
    rw n (ap suc (first-at t u i w b v (and_right (holds t x) (every (holds t) w) e) h))

pub first-in : (t u : Set) → inside t (no u) ≡ true → (s : List ℕ) (from at e : ℕ) → from ≤ at → at < e → e ≤ length s → Only t s from at
    → sees u (drop at s) ≡ true
    → first u (part s from e) ≡ at - from
first-in t u i s from at e o l h p q =
    let (v, c) = part_cut s from at o e l h in
    rw c (first-at t u i (part s from at) (get_or s at 0) v p (seen-holds u s at q)) ∙ part-long s from at o (omega arith)

-- the last group
last-in : (t : Set) (w : List ℕ) (b : ℕ) → holds t b ≡ false → after_last t (w ++ b ∷ []) ≡ after_last t w
last-in t [] b h = rw h
last-in t (x ∷ w) b h = rw (last-in t w b h)

last_out : (t : Set) (w : List ℕ) (b : ℕ) → holds t b ≡ true → after_last t (w ++ b ∷ []) ≡ suc (length w)
last_out t [] b h = rw h
last_out t (x ∷ w) b h = rw (last_out t w b h, ne_eqb (suc (length w)) 0 (λ e. omega arith))

module _ (t : Set) (s : List ℕ) (from at : ℕ) (o : from ≤ at) where
  pub group-digit : (g : ℕ) → sees t (drop at s) ≡ true → Group t s from g at → Group t s from g (at + 1)
  group-digit g h e = rw (part-snoc s from at o (seen-in t s at h), last-in (no t) (part s from at) (get_or s at 0) (ap not (seen-holds t s at h))) e

  pub group-start : (u : Set) → inside u (no t) ≡ true → sees u (drop at s) ≡ true → Group t s from (at + 1) (at + 1)
  group-start u i h =
      let l = seen-in u s at h in
      let n = part-long s from at o (omega arith) in
      rw (part-snoc s from at o l, last_out (no t) (part s from at) (get_or s at 0) (inside-holds u (no t) i (get_or s at 0) (seen-holds u s at h)), n) (omega arith)

-- behind the first byte, where that is a digit
pub group-first : (t : Set) (s : List ℕ) (from : ℕ) → sees t (drop from s) ≡ true → Group t s from (from + 1) (from + 1)
group-first t s from h =
    let n : from - from ≡ 0 = omega arith in
    rw (part-snoc s from from (omega arith) (seen-in t s from h), n, seen-holds t s from h) (omega arith)
