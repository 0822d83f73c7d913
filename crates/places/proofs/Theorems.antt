-- For readers. `first`: a text begins with line 1. `goes-along`: from the line of one place `line_behind` gives that of another, wherever a
-- text has no more lines than a number can say. `column-of`: a place's column, from where its line starts. Assumes nothing.
use Prim.Native.Nat.{ℕ, zero, suc, ◌+◌, ◌-◌, ◌≤◌, ◌<◌, min}
use native.Mathlib.Omega.{arith}
use native.Mathlib.Numerals.{add-one}
use mathlib.Core.Path.{◌≡◌, refl, ◌∙◌, ap}
use mathlib.Core.Bool.{true, false, cond}
use mathlib.Core.List.{List, [], ◌∷◌, ◌++◌}
use lib.Dec.{eqb}
use lib.ListN.{length, take, get_or, length-append, length-take}
use lib.Seq.{slice, slice_empty, slice-cons, take-suc}
use borrow.Author.Tests.{ne_eqb}
use Rattle.keywords.proofs.Logic.{split}
use Rattle.places.specs.declared.Line.{Line}
use Rattle.places.specs.Places.{newline, newlines, since_newline, line_at, column_at}
use Rattle.places.specs.Lines.{most, line_past, line_over, line_of}
use Rattle.places.proofs.LineLaws.{newlines-append}

-- one byte more
newlines-one : (w : List ℕ) (b : ℕ) → newlines (w ++ (b ∷ [])) ≡ cond (eqb b newline) (newlines w + 1) (newlines w)
unfolding newlines
newlines-one w b = newlines-append w (b ∷ []) ∙ split (eqb b newline) (λ e. rw e refl) (λ e. rw e (omega arith))

since-one : (w : List ℕ) (b : ℕ) → length (since_newline (w ++ (b ∷ []))) ≡ cond (eqb b newline) 0 (length (since_newline w) + 1)
unfolding since_newline newlines
since-one [] b = split (eqb b newline) (λ e. rw e) (λ e. rw e)
since-one (a ∷ w) b =
    split (eqb b newline)
    (λ e. rw (some (a ∷ w) b e) (since-one w b ∙ rw e))
    (λ e. rw (same (a ∷ w) b e)
    (split (eqb (newlines (a ∷ w)) 0)
    (λ f. rw (f, e) (omega (arith, length-append w (b ∷ []))))
    (λ f. rw f (since-one w b ∙ rw e))))
  where
    some : (v : List ℕ) (b : ℕ) → eqb b newline ≡ true → eqb (newlines (v ++ (b ∷ []))) 0 ≡ false
    some v b e = let h = rw e at (newlines-one v b) in ne_eqb (newlines (v ++ (b ∷ []))) 0 (λ z. omega arith)

    same : (v : List ℕ) (b : ℕ) → eqb b newline ≡ false → newlines (v ++ (b ∷ [])) ≡ newlines v
    same v b e = rw e at (newlines-one v b)

newlines-few : (w : List ℕ) → newlines w ≤ length w
unfolding newlines
newlines-few [] = omega arith
newlines-few (b ∷ w) = let i = newlines-few w in split (eqb b newline) (λ e. rw e (omega arith)) (λ e. rw e (omega arith))

since-few : (w : List ℕ) → length (since_newline w) ≤ length w
unfolding since_newline
since-few [] = omega arith
since-few (b ∷ w) = let i = since-few w in split (eqb (newlines (b ∷ w)) 0) (λ e. rw e (omega arith)) (λ e. rw e (omega arith))

pub first : (s : List ℕ) → line_of s 0 ≡ record { number = 1; start = 0 }
unfolding line_of line_at newlines since_newline
first s = refl

pub column-of : (s : List ℕ) (at : ℕ) → ((line_of s at).start ≤ at) × (column_at s at ≡ at - (line_of s at).start + 1)
unfolding line_of column_at
column-of s at =
    let n = length (since_newline (take at s)) in
    let few : n ≤ at = omega (arith, since-few (take at s), length-take at s) in
    (omega arith, omega arith)

-- the line one byte further
line_on : (s : List ℕ) (at : ℕ) → at < length s → length s < most → line_past (line_of s at) at (get_or s at 0) ≡ line_of s (at + 1)
unfolding line_of line_at
line_on s at h small =
    let b = get_or s at 0 in
    let w = take at s in
    let n = newlines w in
    let m = length (since_newline w) in
    let t : take (at + 1) s ≡ w ++ (b ∷ []) = rw (add-one, take-suc s at 0) in
    let few : n ≤ at = omega (arith, newlines-few w, length-take at s) in
    let less : m ≤ at = omega (arith, since-few w, length-take at s) in
    let number : min (1 + n + 1) most ≡ 1 + (n + 1) = omega arith in
    let none : at + 1 - 0 ≡ at + 1 = omega arith in
    let start : at - m ≡ at + 1 - (m + 1) = omega arith in
    rw (t, newlines-one w b, since-one w b)
    (split (eqb b newline) (λ e. rw (e, number, none)) (λ e. rw (e, start)))

goes_by : (s : List ℕ) → length s < most → (n from to : ℕ) → from + n ≡ to → to ≤ length s
    → line_over (line_of s from) from (slice from to s) ≡ line_of s to
unfolding line_over
goes_by s small zero from to e h =
    let same : from ≡ to = omega arith in
    rw same (rw (slice_empty to s))
goes_by s small (suc n) from to e h =
    let one : slice from to s ≡ get_or s from 0 ∷ slice (from + 1) to s = rw add-one (slice-cons from to s 0 (omega arith) h) in
    ap (line_over (line_of s from) from) one ∙
    ap (λ (l : Line). line_over l (from + 1) (slice (from + 1) to s)) (line_on s from (omega arith) small) ∙
    goes_by s small n (from + 1) to (omega arith) h

pub goes-along : (s : List ℕ) (from to : ℕ) → length s < most → from ≤ to → to ≤ length s
    → line_over (line_of s from) from (slice from to s) ≡ line_of s to
goes-along s from to small h k = goes_by s small (to - from) from to (omega arith) k
