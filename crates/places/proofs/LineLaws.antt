-- Parts of a text without a 0A, and the line behind a part. Assumes nothing.
use Prim.Native.Nat.{ℕ, zero, suc, ◌+◌, ◌-◌, ◌≤◌, ◌<◌, min}
use native.Mathlib.Omega.{arith}
use native.Mathlib.Numerals.{add-one, add-two, add-three, add-four}
use mathlib.Core.Path.{◌≡◌, refl, sym, ◌∙◌, ap, subst}
use mathlib.Core.Bool.{true, false}
use mathlib.Core.List.{List, [], ◌∷◌, ◌++◌}
use mathlib.Core.Logic.{⊎_elim}
use lib.Dec.{eqb, leb}
use lib.ListN.{length, take, drop, get_or, length-take, drop_of_length-le}
use lib.Seq.{slice, slice_empty, slice-cons, length-slice, take_all}
use borrow.Author.Tests.{eq-eqb, ne_eqb, eqb-true, leb-true, leb-false}
use Rattle.keywords.proofs.Logic.{split}
use Rattle.places.specs.declared.Line.{Line}
use Rattle.places.specs.Places.{newline, newlines}
use Rattle.places.specs.Lines.{most, line_past, line_over, has_newline, Clear, FirstNewline}

pub newlines-append : (u v : List ℕ) → newlines (u ++ v) ≡ newlines u + newlines v
unfolding newlines
newlines-append [] v = omega arith
newlines-append (b ∷ u) v =
    let i = newlines-append u v in
    split (eqb b newline) (λ e. rw e (omega (arith, i))) (λ e. rw e i)

-- the line behind bytes, and behind more
pub over-append : (l : Line) (at : ℕ) (u v : List ℕ) → line_over l at (u ++ v) ≡ line_over (line_over l at u) (at + length u) v
unfolding line_over
over-append l at [] v = ap (λ (a : ℕ). line_over l a v) (omega arith)
over-append l at (b ∷ u) v =
    over-append (line_past l at b) (at + 1) u v ∙ ap (λ (a : ℕ). line_over (line_over (line_past l at b) (at + 1) u) a v) (omega arith)

-- without a 0A no other line begins
pub over-clear : (l : Line) (at : ℕ) (w : List ℕ) → newlines w ≡ 0 → line_over l at w ≡ l
unfolding line_over newlines
over-clear l at [] e = refl
over-clear l at (b ∷ w) e =
    split (eqb b newline)
    (λ f. let z = rw f at e in absurd (omega (arith, z)))
    (λ f. rw f (over-clear l (at + 1) w (rw f at e)))

-- a 0A among bytes, one by one
pub has_first : (b : ℕ) (w : List ℕ) → b ≡ newline → true ≡ has_newline (b ∷ w)
unfolding newlines
has_first b w e = rw (eq-eqb b newline e, ne_eqb (suc (newlines w)) 0 (λ z. omega arith)) refl

pub has-later : (b : ℕ) (w : List ℕ) → (b ≡ newline → ⊥) → has_newline w ≡ has_newline (b ∷ w)
unfolding newlines
has-later b w other = rw (ne_eqb b newline other) refl

pub has-single : (b : ℕ) → eqb b newline ≡ has_newline (b ∷ [])
unfolding newlines
has-single b = split (eqb b newline) (λ e. rw e refl) (λ e. rw e refl)

pub has-none : (w : List ℕ) → false ≡ has_newline w → newlines w ≡ 0
has-none w e = split (eqb (newlines w) 0) (λ f. eqb-true (newlines w) 0 f) (λ f. let z = rw f at e in let y : ◌≡◌ {A = ℕ} 0 1 = cc in absurd (omega arith))

none-single : (b : ℕ) → (b ≡ newline → ⊥) → newlines (b ∷ []) ≡ 0
unfolding newlines
none-single b other = rw (ne_eqb b newline other)

-- what lies before the end of a text and what lies before an offset behind it are the same
pub slice-least : (from to : ℕ) (s : List ℕ) → slice from to s ≡ slice from (min to (length s)) s
slice-least from to s =
    ap (drop from) (split (leb to (length s)) (λ e. before (leb-true to (length s) e)) (λ e. behind (leb-false to (length s) e)))
  where
    before : to ≤ length s → take to s ≡ take (min to (length s)) s
    before h = let e : to ≡ min to (length s) = omega arith in ap (λ (n : ℕ). take n s) e

    behind : length s < to → take to s ≡ take (min to (length s)) s
    behind h = take_all to s (omega arith) ∙ sym (take_all (min to (length s)) s (omega arith))

module _ (s : List ℕ) where
  -- two parts side by side
  slice-split : (n f m t : ℕ) → f + n ≡ m → m ≤ t → t ≤ length s → slice f t s ≡ slice f m s ++ slice m t s
  slice-split zero f m t e h k =
      let same : f ≡ m = omega arith in
      rw same (rw (slice_empty m s))
  slice-split (suc n) f m t e h k =
      slice-cons f t s 0 (omega arith) k ∙ ap (λ (w : List ℕ). get_or s f 0 ∷ w) (slice-split n (suc f) m t (omega arith) h k) ∙
      ap (λ (w : List ℕ). w ++ slice m t s) (sym (slice-cons f m s 0 (omega arith) (omega arith)))

  module _ (f m t : ℕ) (h : f ≤ m) (k : m ≤ t) (l : t ≤ length s) where
    parts : slice f t s ≡ slice f m s ++ slice m t s
    parts = slice-split (m - f) f m t (omega arith) k l

    -- neither has a 0A
    pub clear_both : newlines (slice f m s) ≡ 0 → newlines (slice m t s) ≡ 0 → newlines (slice f t s) ≡ 0
    clear_both p q = ap newlines parts ∙ newlines-append (slice f m s) (slice m t s) ∙ omega (arith, p, q)

    -- the first has none: the line is that behind the second
    pub over-rest : (line : Line) → newlines (slice f m s) ≡ 0 → line_over line f (slice f t s) ≡ line_over line m (slice m t s)
    over-rest line p =
        ap (line_over line f) parts ∙ over-append line f (slice f m s) (slice m t s) ∙
        ap (λ (x : Line). line_over x (f + length (slice f m s)) (slice m t s)) (over-clear line f (slice f m s) p) ∙
        ap (λ (a : ℕ). line_over line a (slice m t s)) (omega (arith, length-slice f m s (omega arith)))

  -- four bytes
  pub four_bytes : (at : ℕ) → at + 4 ≤ length s
      → get_or s at 0 ∷ get_or s (at + 1) 0 ∷ get_or s (at + 2) 0 ∷ get_or s (at + 3) 0 ∷ [] ≡ slice at (at + 4) s
  four_bytes at h =
      rw (add-one, add-two, add-three, add-four)
      (sym
      (slice-cons at (suc (suc (suc (suc at)))) s 0 (omega arith) (omega arith) ∙
      ap (λ (w : List ℕ). get_or s at 0 ∷ w)
      (slice-cons (suc at) (suc (suc (suc (suc at)))) s 0 (omega arith) (omega arith) ∙
      ap (λ (w : List ℕ). get_or s (suc at) 0 ∷ w)
      (slice-cons (suc (suc at)) (suc (suc (suc (suc at)))) s 0 (omega arith) (omega arith) ∙
      ap (λ (w : List ℕ). get_or s (suc (suc at)) 0 ∷ w)
      (slice-cons (suc (suc (suc at))) (suc (suc (suc (suc at)))) s 0 (omega arith) (omega arith) ∙
      ap (λ (w : List ℕ). get_or s (suc (suc (suc at))) 0 ∷ w) (slice_empty (suc (suc (suc (suc at)))) s))))))

  -- a 0A where the first part ends: the next line begins behind it
  pub over-newline : (f m t : ℕ) → f ≤ m → m < t → t ≤ length s → (line : Line) → newlines (slice f m s) ≡ 0 → get_or s m 0 ≡ newline
      → line_over line f (slice f t s) ≡ line_over (record { number = min (line.number + 1) most; start = m + 1 }) (m + 1) (slice (m + 1) t s)
  unfolding line_over
  over-newline f m t h k l line p e =
      let first : slice m t s ≡ get_or s m 0 ∷ slice (m + 1) t s = rw add-one (slice-cons m t s 0 k l) in
      let next : line_past line m (get_or s m 0) ≡ record { number = min (line.number + 1) most; start = m + 1 } =
      rw (eq-eqb (get_or s m 0) newline e) in
      over-rest f m t h (omega arith) l line p ∙ ap (line_over line m) first ∙ ap (λ (x : Line). line_over x (m + 1) (slice (m + 1) t s)) next

-- Where `skip_fours` and `next_newline` stand in their loops.
pub clear-begins : (s : List ℕ) (from to : ℕ) → (from ≤ to) × (to ≤ length s) → Clear s from to from
unfolding newlines
clear-begins s from to (h, k) = record { begin = omega arith; inside = h; end = k; none = ap newlines (slice_empty from s) }

module _ {s : List ℕ} {from to at : ℕ} (v : Clear s from to at) where
  clear-on : (n : ℕ) → at + n ≤ to → newlines (slice at (at + n) s) ≡ 0 → Clear s from to (at + n)
  clear-on n h e =
      let b = v.begin in
      let k = v.end in
      record {
        begin = omega arith;
        inside = h;
        end = k;
        none = clear_both s from at (at + n) b (omega arith) (omega arith) v.none e;
      }

  pub clear-four : 4 ≤ to - at → false ≡ has_newline (slice at (at + 4) s) → Clear s from to (at + 4)
  clear-four h e = let i = v.inside in clear-on 4 (omega arith) (has-none (slice at (at + 4) s) e)

  pub clear-one : at < to → (get_or s at 0 ≡ newline → ⊥) → Clear s from to (at + 1)
  clear-one h other =
      let k = v.end in
      let one : slice at (at + 1) s ≡ get_or s at 0 ∷ [] =
      rw add-one (slice-cons at (suc at) s 0 (omega arith) (omega arith) ∙ ap (λ (w : List ℕ). get_or s at 0 ∷ w) (slice_empty (suc at) s)) in
      clear-on 1 (omega arith) (ap newlines one ∙ none-single (get_or s at 0) other)

-- Where `line_behind` stands in its loop: the line behind all of its part is that behind what is left of it.
pub record Along (s : List ℕ) (from end : ℕ) (line : Line) (at : ℕ) (here : Line) : Type 0 where
  pub left : at ≤ end
  pub inside : end ≤ length s
  pub same : line_over line from (slice from end s) ≡ line_over here at (slice at end s)

pub along-begins : (s : List ℕ) (from to end : ℕ) (line : Line) → end ≡ min to (length s) → from < end → Along s from end line from line
along-begins s from to end line e h = record { left = omega arith; inside = omega arith; same = refl }

-- nothing lies between the two offsets
pub along-none : (s : List ℕ) (from to end : ℕ) (line : Line) → end ≡ min to (length s) → end ≤ from → line ≡ line_over line from (slice from to s)
unfolding line_over
along-none s from to end line e h =
    let few : length (take to s) ≤ from = omega (arith, length-take to s) in
    let none : slice from to s ≡ [] = drop_of_length-le (take to s) few in
    sym (ap (line_over line from) none)

below : (m n : ℕ) → m ≤ n → (m ≡ n → ⊥) → m < n
below m n h other = split (leb n m) (λ e. absurd (other (omega (arith, leb-true n m e)))) (λ e. leb-false n m e)

module _ {s : List ℕ} {from end : ℕ} {line here : Line} {at stop : ℕ} (v : Along s from end line at here) (found : FirstNewline s at end stop) where
  pub along-ends : stop ≡ end → (to : ℕ) → end ≡ min to (length s) → here ≡ line_over line from (slice from to s)
  along-ends e to least =
      let none : newlines (slice at end s) ≡ 0 = subst (λ (t : ℕ). newlines (slice at t s) ≡ 0) e found.0.none in
      sym
      (ap (line_over line from) (slice-least from to s ∙ ap (λ (t : ℕ). slice from t s) (sym least)) ∙ v.same ∙
      over-clear here at (slice at end s) none)

  there : (stop ≡ end → ⊥) → get_or s stop 0 ≡ newline
  there other = ⊎_elim (λ e. absurd (other e)) (λ e. e) found.1

  pub along-before : (stop ≡ end → ⊥) → stop < end
  along-before other = let i = found.0.inside in below stop end i other

  pub along-on : (stop ≡ end → ⊥) → (n : ℕ) → n ≡ min (here.number + 1) most → Along s from end line (stop + 1) (record { number = n; start = stop + 1 })
  along-on other n e =
      let h = along-before other in
      let i = v.inside in
      record {
        left = omega arith;
        inside = i;
        same =
            v.same ∙ over-newline s at stop end found.0.begin h i here found.0.none (there other) ∙
            ap (λ (m : ℕ). line_over (record { number = m; start = stop + 1 }) (stop + 1) (slice (stop + 1) end s)) (sym e);
      }
