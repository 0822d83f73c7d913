-- A buffer that is filled from the front with the bytes of a list. Assumes nothing.
use Prim.Native.Nat.{ℕ, suc, ◌+◌, ◌-◌, ◌≤◌, ◌<◌}
use native.Mathlib.Omega.{arith}
use native.Mathlib.Numerals.{add-one}
use mathlib.Core.Path.{◌≡◌, refl, sym, ◌∙◌, ap}
use mathlib.Core.List.{List, [], ◌∷◌, ◌++◌, append_assoc}
use lib.ListN.{length, get_or, take, drop, set, length-append, length-drop}
use lib.Seq.{drop-cons, take-suc, set_at, drop-drop, length-take-le, take_all, drop_at, drop-append-add}
use borrow.Author.Tests.{le-leb, lt-leb}
use Rattle.buffers.specs.Buffers.{filled, refused_as, before, Fills}

-- n bytes of v stand at the front of the buffer `old`, now `out`; `left` is what is left of v
pub record Filling (v old out : List ℕ) (n : ℕ) (left : List ℕ) : Type 0 where
  pub rest : drop n v ≡ left
  pub upto : n ≤ length v
  pub room : length v ≤ length old
  pub holds : out ≡ take n v ++ drop n old

pub begins : (v old : List ℕ) → length v ≤ length old → Filling v old old 0 v
begins v old h = record { rest = refl; upto = omega arith; room = h; holds = refl }

module _ {v old out : List ℕ} {n : ℕ} {left : List ℕ} (f : Filling v old out n left) where
  pub counted : n + length left ≡ length v
  counted = omega (arith, ap length f.rest, length-drop n v, f.upto)

  pub same-long : length out ≡ length old
  same-long = ap length f.holds ∙ length-append (take n v) (drop n old) ∙ omega (arith, length-take-le n v f.upto, length-drop n old, f.upto, f.room)

  -- what is left, by another name
  pub with-left : (other : List ℕ) → left ≡ other → Filling v old out n other
  with-left other e = record { rest = f.rest ∙ e; upto = f.upto; room = f.room; holds = f.holds }

pub in_buffer : {v old out : List ℕ} {n b : ℕ} {left : List ℕ} → Filling v old out n (b ∷ left) → n < length out
in_buffer f = omega (arith, counted f, same-long f, f.room)

pub one_more : {v old out : List ℕ} {n b : ℕ} {left : List ℕ} → Filling v old out n (b ∷ left) → Filling v old (set out n b) (n + 1) left
one_more {v} {old} {out} {n} {b} {left} f =
    let k = counted f in
    let h : n < length v = omega arith in
    let r = f.room in
    let o : n < length old = omega arith in
    let both : get_or v n 0 ∷ drop (suc n) v ≡ b ∷ left = sym (drop-cons v n 0 h) ∙ f.rest in
    let head : get_or v n 0 ≡ b = cc in
    let tail : drop (suc n) v ≡ left = cc in
    record {
      rest = rw (add-one n) tail;
      upto = omega arith;
      room = r;
      holds =
          ap (λ (l : List ℕ). set l n b) (f.holds ∙ ap (λ (l : List ℕ). take n v ++ l) (drop-cons old n 0 o))
          ∙ set_at (take n v) (get_or old n 0) (drop (suc n) old) b n (length-take-le n v f.upto)
          ∙ sym (rw (add-one n, take-suc v n 0 h, head) (append_assoc (take n v) (b ∷ []) (drop (suc n) old)));
    }

pub whole : {v old out : List ℕ} {n : ℕ} → Filling v old out n [] → out ≡ before v old
whole {v} {old} {out} {n} f =
    let e : n ≡ length v = omega (arith, counted f) in
    f.holds ∙ rw e (ap (λ (l : List ℕ). l ++ drop (length v) old) (take_all (length v) v (omega arith)))

-- the same, from the buffer as it is now on: a loop behind the first bytes
module _ {v old out : List ℕ} {n : ℕ} {left : List ℕ} (f : Filling v old out n left) where
  pub rebased : Filling v out out n left
  rebased =
      let l = same-long f in
      let e : drop n out ≡ drop n old = rw f.holds (drop_at (take n v) (drop n old) n (length-take-le n v f.upto)) in
      record { rest = f.rest; upto = f.upto; room = omega (arith, f.room); holds = f.holds ∙ ap (λ (x : List ℕ). take n v ++ x) (sym e) }

  pub before-rebased : before v out ≡ before v old
  before-rebased =
      let k = length v - n in
      let t = length-take-le n v f.upto in
      let e : n + k ≡ length v = omega (arith, f.upto) in
      let d : drop (n + k) out ≡ drop (n + k) old =
      rw f.holds (ap (λ (m : ℕ). drop (m + k) (take n v ++ drop n old)) (sym t) ∙ drop-append-add (take n v) (drop n old) k ∙ drop-drop k n old) in
      ap (λ (x : List ℕ). v ++ x) (rw (← e) d)

-- what a call says
pub fills : {v old new : List ℕ} {n : ℕ} → length v ≤ length old → n ≡ length v → new ≡ before v old → Fills v old (filled n) new
fills {v} {old} {new} {n} h e f =
    record { answers = rw (le-leb (length v) (length old) h) (ap filled e); holds = rw (le-leb (length v) (length old) h) f }

pub no_room : {v old : List ℕ} → length old < length v → Fills v old (refused_as "NoRoom") old
no_room {v} {old} h = record { answers = rw (lt-leb (length v) (length old) h); holds = rw (lt-leb (length v) (length old) h) }
