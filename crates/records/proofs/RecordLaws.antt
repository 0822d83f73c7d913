-- What `put` writes, and records at the front of a lent list, one more at a time. Assumes nothing.
use Prim.Native.Nat.{ℕ, ◌+◌, ◌*◌, ◌≤◌, ◌<◌}
use native.Mathlib.Omega.{arith}
use native.Mathlib.Numerals.{add-one, add-two, add-three, add-four}
use mathlib.Core.Path.{◌≡◌, refl, sym, ◌∙◌, ap}
use mathlib.Core.Bool.{true, false}
use mathlib.Core.List.{List, [], ◌∷◌, ◌++◌, append_assoc}
use lib.ListN.{length, drop, take, set, length-append, length-drop}
use lib.Seq.{sets, sets-eq, take_at, drop-append-add, drop-drop}
use borrow.Author.Tests.{le-leb, lt-leb}
use Rattle.records.specs.declared.Record.{Record}
use Rattle.records.specs.Records.{numbers_of, width, numbers_of_all, at_front, is_free, with_record}

-- a record set number by number
abbrev set_numbers : List ℕ → ℕ → Record → List ℕ
set_numbers l at r = set (set (set (set (set l at r.kind) (at + 1) r.start) (at + 2) r.length) (at + 3) r.line) (at + 4) r.column

pub set-numbers : (l : List ℕ) (at : ℕ) (r : Record) → at + width ≤ length l → (true ≡ is_free l at) × (set_numbers l at r ≡ with_record l at r)
unfolding with_record
set-numbers l at r h =
    let e = le-leb (at + width) (length l) h in
    let s : set_numbers l at r ≡ sets l at (numbers_of r) = rw (add-one, add-two, add-three, add-four) in
    (sym e, rw e (s ∙ sets-eq (numbers_of r) l at h))

-- where there is no room, the list stays as it is
pub with_none : (l : List ℕ) (at : ℕ) (r : Record) → is_free l at ≡ false → with_record l at r ≡ l
unfolding with_record
with_none l at r e = rw e

pub set-none : (l : List ℕ) (at : ℕ) (r : Record) → length l < at + width → (false ≡ is_free l at) × (l ≡ with_record l at r)
set-none l at r h = let e = lt-leb (at + width) (length l) h in (sym e, sym (with_none l at r e))

pub numbers-long : (rs : List Record) → length (numbers_of_all rs) ≡ width * length rs
unfolding numbers_of_all
numbers-long [] = refl
numbers-long (r ∷ rs) = omega (arith, numbers-long rs)

numbers-append : (rs qs : List Record) → numbers_of_all (rs ++ qs) ≡ numbers_of_all rs ++ numbers_of_all qs
unfolding numbers_of_all
numbers-append [] qs = refl
numbers-append (r ∷ rs) qs =
    ap (λ (x : List ℕ). numbers_of r ++ x) (numbers-append rs qs) ∙ sym (append_assoc (numbers_of r) (numbers_of_all rs) (numbers_of_all qs))

-- For a loop that writes records: these stand at the front of the list that was lent, and there was room for them.
pub record Front (rs : List Record) (old out : List ℕ) : Type 0 where
  pub room : width * length rs ≤ length old
  pub holds : out ≡ at_front rs old

pub front-none : (old : List ℕ) → Front [] old old
unfolding numbers_of_all
front-none old = record { room = omega arith; holds = refl }

module _ {rs : List Record} {old out : List ℕ} (v : Front rs old out) where
  pub front_long : length out ≡ length old
  front_long =
      ap length v.holds ∙ length-append (numbers_of_all rs) (drop (width * length rs) old) ∙
      omega (arith, numbers-long rs, length-drop (width * length rs) old, v.room)

  -- one more behind them
  pub front-more : (r : Record) → width * length rs + width ≤ length old → Front (rs ++ (r ∷ [])) old (with_record out (width * length rs) r)
  unfolding with_record numbers_of_all
  front-more r h =
      let n = width * length rs in
      let front = numbers_of_all rs in
      let one : length (rs ++ (r ∷ [])) ≡ length rs + 1 = length-append rs (r ∷ []) in
      let more : width * length (rs ++ (r ∷ [])) ≡ n + width = omega arith in
      let long = numbers-long rs in
      let free = le-leb (n + width) (length out) (omega (arith, front_long)) in
      let before : take n out ≡ front = ap (take n) v.holds ∙ take_at front (drop n old) n long in
      let behind : drop (n + width) out ≡ drop (n + width) old =
      ap (drop (n + width)) v.holds ∙ ap (λ (m : ℕ). drop (m + width) (front ++ drop n old)) (sym long) ∙
      drop-append-add front (drop n old) width ∙ drop-drop width n old in
      record {
        room = omega (arith, more);
        holds =
            rw (free, before, behind)
            (ap (λ (x : List ℕ). x ++ drop (n + width) old) (sym (numbers-append rs (r ∷ []))) ∙
            ap (λ (m : ℕ). numbers_of_all (rs ++ (r ∷ [])) ++ drop m old) (sym more));
      }
