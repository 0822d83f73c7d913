-- States compared by computing: each form is written as a tree of numbers, from which it can be read back. Assumes nothing.
use Prim.Native.Nat.{ℕ, ◌+◌, ◌*◌, ◌%◌}
use mathlib.Core.Path.{◌≡◌, refl, sym, ◌∙◌, ap}
use mathlib.Core.Bool.{Bool, true, false, ◌&&◌, true≢false}
use mathlib.Core.List.{[], ◌∷◌}
use lib.Dec.{eqb}
use lib.ListN.{get_or}
use borrow.Author.Tests.{eqb-true}
use Rattle.keywords.proofs.Logic.{and_left, and_right}
use Rattle.grammar.specs.Form.{Set, none, D, H, S, C, blank, control, byte, no, ◌or◌, Form, never, empty, anything, one, ◌·◌, ◌∣◌, ◌but◌, many}
use Rattle.grammar.proofs.States.{Left, State}

pub data Tree : Type 0 where
  leaf : ℕ → Tree
  node : ℕ → Tree → Tree → Tree

abbrev set_tree : Set → Tree
set_tree none = leaf 0
set_tree D = leaf 1
set_tree H = leaf 2
set_tree S = leaf 3
set_tree C = leaf 4
set_tree blank = leaf 5
set_tree control = leaf 6
set_tree (byte c) = node 0 (leaf c) (leaf 0)
set_tree (no s) = node 1 (set_tree s) (leaf 0)
set_tree (s or t) = node 2 (set_tree s) (set_tree t)

abbrev pub tree : Form → Tree
tree never = leaf 0
tree empty = leaf 1
tree anything = leaf 2
tree (one s) = node 0 (set_tree s) (leaf 0)
tree (f · g) = node 1 (tree f) (tree g)
tree (f ∣ g) = node 2 (tree f) (tree g)
tree (f but g) = node 3 (tree f) (tree g)
tree (many f) = node 4 (tree f) (leaf 0)

number : Tree → ℕ
number (leaf n) = n
number (node n s t) = n

set_of : Tree → Set
set_of (leaf n) = get_or (none ∷ D ∷ H ∷ S ∷ C ∷ blank ∷ control ∷ []) n none
set_of (node n s t) = get_or (byte (number s) ∷ no (set_of s) ∷ set_of s or set_of t ∷ []) n none

set_back : (s : Set) → set_of (set_tree s) ≡ s
unfolding set_of number
set_back none = refl
set_back D = refl
set_back H = refl
set_back S = refl
set_back C = refl
set_back blank = refl
set_back control = refl
set_back (byte c) = refl
set_back (no s) = ap no (set_back s)
set_back (s or t) = rw (set_back s, set_back t)

form_of : Tree → Form
form_of (leaf n) = get_or (never ∷ empty ∷ anything ∷ []) n never
form_of (node n s t) = get_or (one (set_of s) ∷ form_of s · form_of t ∷ (form_of s ∣ form_of t) ∷ (form_of s but form_of t) ∷ many (form_of s) ∷ []) n never

form-back : (f : Form) → form_of (tree f) ≡ f
unfolding form_of
form-back never = refl
form-back empty = refl
form-back anything = refl
form-back (one s) = ap one (set_back s)
form-back (f · g) = rw (form-back f, form-back g)
form-back (f ∣ g) = rw (form-back f, form-back g)
form-back (f but g) = rw (form-back f, form-back g)
form-back (many f) = ap many (form-back f)

abbrev same : Tree → Tree → Bool
same (leaf m) (leaf n) = eqb m n
same (leaf m) (node n s t) = false
same (node m s t) (leaf n) = false
same (node m s t) (node n u v) =
    let right = same t v in
    let both = same s u && right in
    eqb m n && both

same-eq : (a b : Tree) → same a b ≡ true → a ≡ b
same-eq (leaf m) (leaf n) e = ap leaf (eqb-true m n e)
same-eq (leaf m) (node n s t) e = absurd (true≢false (sym e))
same-eq (node m s t) (leaf n) e = absurd (true≢false (sym e))
same-eq (node m s t) (node n u v) e =
    let r = and_right (eqb m n) (same s u && same t v) e in
    rw (eqb-true m n (and_left (eqb m n) (same s u && same t v) e), same-eq s u (and_left (same s u) (same t v) r), same-eq t v (and_right (same s u) (same t v) r))

form-eq : (f g : Form) → same (tree f) (tree g) ≡ true → f ≡ g
form-eq f g e = sym (form-back f) ∙ ap form_of (same-eq (tree f) (tree g) e) ∙ form-back g

abbrev pub alike : State → State → Bool
alike [] [] = true
alike [] (y ∷ p) = false
alike (x ∷ q) [] = false
alike (x ∷ q) (y ∷ p) =
    let more = alike q p in
    let both = same (tree x.form) (tree y.form) && more in
    eqb x.place y.place && both

left-eq : (x y : Left) → x.place ≡ y.place → x.form ≡ y.form → (q p : State) → q ≡ p → ◌≡◌ {A = State} (x ∷ q) (y ∷ p)
left-eq x y d e q p h = λ i. record { place = d i; form = e i } ∷ h i

pub alike-eq : (q p : State) → alike q p ≡ true → q ≡ p
alike-eq [] [] e = refl
alike-eq [] (y ∷ p) e = absurd (true≢false (sym e))
alike-eq (x ∷ q) [] e = absurd (true≢false (sym e))
alike-eq (x ∷ q) (y ∷ p) e =
    let f = same (tree x.form) (tree y.form) in
    let r = and_right (eqb x.place y.place) (f && alike q p) e in
    left-eq x y (eqb-true x.place y.place (and_left (eqb x.place y.place) (f && alike q p) e))
    (form-eq x.form y.form (and_left f (alike q p) r)) q p (alike-eq q p (and_right f (alike q p) r))

-- a number by which a state is found again; different ones may have the same
abbrev mix : ℕ → ℕ → ℕ
mix a b = (a * 1000003 + b * 31 + 7) % 1000000000000000003

abbrev tree_key : Tree → ℕ
tree_key (leaf n) = n
tree_key (node n s t) = mix n (mix (tree_key s) (tree_key t))

abbrev pub key : State → ℕ
key [] = 0
key (x ∷ q) = mix x.place (mix (tree_key (tree x.form)) (key q))
