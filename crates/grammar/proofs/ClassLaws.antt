-- The rules of one class. Assumes nothing.
use Prim.Native.Nat.{ℕ, suc}
use mathlib.Core.Path.{◌≡◌, refl, sym, ap, subst}
use mathlib.Core.Bool.{cond, true≢false}
use mathlib.Core.List.{List, [], ◌∷◌, cons≢nil}
use mathlib.Core.Logic.Iff
use mathlib.Core.Logic.{◌↔◌, ◌⊎◌, inl, inr}
use lib.Dec.{eqb}
use lib.ListN.{take, drop}
use borrow.Author.Tests.{eqb-false}
use Rattle.keywords.proofs.Logic.{split}
use Rattle.grammar.specs.Form.{none, any, Form, Has}
use Rattle.grammar.specs.Classes.{Class, blank_run, line_comment, block_comment, operator, string, quoted_name, integer, float, blob, parameter}
use Rattle.grammar.specs.Classes.{word, illegal, unrecognized, bang, open_quote, open_blob, odd_blob, bad_parameter, underscore, word_after_integer}
use Rattle.grammar.specs.Classes.{word_after_fraction, no_exponent, word_after_exponent, no_hexdigit, underscore_after_x, hex_underscore, word_after_hex}
use Rattle.grammar.specs.Classes.{Rule, ◌is◌, ◌is◌before◌}
use Rattle.grammar.specs.Longest.{Some, Follows, Stands, Opens}
use Rattle.grammar.proofs.Equivalences.{both, one_of, no-left}

-- in document 01's order
abbrev pub number : Class → ℕ
number blank_run = 0
number line_comment = 1
number block_comment = 2
number operator = 3
number string = 4
number quoted_name = 5
number integer = 6
number float = 7
number blob = 8
number parameter = 9
number word = 10
number illegal = 11
number unrecognized = 12
number bang = 13
number open_quote = 14
number open_blob = 15
number odd_blob = 16
number bad_parameter = 17
number underscore = 18
number word_after_integer = 19
number word_after_fraction = 20
number no_exponent = 21
number word_after_exponent = 22
number no_hexdigit = 23
number underscore_after_x = 24
number hex_underscore = 25
number word_after_hex = 26

-- the place of the first rule of class c
abbrev pub place_of : Class → List Rule → ℕ
place_of c [] = 0
place_of c (r ∷ rs) = cond (eqb (number r.class) (number c)) 0 (suc (place_of c rs))

-- the rules of class c
abbrev pub only : Class → List Rule → List Rule
only c [] = []
only c (r ∷ rs) = cond (eqb (number r.class) (number c)) (r ∷ only c rs) (only c rs)

stands-only : (rs : List Rule) (c : Class) (s : List ℕ) (n : ℕ) → Stands rs c s n ↔ Stands (only c rs) c s n
stands-only rs c s n = both Iff.rfl (some rs)
  where
    some : (l : List Rule) → Some (λ r. (r.class ≡ c) × Has r.form (take n s) × Follows r.next (drop n s)) l
        ↔ Some (λ r. (r.class ≡ c) × Has r.form (take n s) × Follows r.next (drop n s)) (only c l)
    some [] = Iff.rfl
    some (r ∷ l) =
        split (eqb (number r.class) (number c))
        (λ e. rw e (one_of Iff.rfl (some l)))
        (λ e. rw e (Iff.trans (Iff.symm (no-left (λ h. eqb-false (number r.class) (number c) e (ap number h.0)))) (some l)))

pub any-follows : (t : List ℕ) → Follows any t
any-follows [] = tt
any-follows (b ∷ t) = refl

ended : (t : List ℕ) → Follows none t ↔ (t ≡ [])
ended [] = (λ h. refl, λ e. tt)
ended (b ∷ t) = (λ h. absurd (true≢false (sym h)), λ e. absurd (cons≢nil e))

-- a class of one rule that says nothing of what follows
pub one-rule : (rs : List Rule) (c : Class) (f : Form) → only c rs ≡ (c is f) ∷ [] → (s : List ℕ) (n : ℕ) → Stands rs c s n ↔ Opens f s n
one-rule rs c f e s n = Iff.trans (stands-only rs c s n) (subst (λ (l : List Rule). Stands l c s n ↔ Opens f s n) (sym e) (make, take))
  where
    make : Stands ((c is f) ∷ []) c s n → Opens f s n
    make (l, inl h) = (l, h.1)
    make (l, inr h) = absurd h

    take : Opens f s n → Stands ((c is f) ∷ []) c s n
    take (l, h) = (l, inl (refl, h, any-follows (drop n s)))

-- a class of two rules: one says nothing of what follows, the other lets only the end follow
pub or-at-end : (rs : List Rule) (c : Class) (f g : Form) → only c rs ≡ (c is f) ∷ (c is g before none) ∷ [] → (s : List ℕ) (n : ℕ)
    → Stands rs c s n ↔ (Opens f s n ⊎ (Opens g s n × (drop n s ≡ [])))
or-at-end rs c f g e s n =
    Iff.trans (stands-only rs c s n) (subst (λ (l : List Rule). Stands l c s n ↔ (Opens f s n ⊎ (Opens g s n × (drop n s ≡ [])))) (sym e) (make, take))
  where
    make : Stands ((c is f) ∷ (c is g before none) ∷ []) c s n → Opens f s n ⊎ (Opens g s n × (drop n s ≡ []))
    make (l, inl h) = inl (l, h.1)
    make (l, inr (inl h)) = inr ((l, h.1), (ended (drop n s)).0 h.2)
    make (l, inr (inr h)) = absurd h

    take : Opens f s n ⊎ (Opens g s n × (drop n s ≡ [])) → Stands ((c is f) ∷ (c is g before none) ∷ []) c s n
    take (inl (l, h)) = (l, inl (refl, h, any-follows (drop n s)))
    take (inr ((l, h), z)) = (l, inr (inl (refl, h, (ended (drop n s)).1 z)))
