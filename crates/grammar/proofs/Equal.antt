-- Two forms that the same texts have, shown by computing. Assumes nothing.
use Prim.Native.Nat.{ℕ}
use mathlib.Core.Path.{◌≡◌, refl, sym, ◌∙◌}
use mathlib.Core.Bool.{Bool, true, false, ◌&&◌, true≢false}
use mathlib.Core.List.{List, [], ◌∷◌}
use mathlib.Core.Logic.Iff
use mathlib.Core.Logic.{◌↔◌, inl}
use Rattle.keywords.proofs.Logic.{split, and_left, and_right}
use Rattle.grammar.specs.Form.{Form, ◌but◌, Has}
use Rattle.grammar.specs.Longest.{Some}
use Rattle.grammar.proofs.Rest.{nullable, rest, null_has, rest_has}
use Rattle.grammar.proofs.States.{State, met, after, after-in}
use Rattle.grammar.proofs.Reach.{reaches, always}

abbrev alone : Form → State
alone f = record { place = 0; form = f } ∷ []

abbrev unmet : List ℕ → Bool
unmet [] = true
unmet (k ∷ l) = false

-- no text has the form: it is met in no state, and following n of them finds them all
abbrev pub is_void : ℕ → Form → Bool
is_void n f = reaches n (λ q. unmet (met q)) (alone f)

pub void : (n : ℕ) (f : Form) → is_void n f ≡ true → (w : List ℕ) → Has f w → ⊥
void n f e w h = none (met (after (alone f) w)) (always n (λ q. unmet (met q)) (alone f) e w).1 ((after-in 0 w (alone f)).1 (inl (refl, h)))
  where
    none : (l : List ℕ) → unmet l ≡ true → Some (λ j. j ≡ 0) l → ⊥
    none [] e h = h
    none (k ∷ l) e h = true≢false (sym e)

-- whether a text has a form can be tested
abbrev pub rests : Form → List ℕ → Form
rests f [] = f
rests f (b ∷ w) = rests (rest b f) w

pub tested : (w : List ℕ) (f : Form) → (nullable (rests f w) ≡ true) ↔ Has f w
tested [] f = null_has f
tested (b ∷ w) f = Iff.trans (tested w (rest b f)) (rest_has b f w)

-- no text has the one form and not the other
abbrev pub is_within : ℕ → Form → Form → Bool
is_within n f g = is_void n (f but g)

pub within : (n : ℕ) (f g : Form) → is_within n f g ≡ true → (w : List ℕ) → Has f w → Has g w
within n f g e w h =
    split (nullable (rests g w))
    (λ t. (tested w g).0 t)
    (λ t. absurd (void n (f but g) e w (h, λ k. true≢false (sym ((tested w g).1 k) ∙ t))))

abbrev pub is_equal : ℕ → Form → Form → Bool
is_equal n f g = is_within n f g && is_within n g f

pub equal : (n : ℕ) (f g : Form) → is_equal n f g ≡ true → (w : List ℕ) → Has f w ↔ Has g w
equal n f g e w = (within n f g (and_left (is_within n f g) (is_within n g f) e) w, within n g f (and_right (is_within n f g) (is_within n g f) e) w)
