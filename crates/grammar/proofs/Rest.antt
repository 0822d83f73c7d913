-- Forms read a byte at a time: what is left of a form behind a byte (Brzozowski's derivatives). Assumes nothing.
use Prim.Native.Nat.{ℕ}
use mathlib.Core.Path.{◌≡◌, refl, sym, ◌∙◌, ap, subst}
use mathlib.Core.Bool.{Bool, true, false, not, cond, ◌&&◌, ◌||◌, true≢false}
use mathlib.Core.List.{List, [], ◌∷◌, ◌++◌, nil≢cons, cons≢nil, head-eq_of_cons-eq, tail-eq_of_cons-eq}
use mathlib.Core.Logic.Iff
use mathlib.Core.Logic.{◌↔◌, ◌⊎◌, inl, inr}
use Rattle.keywords.proofs.Logic.{split}
use Rattle.grammar.proofs.Equivalences.{and-iff, or-iff, not_iff, both, one_of, contrary, no-left, no-right}
use Rattle.grammar.specs.Form.{Set, holds, Form, never, empty, anything, one, ◌·◌, ◌∣◌, ◌but◌, many, Single, Many, stop, more, Has}

-- the empty text has the form
abbrev pub nullable : Form → Bool
nullable never = false
nullable empty = true
nullable anything = true
nullable (one s) = false
nullable (f · g) = nullable f && nullable g
nullable (f ∣ g) = nullable f || nullable g
nullable (f but g) = nullable f && not (nullable g)
nullable (many f) = true

pub data View : Form → Type 0 where
  is_never : View never
  is_empty : View empty
  is_anything : View anything
  other : (f : Form) → View f

abbrev pub view : (f : Form) → View f
view never = is_never
view empty = is_empty
view anything = is_anything
view (one s) = other (one s)
view (f · g) = other (f · g)
view (f ∣ g) = other (f ∣ g)
view (f but g) = other (f but g)
view (many f) = other (many f)

-- f · g, f ∣ g and f but g, written without `never` and the like, so that the same rest is written the same
abbrev pub join : {f : Form} → View f → Form → Form
join is_never g = never
join is_empty g = g
join is_anything g = anything · g
join (other f) g = f · g

abbrev or_else : Form → {g : Form} → View g → Form
or_else f is_never = f
or_else f is_empty = f ∣ empty
or_else f is_anything = anything
or_else f (other g) = f ∣ g

abbrev pub either : {f : Form} → View f → Form → Form
either is_never g = g
either is_empty g = or_else empty (view g)
either is_anything g = anything
either (other f) g = or_else f (view g)

abbrev minus : Form → {g : Form} → View g → Form
minus f is_never = f
minus f is_empty = f but empty
minus f is_anything = never
minus f (other g) = f but g

abbrev pub less : {f : Form} → View f → Form → Form
less is_never g = never
less is_empty g = cond (nullable g) never empty
less is_anything g = minus anything (view g)
less (other f) g = minus f (view g)

-- the form of what may stand behind b (what a `let` binds is computed only where it is read)
abbrev pub rest : ℕ → Form → Form
rest b never = never
rest b empty = never
rest b anything = anything
rest b (one s) = cond (holds s b) empty never
rest b (f · g) = let r = either (view (join (view (rest b f)) g)) (rest b g) in cond (nullable f) r (join (view (rest b f)) g)
rest b (f ∣ g) = either (view (rest b f)) (rest b g)
rest b (f but g) = less (view (rest b f)) (rest b g)
rest b (many f) = join (view (rest b f)) (many f)

join-has : {f : Form} (v : View f) (g : Form) (w : List ℕ) → Has (join v g) w ↔ Has (f · g) w
join-has is_never g w = (λ h. absurd h, λ h. h.3)
join-has is_empty g w = (λ h. ([], w, refl, refl, h), λ h. subst (Has g) (sym (h.2 ∙ ap (λ (u : List ℕ). u ++ h.1) h.3)) h.4)
join-has is_anything g w = Iff.rfl
join-has (other f) g w = Iff.rfl

or_else-has : (f : Form) {g : Form} (v : View g) (w : List ℕ) → Has (or_else f v) w ↔ (Has f w ⊎ Has g w)
or_else-has f is_never w = no-right (λ h. h)
or_else-has f is_empty w = Iff.rfl
or_else-has f is_anything w = (inr, λ h. tt)
or_else-has f (other g) w = Iff.rfl

either-has : {f : Form} (v : View f) (g : Form) (w : List ℕ) → Has (either v g) w ↔ (Has f w ⊎ Has g w)
either-has is_never g w = no-left (λ h. h)
either-has is_empty g w = or_else-has empty (view g) w
either-has is_anything g w = (inl, λ h. tt)
either-has (other f) g w = or_else-has f (view g) w

minus-has : (f : Form) {g : Form} (v : View g) (w : List ℕ) → Has (minus f v) w ↔ (Has f w × (Has g w → ⊥))
minus-has f is_never w = (λ h. (h, λ n. n), λ h. h.0)
minus-has f is_empty w = Iff.rfl
minus-has f is_anything w = (λ h. absurd h, λ h. h.1 tt)
minus-has f (other g) w = Iff.rfl

-- both parts of an empty text are empty
empty-parts : (u v : List ℕ) → [] ≡ u ++ v → (u ≡ []) × (v ≡ [])
empty-parts [] v e = (refl, sym e)
empty-parts (x ∷ u) v e = absurd (nil≢cons e)

no_test : {A : Type 0} → (A → ⊥) → (false ≡ true) ↔ A
no_test n = (λ e. absurd (true≢false (sym e)), λ a. absurd (n a))

pub null_has : (f : Form) → (nullable f ≡ true) ↔ Has f []
null_has never = no_test (λ h. h)
null_has empty = (λ e. refl, λ h. refl)
null_has anything = (λ e. tt, λ h. refl)
null_has (one s) = no_test (λ h. h)
null_has (f · g) = Iff.trans (and-iff (nullable f) (nullable g)) (Iff.trans (both (null_has f) (null_has g)) parts)
  where
    parts : (Has f [] × Has g []) ↔ Has (f · g) []
    parts = (
      λ h. ([], [], refl, h.0, h.1),
      λ h. let e = empty-parts h.0 h.1 h.2 in (subst (Has f) e.0 h.3, subst (Has g) e.1 h.4),
    )
null_has (f ∣ g) = Iff.trans (or-iff (nullable f) (nullable g)) (one_of (null_has f) (null_has g))
null_has (f but g) =
    Iff.trans (and-iff (nullable f) (not (nullable g)))
    (both (null_has f) (Iff.trans (not_iff (nullable g)) (contrary (null_has g))))
null_has (many f) = (λ e. stop, λ h. refl)

less-has : {f : Form} (v : View f) (g : Form) (w : List ℕ) → Has (less v g) w ↔ (Has f w × (Has g w → ⊥))
less-has is_never g w = (λ h. absurd h, λ h. h.0)
less-has is_empty g w =
    split (nullable g)
    (λ e. rw e (λ h. absurd h, λ h. h.1 (subst (Has g) (sym h.0) ((null_has g).0 e))))
    (λ e. let n = e in rw e (λ h. (h, λ k. true≢false (sym ((null_has g).1 (subst (Has g) h k)) ∙ n)), λ h. h.0))
less-has is_anything g w = minus-has anything (view g) w
less-has (other f) g w = minus-has f (view g) w

-- w in two parts, the first of which has the form f with b before it
abbrev After : ℕ → Form → (List ℕ → Type 0) → List ℕ → Type 0
After b f Q w = (u : List ℕ) × (v : List ℕ) × (w ≡ u ++ v) × Has f (b ∷ u) × Q v

join-after : (b : ℕ) (f r g : Form) → ((u : List ℕ) → Has r u ↔ Has f (b ∷ u)) → (w : List ℕ) → Has (join (view r) g) w ↔ After b f (Has g) w
join-after b f r g k w =
    Iff.trans (join-has (view r) g w)
    (λ h. (h.0, h.1, h.2, (k h.0).0 h.3, h.4), λ h. (h.0, h.1, h.2, (k h.0).1 h.3, h.4))

-- of two parts the first takes the first byte, or it is empty
seq-first : (f g : Form) (b : ℕ) (w : List ℕ) → (After b f (Has g) w ⊎ (Has f [] × Has g (b ∷ w))) ↔ Has (f · g) (b ∷ w)
seq-first f g b w = (make, take)
  where
    make : After b f (Has g) w ⊎ (Has f [] × Has g (b ∷ w)) → Has (f · g) (b ∷ w)
    make (inl (u, v, e, p, q)) = (b ∷ u, v, ap (λ (t : List ℕ). b ∷ t) e, p, q)
    make (inr (p, q)) = ([], b ∷ w, refl, p, q)

    take : Has (f · g) (b ∷ w) → After b f (Has g) w ⊎ (Has f [] × Has g (b ∷ w))
    take ([], v, e, p, q) = inr (p, subst (Has g) (sym e) q)
    take (c ∷ u, v, e, p, q) = inl (u, v, tail-eq_of_cons-eq e, subst (λ (x : ℕ). Has f (x ∷ u)) (sym (head-eq_of_cons-eq e)) p, q)

-- of many pieces the first that is not empty takes it
many-first : (f : Form) (b : ℕ) (w : List ℕ) → After b f (Has (many f)) w ↔ Has (many f) (b ∷ w)
many-first f b w = (λ h. more {u = b ∷ h.0} {v = h.1} (ap (λ (t : List ℕ). b ∷ t) h.2) h.3 h.4, λ m. take (b ∷ w) m refl)
  where
    take : (t : List ℕ) → Many (Has f) t → t ≡ b ∷ w → After b f (Has (many f)) w
    take t stop e = absurd (nil≢cons e)
    take t (more {u = []} {v = v} d p m) e = take v m (sym d ∙ e)
    take t (more {u = c ∷ u} {v = v} d p m) e =
        (u, v, sym (tail-eq_of_cons-eq (sym d ∙ e)), subst (λ (x : ℕ). Has f (x ∷ u)) (head-eq_of_cons-eq (sym d ∙ e)) p, m)

single : (s : Set) (b : ℕ) (w : List ℕ) → Has (cond (holds s b) empty never) w ↔ Single s (b ∷ w)
single s b [] = split (holds s b) (λ e. rw e (λ h. refl, λ h. refl)) (λ e. rw e (λ h. absurd h, λ h. true≢false (sym h)))
single s b (c ∷ w) = split (holds s b) (λ e. rw e (λ h. cons≢nil h, λ h. absurd h)) (λ e. rw e Iff.rfl)

seq-rest : (b : ℕ) (f g : Form) (w : List ℕ) → ((u : List ℕ) → Has (rest b f) u ↔ Has f (b ∷ u)) → Has (rest b g) w ↔ Has g (b ∷ w)
    → Has (rest b (f · g)) w ↔ Has (f · g) (b ∷ w)
seq-rest b f g w left right =
    split (nullable f)
    (λ e. rw e (Iff.trans (either-has (view (join (view (rest b f)) g)) (rest b g) w) (Iff.trans (one_of tail (head ((null_has f).0 e))) (seq-first f g b w))))
    (λ e. rw e (Iff.trans tail (Iff.trans (no-right (λ h. true≢false (sym ((null_has f).1 h.0) ∙ e))) (seq-first f g b w))))
  where
    tail : Has (join (view (rest b f)) g) w ↔ After b f (Has g) w
    tail = join-after b f (rest b f) g left w

    head : Has f [] → Has (rest b g) w ↔ (Has f [] × Has g (b ∷ w))
    head p = (λ h. (p, right.0 h), λ h. right.1 h.1)

pub rest_has : (b : ℕ) (f : Form) (w : List ℕ) → Has (rest b f) w ↔ Has f (b ∷ w)
rest_has b never w = Iff.rfl
rest_has b empty w = (λ h. absurd h, λ h. cons≢nil h)
rest_has b anything w = Iff.rfl
rest_has b (one s) w = single s b w
rest_has b (f · g) w = seq-rest b f g w (rest_has b f) (rest_has b g w)
rest_has b (f ∣ g) w = Iff.trans (either-has (view (rest b f)) (rest b g) w) (one_of (rest_has b f w) (rest_has b g w))
rest_has b (f but g) w = Iff.trans (less-has (view (rest b f)) (rest b g) w) (both (rest_has b f w) (contrary (rest_has b g w)))
rest_has b (many f) w = Iff.trans (join-after b f (rest b f) (many f) (rest_has b f) w) (many-first f b w)
