-- Equivalences and tests, put together and taken apart. Assumes nothing.
use mathlib.Core.Path.{◌≡◌, refl, sym}
use mathlib.Core.Bool.{Bool, true, false, not, ◌&&◌, ◌||◌, beq, true≢false}
use mathlib.Core.List.{List, [], ◌∷◌}
use mathlib.Core.Logic.{◌↔◌, ◌⊎◌, inl, inr, ⊎_elim, ⊎_map}
use Rattle.keywords.proofs.Logic.{and_left, and_right, every}
use Rattle.grammar.specs.Longest.{Some}

pub and-iff : (a b : Bool) → (a && b ≡ true) ↔ ((a ≡ true) × (b ≡ true))
and-iff true b = (λ e. (refl, e), λ p. p.1)
and-iff false b = (λ e. (e, absurd (true≢false (sym e))), λ p. p.0)

pub or-iff : (a b : Bool) → (a || b ≡ true) ↔ ((a ≡ true) ⊎ (b ≡ true))
or-iff true b = (λ e. inl refl, λ p. refl)
or-iff false b = (inr, ⊎_elim (λ e. absurd (true≢false (sym e))) (λ e. e))

pub not_iff : (a : Bool) → (not a ≡ true) ↔ (a ≡ true → ⊥)
not_iff true = (λ e d. true≢false (sym e), λ n. absurd (n refl))
not_iff false = (λ e d. true≢false (sym d), λ n. refl)

pub beq-eq : (a b : Bool) → beq a b ≡ true → a ≡ b
beq-eq true true e = refl
beq-eq true false e = absurd (true≢false (sym e))
beq-eq false true e = absurd (true≢false (sym e))
beq-eq false false e = refl

pub both : {A B C D : Type 0} → A ↔ C → B ↔ D → (A × B) ↔ (C × D)
both p q = (λ h. (p.0 h.0, q.0 h.1), λ h. (p.1 h.0, q.1 h.1))

pub one_of : {A B C D : Type 0} → A ↔ C → B ↔ D → (A ⊎ B) ↔ (C ⊎ D)
one_of p q = (⊎_map p.0 q.0, ⊎_map p.1 q.1)

pub contrary : {A B : Type 0} → A ↔ B → (A → ⊥) ↔ (B → ⊥)
contrary p = (λ n b. n (p.1 b), λ n a. n (p.0 a))

pub no-left : {A B : Type 0} → (A → ⊥) → B ↔ (A ⊎ B)
no-left n = (inr, ⊎_elim (λ a. absurd (n a)) (λ b. b))

pub no-right : {A B : Type 0} → (B → ⊥) → A ↔ (A ⊎ B)
no-right n = (inl, ⊎_elim (λ a. a) (λ b. absurd (n b)))

-- if every entry passes a test and some entry has P, that entry has both
pub some-every : {A : Type 0} (p : A → Bool) (P : A → Type 0) (l : List A) → every p l ≡ true → Some P l → (x : A) × P x × (p x ≡ true)
some-every p P [] e h = absurd h
some-every p P (x ∷ l) e (inl h) = (x, h, and_left (p x) (every p l) e)
some-every p P (x ∷ l) e (inr h) = some-every p P l (and_right (p x) (every p l) e) h
