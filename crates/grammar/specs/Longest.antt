-- Which openings of a text stand in a class, which is the longest, and what Next gives. Assumes nothing.
use Rattle.std.specs.Prelude.{ℕ, ◌≤◌, ◌<◌, ◌≡◌, true, List, [], ◌∷◌, map, ◌⊎◌, length, take, drop}
use Rattle.grammar.specs.Form.{Set, holds, Form, Has}
use Rattle.grammar.specs.declared.profile.Profile.{Profile}
use Rattle.grammar.specs.Classes.{Class, Rule, ◌is◌, rules}
use Rattle.grammar.specs.Answers.{Answer, end, past_end, answer}

-- some entry of the list
abbrev pub Some : {A : Type 0} → (A → Type 0) → List A → Type 0
Some P [] = ⊥
Some P (x ∷ l) = P x ⊎ Some P l

-- all entries of the list
abbrev pub Every : {A : Type 0} → (A → Type 0) → List A → Type 0
Every P [] = Unit {0}
Every P (x ∷ l) = P x × Every P l

-- the text is at its end, or its next byte is in the set
abbrev pub Follows : Set → List ℕ → Type 0
Follows t [] = Unit {0}
Follows t (b ∷ s) = holds t b ≡ true

-- the first n bytes of s stand in class c: they have the form of one of its rules, and what follows them is as that rule says
abbrev pub Stands : List Rule → Class → List ℕ → ℕ → Type 0
Stands rs c s n = (n ≤ length s) × Some (λ r. (r.class ≡ c) × Has r.form (take n s) × Follows r.next (drop n s)) rs

-- the first n bytes of s have the form
abbrev pub Opens : Form → List ℕ → ℕ → Type 0
Opens f s n = (n ≤ length s) × Has f (take n s)

-- the rules with nothing said of what follows
abbrev pub anywhere : List Rule → List Rule
anywhere rs = map (λ r. r.class is r.form) rs

-- the first n bytes of s stand in c; no more bytes than these stand in any class; and these stand in no other
pub record Longest (rs : List Rule) (s : List ℕ) (c : Class) (n : ℕ) : Type 0 where
  pub stands : Stands rs c s n
  pub longest : (d : Class) (m : ℕ) → Stands rs d s m → m ≤ n
  pub alone : (d : Class) → Stands rs d s n → d ≡ c

-- the longest lexeme of s gives this answer at an offset
abbrev pub Lexeme : List Rule → List ℕ → ℕ → Answer → Type 0
Lexeme rs s at a = (c : Class) × (n : ℕ) × Longest rs s c n × (a ≡ answer c at (take n s))

-- Next: past the end a refusal, at the end End, else what the longest lexeme gives
abbrev pub Gives : List Rule → List ℕ → ℕ → Answer → Type 0
Gives rs s at a =
    ((length s < at) × (a ≡ past_end at)) ⊎
    ((at ≡ length s) × (a ≡ end at)) ⊎
    ((at < length s) × Lexeme rs (drop at s) at a)

-- a text, and the profile under which it is lexed
pub record Source : Type 0 where
  pub profile : Profile
  pub text : List ℕ

abbrev pub source : Profile → List ℕ → Source
source p s = record { profile = p; text = s }

-- Next there
abbrev pub Next : Source → ℕ → Answer → Type 0
Next s at a = Gives (rules s.profile) s.text at a
