-- The theorems on document 01's classes. Assumes nothing.
use Prim.Native.Nat.{ℕ, ◌≤◌, ◌<◌, zero-le, suc-le-suc}
use mathlib.Core.Path.{◌≡◌, refl}
use mathlib.Core.List.{List, ◌∷◌, ◌++◌}
use mathlib.Core.Logic.{◌↔◌}
use Rattle.words.specs.Bytes.{is_digit, is_hexdigit, is_identifier_start, is_identifier_continue, is_blank}
use Rattle.grammar.specs.declared.profile.Profile.{Profile}
use Rattle.grammar.specs.declared.profile.Profile.TheVariants.{Turso, Sqlite}
use Rattle.grammar.specs.Classes.{Class, operators, rules}
use Rattle.grammar.specs.Answers.{Answer}
use Rattle.grammar.specs.Longest.{Stands, Longest, anywhere, Gives}
use Rattle.grammar.proofs.Model.{next}
use Rattle.grammar.proofs.Unique.{longest-unique, gives-unique}
use Rattle.grammar.proofs.Lexemes

-- The computed test of all rules together, of each profile.
sound-turso : Lexemes.Sound (rules Turso)
unfolding rules operators is_digit is_hexdigit is_identifier_start is_identifier_continue is_blank
sound-turso = record { limit = 100; states = refl; next = refl; empty = refl; bytes = refl }

sound-sqlite : Lexemes.Sound (rules Sqlite)
unfolding rules operators is_digit is_hexdigit is_identifier_start is_identifier_continue is_blank
sound-sqlite = record { limit = 100; states = refl; next = refl; empty = refl; bytes = refl }

pub sound : (p : Profile) → Lexemes.Sound (rules p)
sound Turso = sound-turso
sound Sqlite = sound-sqlite

module _ (p : Profile) where
  -- Every text that is not empty has a longest lexeme, which is not empty.
  pub exists : (b : ℕ) (s : List ℕ) → (c : Class) × (n : ℕ) × (0 < n) × Longest (rules p) (b ∷ s) c n
  exists b s =
      let (c, n, l, e) = Lexemes.lexeme-given (rules p) (sound p) (b ∷ s) 0 (suc-le-suc zero-le) in
      (c, n, Lexemes.positive (rules p) (sound p) (b ∷ s) c n l.stands, l)

  -- It is one, and stands in one class.
  pub unique : (s : List ℕ) (c d : Class) (n m : ℕ) → Longest (rules p) s c n → Longest (rules p) s d m → (c ≡ d) × (n ≡ m)
  unique s c d n m = longest-unique

  -- Next gives exactly one answer on every text and offset.
  pub gives_one : (s : List ℕ) (at : ℕ) → (a : Answer) × Gives (rules p) s at a × ((b : Answer) → Gives (rules p) s at b → b ≡ a)
  gives_one s at =
      let g = Lexemes.next-gives (rules p) (sound p) s at in
      (next (rules p) s at, g, λ b h. gives-unique (rules p) s at b (next (rules p) s at) h g)

  -- No two classes have a text in common, whatever follows it.
  pub one_class : (s : List ℕ) (n : ℕ) (c d : Class) → Stands (anywhere (rules p)) c s n → Stands (anywhere (rules p)) d s n → c ≡ d
  one_class = Lexemes.classes-apart (rules p) (sound p)

  -- The conditions on what follows make no difference to the longest lexeme.
  pub look-ahead : (s : List ℕ) (c : Class) (n : ℕ) → Longest (rules p) s c n ↔ Longest (anywhere (rules p)) s c n
  look-ahead = Lexemes.look-ahead (rules p) (sound p)

  -- The longest lexeme does not shrink when bytes are added behind the text.
  pub grows : (s t : List ℕ) (c d : Class) (n m : ℕ) → Longest (rules p) s c n → Longest (rules p) (s ++ t) d m → n ≤ m
  grows = Lexemes.grows (rules p) (sound p)
