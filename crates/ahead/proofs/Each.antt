-- A test of each class. Assumes nothing.
use Prim.Native.Nat.{ℕ, zero, suc}
use mathlib.Core.Path.{◌≡◌, refl, sym, ◌∙◌, ap, subst}
use mathlib.Core.Bool.{Bool, true}
use mathlib.Core.List.{List, [], ◌∷◌}
use lib.Dec.{eqb}
use lib.ListN.{get_or}
use borrow.Author.Tests.{eqb-true}
use Rattle.keywords.proofs.Logic.{and_left, and_right, every}
use Rattle.grammar.specs.Classes.{Class, blank_run, line_comment, block_comment, operator, string, quoted_name, integer, float, blob, parameter}
use Rattle.grammar.specs.Classes.{word, illegal, unrecognized, bang, open_quote, open_blob, odd_blob, bad_parameter, underscore, word_after_integer}
use Rattle.grammar.specs.Classes.{word_after_fraction, no_exponent, word_after_exponent, no_hexdigit, underscore_after_x, hex_underscore, word_after_hex}
use Rattle.grammar.proofs.ClassLaws.{number}

-- a test that passes at every entry of a list and where there is none passes at each place
pub each_at : {A : Type 0} (test : A → Bool) (l : List A) (d : A) (k : ℕ) → test d ≡ true → every test l ≡ true → test (get_or l k d) ≡ true
each_at test [] d k t e = t
each_at test (x ∷ l) d zero t e = and_left (test x) (every test l) e
each_at test (x ∷ l) d (suc k) t e = each_at test l d k t (and_right (test x) (every test l) e)

-- all classes, in document 01's order
abbrev pub classes : List Class
classes =
    blank_run ∷ line_comment ∷ block_comment ∷ operator ∷ string ∷ quoted_name ∷ integer ∷ float ∷ blob ∷ parameter ∷ word ∷ illegal ∷
    unrecognized ∷ bang ∷ open_quote ∷ open_blob ∷ odd_blob ∷ bad_parameter ∷ underscore ∷ word_after_integer ∷ word_after_fraction ∷ no_exponent ∷
    word_after_exponent ∷ no_hexdigit ∷ underscore_after_x ∷ hex_underscore ∷ word_after_hex ∷ []

at-number : (c : Class) → get_or classes (number c) blank_run ≡ c
at-number blank_run = refl
at-number line_comment = refl
at-number block_comment = refl
at-number operator = refl
at-number string = refl
at-number quoted_name = refl
at-number integer = refl
at-number float = refl
at-number blob = refl
at-number parameter = refl
at-number word = refl
at-number illegal = refl
at-number unrecognized = refl
at-number bang = refl
at-number open_quote = refl
at-number open_blob = refl
at-number odd_blob = refl
at-number bad_parameter = refl
at-number underscore = refl
at-number word_after_integer = refl
at-number word_after_fraction = refl
at-number no_exponent = refl
at-number word_after_exponent = refl
at-number no_hexdigit = refl
at-number underscore_after_x = refl
at-number hex_underscore = refl
at-number word_after_hex = refl

pub same_number : (c d : Class) → eqb (number c) (number d) ≡ true → c ≡ d
same_number c d e = sym (at-number c) ∙ ap (λ (k : ℕ). get_or classes k blank_run) (eqb-true (number c) (number d) e) ∙ at-number d

-- a test that passes at every entry of that list passes at each class
pub each-class : (test : Class → Bool) → every test classes ≡ true → (c : Class) → test c ≡ true
each-class test e c =
    subst (λ (c : Class). test c ≡ true) (at-number c) (each_at test classes blank_run (number c) (and_left (test blank_run) _ e) e)
