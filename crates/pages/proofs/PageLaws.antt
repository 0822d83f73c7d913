-- How the classes relate to SQLite's pages under each profile: what is the same under both, what only request 7's has, and what neither has.
-- Assumes nothing.
use Prim.Native.Nat.{ℕ, suc}
use mathlib.Core.Path.{◌≡◌, refl}
use mathlib.Core.Bool.{true, ◌&&◌}
use mathlib.Core.List.{List, [], ◌∷◌}
use mathlib.Core.Logic.Iff
use mathlib.Core.Logic.{◌↔◌, ◌⊎◌, inl, inr}
use lib.ListN.{take}
use Rattle.keywords.proofs.Logic.{and_left, and_right}
use Rattle.words.specs.Bytes.{is_digit, is_hexdigit, is_identifier_start, is_identifier_continue, is_blank}
use Rattle.grammar.specs.declared.profile.Profile.{Profile}
use Rattle.grammar.specs.declared.profile.Profile.TheVariants.{Turso, Sqlite}
use Rattle.grammar.specs.Form.{none, Form, never, anything, ◌·◌, ◌∣◌, ◌but◌, Has, lit}
use Rattle.grammar.specs.Classes.{Class, line_comment, block_comment, operator, string, quoted_name, integer, float, blob, parameter, odd_blob}
use Rattle.grammar.specs.Classes.{◌is◌, ◌is◌before◌, by, operators, rules}
use Rattle.grammar.specs.Longest.{Stands, Opens}
use Rattle.pages.specs.Pages
use Rattle.grammar.proofs.Equivalences.{both, one_of}
use Rattle.grammar.proofs.Rest.{rest, rest_has}
use Rattle.grammar.proofs.States.{rule_at}
use Rattle.grammar.proofs.Equal.{is_equal, void, within, equal}
use Rattle.grammar.proofs.ClassLaws.{only, one-rule, or-at-end}

-- the form of a class's i-th rule, from 0, and of its first
abbrev form_at : Profile → Class → ℕ → Form
form_at π c i = (rule_at (only c (rules π)) i).form

abbrev form_of : Profile → Class → Form
form_of π c = form_at π c 0

-- following so many states finds them all in each comparison below
abbrev enough : ℕ
enough = 60

-- the class has one rule, with this form, which says nothing of what follows
abbrev OneRule : Profile → Class → Form → Type 0
OneRule π c g = only c (rules π) ≡ (c is g) ∷ []

opens : (f g : Form) → ((w : List ℕ) → Has f w ↔ Has g w) → (s : List ℕ) (n : ℕ) → Opens f s n ↔ Opens g s n
opens f g e s n = both Iff.rfl (e (take n s))

same : (π : Profile) (c : Class) (g f : Form) → OneRule π c g → is_equal enough g f ≡ true → Pages.Same (rules π) c f
same π c g f r e s n = Iff.trans (one-rule (rules π) c g r s n) (opens g f (equal enough g f e) s n)

-- where the rule is the same under both profiles, the forms are compared once
same-both : (c : Class) (f : Form) → ((π : Profile) → OneRule π c (form_of Turso c)) → is_equal enough (form_of Turso c) f ≡ true
    → (π : Profile) → Pages.Same (rules π) c f
same-both c f r e π = same π c (form_of Turso c) f (r π) e

-- A string is the page's string literal.
string-rule : (π : Profile) → OneRule π string (form_of Turso string)
unfolding rules
string-rule Turso = refl
string-rule Sqlite = refl

pub string-page : (π : Profile) → Pages.Same (rules π) string Pages.string
unfolding rules
string-page = same-both string Pages.string string-rule refl

-- Blobs, and blobs with an odd number of digits, which are refused, are together the page's BLOB literals.
blob-rule : (π : Profile) → OneRule π blob (form_of Turso blob) × OneRule π odd_blob (form_of Turso odd_blob)
unfolding rules
blob-rule Turso = (refl, refl)
blob-rule Sqlite = (refl, refl)

either : (f g : Form) (s : List ℕ) (n : ℕ) → (Opens f s n ⊎ Opens g s n) ↔ Opens (f ∣ g) s n
either f g s n = (make, take)
  where
    make : Opens f s n ⊎ Opens g s n → Opens (f ∣ g) s n
    make (inl (l, h)) = (l, inl h)
    make (inr (l, h)) = (l, inr h)

    take : Opens (f ∣ g) s n → Opens f s n ⊎ Opens g s n
    take (l, inl h) = inl (l, h)
    take (l, inr h) = inr (l, h)

pub blob-page : (π : Profile) (s : List ℕ) (n : ℕ) → (Stands (rules π) blob s n ⊎ Stands (rules π) odd_blob s n) ↔ Opens Pages.blob s n
unfolding rules is_digit is_hexdigit
blob-page π s n =
    let f = form_of Turso blob in
    let g = form_of Turso odd_blob in
    Iff.trans (one_of (one-rule (rules π) blob f (blob-rule π).0 s n) (one-rule (rules π) odd_blob g (blob-rule π).1 s n))
    (Iff.trans (either f g s n) (opens (f ∣ g) Pages.blob (equal enough (f ∣ g) Pages.blob refl) s n))

without-underscore : (π : Profile) (c : Class) (g f : Form) → OneRule π c g → is_equal enough (g but anything · lit "_" · anything) f ≡ true
    → Pages.SameWithoutUnderscore (rules π) c f
without-underscore π c g f r e s n =
    Iff.trans (both (one-rule (rules π) c g r s n) Iff.rfl)
    (Iff.trans (λ h. (h.0.0, (h.0.1, h.1.1)), λ h. ((h.0, h.1.0), (tt, h.1.1)))
    (opens (g but anything · lit "_" · anything) f (equal enough (g but anything · lit "_" · anything) f e) s n))

-- Integers and floats without `_` are the numeric literals of the page's diagram, integer and floating point ones.
integer-rule : (π : Profile) → OneRule π integer (form_of Turso integer)
unfolding rules
integer-rule Turso = refl
integer-rule Sqlite = refl

pub integer-page : (π : Profile) → Pages.SameWithoutUnderscore (rules π) integer Pages.integer
unfolding rules is_digit is_hexdigit
integer-page π = without-underscore π integer (form_of Turso integer) Pages.integer (integer-rule π) refl

pub float-page : (π : Profile) → Pages.SameWithoutUnderscore (rules π) float Pages.floating_point
unfolding rules is_digit is_hexdigit
float-page Turso = without-underscore Turso float (form_of Turso float) Pages.floating_point refl refl
float-page Sqlite = without-underscore Sqlite float (form_of Sqlite float) Pages.floating_point refl refl

-- Under Sqlite a `_` of a float stands between two digits; document 01 has `1e_5`.
pub no-loose-underscore : (s : List ℕ) (n : ℕ) → Stands (rules Sqlite) float s n → Has Pages.loose_underscore (take n s) → ⊥
unfolding rules is_digit
no-loose-underscore s n h k =
    let f = form_of Sqlite float in
    let form = ((one-rule (rules Sqlite) float f refl s n).0 h).1 in
    void enough (f but (anything but Pages.loose_underscore)) refl (take n s) (form, λ m. m.1 k)

-- a class of two rules: the second lets only the end follow
abbrev OrAtEnd : Profile → Class → Form → Form → Type 0
OrAtEnd π c x y = only c (rules π) ≡ (c is x) ∷ (c is y before none) ∷ []

to_end : (c : Class) (f g : Form) → ((π : Profile) → OrAtEnd π c (form_at Turso c 0) (form_at Turso c 1))
    → is_equal enough (form_at Turso c 0) f && is_equal enough (form_at Turso c 1) g ≡ true → (π : Profile) → Pages.SameOrToEnd (rules π) c f g
to_end c f g r e π s n =
    let x = form_at Turso c 0 in
    let y = form_at Turso c 1 in
    let a = is_equal enough x f in
    let b = is_equal enough y g in
    Iff.trans (or-at-end (rules π) c x y (r π) s n)
    (one_of (opens x f (equal enough x f (and_left a b e)) s n) (both (opens y g (equal enough y g (and_right a b e)) s n) Iff.rfl))

-- Comments are the page's.
comment-rules : (π : Profile)
    → OrAtEnd π line_comment (form_at Turso line_comment 0) (form_at Turso line_comment 1) × OrAtEnd π block_comment (form_at Turso block_comment 0) (form_at Turso block_comment 1)
unfolding rules
comment-rules Turso = (refl, refl)
comment-rules Sqlite = (refl, refl)

pub line-comment-page : (π : Profile) → Pages.SameOrToEnd (rules π) line_comment Pages.line_comment Pages.line_to_end
unfolding rules
line-comment-page = to_end line_comment Pages.line_comment Pages.line_to_end (λ π. (comment-rules π).0) refl

pub block-comment-page : (π : Profile) → Pages.SameOrToEnd (rules π) block_comment Pages.block_comment Pages.block_to_end
unfolding rules
block-comment-page = to_end block_comment Pages.block_comment Pages.block_to_end (λ π. (comment-rules π).1) refl

-- Parameters are the page's but for some suffixes, and others that the page does not have.
pub parameter-page : (π : Profile) → Pages.Same (rules π) parameter (Pages.parameter but Pages.other_suffix ∣ Pages.added π)
unfolding rules is_digit is_identifier_start is_identifier_continue is_blank
parameter-page Turso = same Turso parameter (form_of Turso parameter) (Pages.parameter but Pages.other_suffix ∣ Pages.added Turso) refl refl
parameter-page Sqlite = same Sqlite parameter (form_of Sqlite parameter) (Pages.parameter but Pages.other_suffix ∣ Pages.added Sqlite) refl refl

pub left_out : (w : List ℕ) → Has Pages.other_suffix w → Has Pages.parameter w
unfolding is_digit is_identifier_start is_identifier_continue is_blank
left_out = within enough Pages.other_suffix Pages.parameter refl

pub not-on-page : (π : Profile) (w : List ℕ) → Has (Pages.added π) w → Has Pages.parameter w → ⊥
unfolding is_digit is_identifier_start is_identifier_continue is_blank
not-on-page Turso w h k = void enough (Pages.added Turso but (anything but Pages.parameter)) refl w (h, λ n. n.1 k)
not-on-page Sqlite w h k = void enough (Pages.added Sqlite but (anything but Pages.parameter)) refl w (h, λ n. n.1 k)

-- 'An "at" sign works exactly like a colon': under Sqlite. (Document 01 has `@2` and not `:2`.)
pub at-like-colon : (s : List ℕ) (n : ℕ) → Stands (rules Sqlite) parameter (64 ∷ s) (suc n) ↔ Stands (rules Sqlite) parameter (58 ∷ s) (suc n)
unfolding rules is_digit is_identifier_start is_identifier_continue is_blank
at-like-colon s n =
    let f = form_of Sqlite parameter in
    let opening = one-rule (rules Sqlite) parameter f refl in
    let behind = equal enough (rest 64 f) (rest 58 f) refl (take n s) in
    let whole = Iff.trans (Iff.symm (rest_has 64 f (take n s))) (Iff.trans behind (rest_has 58 f (take n s))) in
    Iff.trans (opening (64 ∷ s) (suc n)) (Iff.trans (both Iff.rfl whole) (Iff.symm (opening (58 ∷ s) (suc n))))

-- Quoted names are the page's, those in square brackets under Sqlite alone.
pub quoted-name-page : (π : Profile) → Pages.Same (rules π) quoted_name (Pages.in_double_quotes ∣ Pages.in_grave_accents ∣ by π never Pages.in_square_brackets)
unfolding rules
quoted-name-page Turso = same Turso quoted_name (form_of Turso quoted_name) (Pages.in_double_quotes ∣ Pages.in_grave_accents ∣ never) refl refl
quoted-name-page Sqlite = same Sqlite quoted_name (form_of Sqlite quoted_name) (Pages.in_double_quotes ∣ Pages.in_grave_accents ∣ Pages.in_square_brackets) refl refl

-- Operators are the page's and its diagrams' marks, and under Sqlite `]` alone besides.
pub operator-page : (π : Profile) → Pages.Same (rules π) operator (Pages.operators ∣ Pages.marks ∣ Pages.not_on_page π)
unfolding rules operators
operator-page Turso = same Turso operator (form_of Turso operator) (Pages.operators ∣ Pages.marks ∣ Pages.not_on_page Turso) refl refl
operator-page Sqlite = same Sqlite operator (form_of Sqlite operator) (Pages.operators ∣ Pages.marks ∣ Pages.not_on_page Sqlite) refl refl
