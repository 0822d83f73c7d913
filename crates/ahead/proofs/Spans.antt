-- How far an answer's span, and the offset that it leaves, lie from the end of the lexeme and of what it looks ahead. Assumes nothing.
use Prim.Native.Nat.{ℕ, ◌+◌, ◌-◌, ◌≤◌, ◌<◌, max}
use Prim.Native.Char.{code}
use native.Mathlib.Omega.{arith}
use mathlib.Core.Path.{◌≡◌, refl, ◌∙◌, ap, subst}
use mathlib.Core.List.{List, [], ◌∷◌}
use lib.Dec.{eqb, leb}
use lib.ListN.{length, take, length-append}
use lib.Seq.{length-take-le}
use borrow.Author.Tests.{leb-true}
use Rattle.keywords.proofs.Logic.{split}
use Rattle.grammar.specs.declared.profile.Profile.{Profile}
use Rattle.grammar.specs.declared.profile.Profile.TheVariants.{Turso, Sqlite}
use Rattle.grammar.specs.Form.{Set, D, H, no, byte, holds, Form, ◌·◌, lit, one_of, Single, Has}
use Rattle.grammar.specs.Classes.{Class, blank_run, line_comment, block_comment, operator, string, quoted_name, integer, float, blob, parameter}
use Rattle.grammar.specs.Classes.{word, illegal, unrecognized, bang, open_quote, open_blob, odd_blob, bad_parameter, underscore, word_after_integer}
use Rattle.grammar.specs.Classes.{word_after_fraction, no_exponent, word_after_exponent, no_hexdigit, underscore_after_x, hex_underscore, word_after_hex}
use Rattle.grammar.specs.Classes.{zero_x, ◌is◌, rules}
use Rattle.grammar.specs.Answers.{Answer, answer, first, after_last, init}
use Rattle.grammar.specs.Longest.{Stands, anywhere}
use Rattle.grammar.specs.Texts.{offset}
use Rattle.ahead.specs.Ahead.{look_ahead, span_end}
use Rattle.grammar.proofs.ClassLaws.{only, one-rule}
use Rattle.grammar.proofs.Lexemes
use Rattle.grammar.proofs.Theorems.{sound}
use Rattle.ahead.proofs.Each.{each-class}

-- No class looks ahead further than two bytes.
pub at_most_two : (p : Profile) (c : Class) → look_ahead p c ≤ 2
unfolding look_ahead
at_most_two Turso c = leb-true (look_ahead Turso c) 2 (each-class (λ c. leb (look_ahead Turso c) 2) refl c)
at_most_two Sqlite c = leb-true (look_ahead Sqlite c) 2 (each-class (λ c. leb (look_ahead Sqlite c) 2) refl c)

-- places in a text lie not behind its end
first-inside : (t : Set) (w : List ℕ) → first t w ≤ length w
first-inside t [] = omega arith
first-inside t (b ∷ w) = split (holds t b) (λ e. rw e (omega arith)) (λ e. rw e (omega (arith, first-inside t w)))

last-inside : (t : Set) (w : List ℕ) → after_last t w ≤ length w
last-inside t [] = omega arith
last-inside t (b ∷ w) =
    split (eqb (after_last t w) 0)
    (λ e. split (holds t b) (λ f. rw (e, f) (omega arith)) (λ f. rw (e, f) (omega arith)))
    (λ e. rw e (omega (arith, last-inside t w)))

init-length : (w : List ℕ) → length (init w) ≡ length w - 1
init-length w = length-take-le (length w - 1) w (omega arith)

-- A lexeme, l bytes from an offset on, and the bytes that it looks ahead end at most two behind a span; an offset lies not behind the
-- lexeme; and where it looks ahead at all, the span ends with it.
abbrev Places : (at l look spanned left : ℕ) → Type 0
Places at l look spanned left = (at + l + look ≤ spanned + 2) × (left ≤ at + l) × (0 < look → spanned ≡ at + l)

-- a span from a place of the lexeme on, with a length; the whole one; one through the lexeme's end, and one to before its last byte
refused : (at l look from n : ℕ) → l + look ≤ from + n + 2 → (0 < look → from + n ≡ l) → Places at l look (at + from + n) at
refused at l look from n h i = (omega arith, omega arith, λ some. omega (arith, i some))

whole : (at l look : ℕ) → look ≤ 2 → Places at l look (at + 0 + l) at
whole at l look h = refused at l look 0 l (omega arith) (λ some. omega arith)

to_end : (at l look from : ℕ) → look ≤ 2 → from ≤ l → Places at l look (at + from + (l - from)) at
to_end at l look from h i = refused at l look from (l - from) (omega arith) (λ some. omega arith)

to_last : (at : ℕ) (w : List ℕ) (from : ℕ) → Places at (length w) 0 (at + from + (length (init w) - from)) at
to_last at w from =
    refused at (length w) 0 from (length (init w) - from) (omega (arith, init-length w)) (λ some. absurd (omega arith))

-- and a token's
passed : (at l look : ℕ) → look ≤ 2 → Places at l look (at + l) (at + l)
passed at l look h = (omega arith, omega arith, λ some. refl)

-- such are those of an answer
abbrev Near : ℕ → ℕ → ℕ → Answer → Type 0
Near at l look a = Places at l look (span_end a) (offset a)

-- no lexeme is empty; and there are two classes whose span does not tell the lexeme's length
abbrev Long : Class → List ℕ → Type 0
Long c w = (0 < length w) × (c ≡ no_hexdigit → length w ≡ 2) × (c ≡ underscore_after_x → length w ≡ 3)

only-zero-x : (p : Profile) → (only no_hexdigit (anywhere (rules p)) ≡ (no_hexdigit is zero_x) ∷ [])
    × (only underscore_after_x (anywhere (rules p)) ≡ (underscore_after_x is zero_x · lit "_") ∷ [])
unfolding rules
only-zero-x Turso = (refl, refl)
only-zero-x Sqlite = (refl, refl)

one_byte : (t : Set) (w : List ℕ) → Single t w → length w ≡ 1
one_byte t [] h = absurd h
one_byte t (b ∷ []) h = refl
one_byte t (b ∷ c ∷ w) h = absurd h

zero-x : (w : List ℕ) → Has zero_x w → length w ≡ 2
zero-x w (u, v, e, (a, b, f, x, y), z) =
    let i = ap length e ∙ length-append u v in
    let j = ap length f ∙ length-append a b in
    omega (arith, one_byte (byte (code "0")) a x, ap length y, one_byte (one_of "xX") v z)

zero-x-then : (w : List ℕ) → Has (zero_x · lit "_") w → length w ≡ 3
zero-x-then w (u, v, e, x, (a, b, f, y, z)) =
    let i = ap length e ∙ length-append u v in
    let j = ap length f ∙ length-append a b in
    omega (arith, zero-x u x, one_byte (byte (code "_")) a y, ap length z)

module _ (p : Profile) where
  near : (c : Class) (at : ℕ) (w : List ℕ) → Long c w → Near at (length w) (look_ahead p c) (answer c at w)
  unfolding answer look_ahead
  near blank_run at w h = passed at (length w) (look_ahead p blank_run) (at_most_two p blank_run)
  near line_comment at w h = passed at (length w) (look_ahead p line_comment) (at_most_two p line_comment)
  near block_comment at w h = passed at (length w) (look_ahead p block_comment) (at_most_two p block_comment)
  near operator at w h = passed at (length w) (look_ahead p operator) (at_most_two p operator)
  near string at w h = passed at (length w) (look_ahead p string) (at_most_two p string)
  near quoted_name at w h = passed at (length w) (look_ahead p quoted_name) (at_most_two p quoted_name)
  near integer at w h = passed at (length w) (look_ahead p integer) (at_most_two p integer)
  near float at w h = passed at (length w) (look_ahead p float) (at_most_two p float)
  near blob at w h = passed at (length w) (look_ahead p blob) (at_most_two p blob)
  near parameter at w h = passed at (length w) (look_ahead p parameter) (at_most_two p parameter)
  near word at w h = passed at (length w) (look_ahead p word) (at_most_two p word)
  near illegal at w h = passed at (length w) (look_ahead p illegal) (at_most_two p illegal)
  near unrecognized at w h = passed at (length w) 1 (omega arith)
  near bang at w h = whole at (length w) 1 (omega arith)
  near open_quote at w h = whole at (length w) 1 (omega arith)
  near open_blob at w h = whole at (length w) 1 (omega arith)
  near odd_blob at w h = whole at (length w) 0 (omega arith)
  near bad_parameter at w h = whole at (length w) 2 (omega arith)
  near underscore at w h =
      to_end at (length w) 1 (max 1 (after_last (no D) (init w))) (omega arith) (omega (arith, h.0, last-inside (no D) (init w), init-length w))
  near word_after_integer at w h = to_last at w 0
  near word_after_fraction at w h = to_last at w (first (one_of ".") w)
  near no_exponent at w h = to_end at (length w) 1 (first (one_of "eE") w) (omega arith) (first-inside (one_of "eE") w)
  near word_after_exponent at w h = to_last at w (first (one_of "eE") w)
  near no_hexdigit at w h = refused at (length w) 1 0 2 (omega (arith, h.1 refl)) (λ some. omega (arith, h.1 refl))
  near underscore_after_x at w h = refused at (length w) 0 2 0 (omega (arith, h.2 refl)) (λ some. absurd (omega arith))
  near hex_underscore at w h =
      to_end at (length w) 1 (after_last (no H) (init w)) (omega arith) (omega (arith, last-inside (no H) (init w), init-length w))
  near word_after_hex at w h = to_last at w 0

  has-form : (c : Class) (f : Form) → only c (anywhere (rules p)) ≡ (c is f) ∷ [] → (s : List ℕ) (n : ℕ) → Stands (rules p) c s n → Has f (take n s)
  has-form c f e s n h = ((one-rule (anywhere (rules p)) c f e s n).0 (Lexemes.stands-anywhere (rules p) (sound p) c s n h)).1

  long : (c : Class) (s : List ℕ) (n : ℕ) → Stands (rules p) c s n → Long c (take n s)
  long c s n h = (
    omega (arith, length-take-le n s h.0, Lexemes.positive (rules p) (sound p) s c n h),
    λ e. zero-x (take n s) (has-form no_hexdigit zero_x (only-zero-x p).0 s n (subst (λ (c : Class). Stands (rules p) c s n) e h)),
    λ e. zero-x-then (take n s) (has-form underscore_after_x (zero_x · lit "_") (only-zero-x p).1 s n (subst (λ (c : Class). Stands (rules p) c s n) e h)),
  )

  -- of the first lexeme behind an offset
  pub span-near : (c : Class) (at : ℕ) (s : List ℕ) (n : ℕ) → Stands (rules p) c s n → Near at n (look_ahead p c) (answer c at (take n s))
  span-near c at s n h =
      subst (λ (l : ℕ). Near at l (look_ahead p c) (answer c at (take n s))) (length-take-le n s h.0) (near c at (take n s) (long c s n h))
