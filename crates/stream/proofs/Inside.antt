-- What Next gives for a text at its beginning lies inside the text. Assumes nothing.
use Prim.Native.Nat.{ℕ, ◌+◌, ◌-◌, ◌≤◌, ◌<◌}
use Prim.Native.Char.{code}
use native.Mathlib.Omega.{arith}
use mathlib.Core.Path.{◌≡◌, refl, ◌∙◌, ap, subst}
use mathlib.Core.List.{List, [], ◌∷◌}
use mathlib.Core.Logic.{inl, inr}
use lib.ListN.{length, take, length-append}
use lib.Seq.{length-take-le}
use Rattle.keywords.proofs.Logic.{split}
use Rattle.grammar.specs.declared.profile.Profile.{Profile}
use Rattle.grammar.specs.declared.profile.Profile.TheVariants.{Turso, Sqlite}
use Rattle.grammar.specs.Form.{Set, byte, holds, ◌·◌, lit, one_of, Single, Has}
use Rattle.grammar.specs.Classes.{Class, blank_run, line_comment, block_comment, operator, string, quoted_name, integer, float, blob, parameter}
use Rattle.grammar.specs.Classes.{word, illegal, unrecognized, bang, open_quote, open_blob, odd_blob, bad_parameter, underscore, word_after_integer}
use Rattle.grammar.specs.Classes.{word_after_fraction, no_exponent, word_after_exponent, no_hexdigit, underscore_after_x, hex_underscore, word_after_hex}
use Rattle.grammar.specs.Classes.{zero_x, ◌is◌, rules}
use Rattle.grammar.specs.Answers.{token, end, refusal, answer, first, init}
use Rattle.grammar.specs.Longest.{Stands, anywhere, Longest, Gives}
use Rattle.grammar.specs.Texts.{offset}
use Rattle.ahead.specs.Ahead.{look_ahead, span_end}
use Rattle.grammar.proofs.ClassLaws.{only, one-rule}
use Rattle.grammar.proofs.Lexemes
use Rattle.grammar.proofs.Theorems.{sound}
use Rattle.grammar.proofs.Tokens.{told, end-told}
use Rattle.ahead.proofs.Spans.{span-near}

-- places in a lexeme lie not behind its end
first-inside : (t : Set) (w : List ℕ) → first t w ≤ length w
first-inside t [] = omega arith
first-inside t (b ∷ w) = split (holds t b) (λ e. rw e (omega arith)) (λ e. rw e (omega (arith, first-inside t w)))

to_last : (w : List ℕ) (from : ℕ) → from ≤ length w → 0 + from + (length (init w) - from) ≤ length w
to_last w from l = omega (arith, length-take-le (length w - 1) w (omega arith))

-- the one class that looks not ahead and whose span is told by numbers has these bytes
only-zero-x : (p : Profile) → only underscore_after_x (anywhere (rules p)) ≡ (underscore_after_x is zero_x · lit "_") ∷ []
unfolding rules
only-zero-x Turso = refl
only-zero-x Sqlite = refl

one_byte : (t : Set) (w : List ℕ) → Single t w → length w ≡ 1
one_byte t [] h = absurd h
one_byte t (b ∷ []) h = refl
one_byte t (b ∷ c ∷ w) h = absurd h

zero-x-long : (w : List ℕ) → Has (zero_x · lit "_") w → 2 ≤ length w
zero-x-long w (u, v, e, (a, b, f, (c, d, g, x, y), z), t) =
    let i = ap length e ∙ length-append u v in
    let j = ap length f ∙ length-append a b in
    let k = ap length g ∙ length-append c d in
    omega (arith, one_byte (byte (code "0")) c x, one_byte (one_of "xX") b z)

module _ (p : Profile) where
  -- A token that Next gives at a text's beginning starts there, is the longest lexeme, and lexing goes on behind it.
  pub token-long : (w : List ℕ) (k start n next d u : ℕ) → Gives (rules p) w 0 (token k start n next d u)
      → (start ≡ 0) × (next ≡ n) × (0 < n) × (n ≤ length w) × ((c : Class) × Longest (rules p) w c n)
  token-long w k start n next d u g =
      let o = told p w 0 k start n next d u g in
      (o.starts, omega (arith, o.goes), o.some, omega (arith, o.goes, o.inside), (o.class, o.longest))

  -- End is given at the end only, which is inside the text.
  pub end-inside : (w : List ℕ) (o : ℕ) → Gives (rules p) w 0 (end o) → o ≤ length w
  end-inside w o g = let (h, d) = end-told p w 0 o g in omega arith

  -- where a class looks ahead its span ends with the lexeme, and else not behind it
  answer-inside : (c : Class) (w : List ℕ) → (0 < look_ahead p c → span_end (answer c 0 w) ≡ length w) → (c ≡ underscore_after_x → 2 ≤ length w)
      → span_end (answer c 0 w) ≤ length w
  unfolding answer look_ahead
  answer-inside blank_run w h i = omega arith
  answer-inside line_comment w h i = omega arith
  answer-inside block_comment w h i = omega arith
  answer-inside operator w h i = omega arith
  answer-inside string w h i = omega arith
  answer-inside quoted_name w h i = omega arith
  answer-inside integer w h i = omega arith
  answer-inside float w h i = omega arith
  answer-inside blob w h i = omega arith
  answer-inside parameter w h i = omega arith
  answer-inside word w h i = omega arith
  answer-inside illegal w h i = omega arith
  answer-inside unrecognized w h i = omega arith
  answer-inside bang w h i = omega arith
  answer-inside open_quote w h i = omega arith
  answer-inside open_blob w h i = omega arith
  answer-inside odd_blob w h i = omega arith
  answer-inside bad_parameter w h i = omega arith
  answer-inside underscore w h i = omega (arith, h (omega arith))
  answer-inside word_after_integer w h i = to_last w 0 (omega arith)
  answer-inside word_after_fraction w h i = to_last w (first (one_of ".") w) (first-inside (one_of ".") w)
  answer-inside no_exponent w h i = omega (arith, h (omega arith))
  answer-inside word_after_exponent w h i = to_last w (first (one_of "eE") w) (first-inside (one_of "eE") w)
  answer-inside no_hexdigit w h i = omega (arith, h (omega arith))
  answer-inside underscore_after_x w h i = omega (arith, i refl)
  answer-inside hex_underscore w h i = omega (arith, h (omega arith))
  answer-inside word_after_hex w h i = to_last w 0 (omega arith)

  span-inside : (c : Class) (s : List ℕ) (n : ℕ) → Stands (rules p) c s n → span_end (answer c 0 (take n s)) ≤ n
  span-inside c s n h =
      let long = length-take-le n s h.0 in
      let has : c ≡ underscore_after_x → 2 ≤ length (take n s) =
      λ e.
      let g = Lexemes.stands-anywhere (rules p) (sound p) underscore_after_x s n (subst (λ (c : Class). Stands (rules p) c s n) e h) in
      zero-x-long (take n s) ((one-rule (anywhere (rules p)) underscore_after_x (zero_x · lit "_") (only-zero-x p) s n).0 g).1 in
      omega (arith, answer-inside c (take n s) (λ looks. omega (arith, (span-near p c 0 s n h).2 looks)) has)

  -- The span of a refusal, and the offset that it leaves, lie inside the text.
  pub refusal-inside : (w : List ℕ) (k start n next : ℕ) → Gives (rules p) w 0 (refusal k start n next)
      → (start + n ≤ length w) × (next ≤ length w)
  refusal-inside w k start n next (inl (h, d)) = absurd (omega arith)
  refusal-inside w k start n next (inr (inl (h, d))) = let z : ◌≡◌ {A = ℕ} 0 1 = cc in absurd (omega arith)
  refusal-inside w k start n next (inr (inr (h, (c, m, x, d)))) =
      let inside = x.stands.0 in
      let left = (span-near p c 0 w m x.stands).1 in
      (omega (arith, ap span_end d, span-inside c w m x.stands), omega (arith, ap offset d))
