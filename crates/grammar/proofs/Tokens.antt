-- Malformed classes refuse, and the others do not. A token that Next gives starts at the offset, is the longest lexeme there, has the digits
-- and underscores of its class, and lexing goes on behind it; End is given at the end only. Assumes nothing.
use Prim.Native.Nat.{ℕ, ◌+◌, ◌≤◌, ◌<◌}
use native.Mathlib.Omega.{arith}
use mathlib.Core.Path.{◌≡◌, refl, sym, ◌∙◌, ap, subst}
use mathlib.Core.Bool.{Bool, true, false, ◌||◌}
use mathlib.Core.List.{List}
use mathlib.Core.Logic.{◌⊎◌, inl, inr}
use lib.Dec.{eqb}
use lib.ListN.{length, take, drop, length-drop}
use lib.Seq.{length-take-le}
use Rattle.grammar.specs.declared.profile.Profile.{Profile}
use Rattle.grammar.specs.Classes.{Class, malformed, rules, blank_run, line_comment, block_comment, operator, string, quoted_name, integer}
use Rattle.grammar.specs.Classes.{float, blob, parameter, word, illegal, unrecognized, bang, open_quote, open_blob, odd_blob}
use Rattle.grammar.specs.Classes.{bad_parameter, underscore, word_after_integer, word_after_fraction, no_exponent, word_after_exponent}
use Rattle.grammar.specs.Classes.{no_hexdigit, underscore_after_x, hex_underscore, word_after_hex}
use Rattle.grammar.specs.Form.{D, one_of}
use Rattle.grammar.specs.Answers.{Answer, token, end, refusal, is_refusal, count, sum, integer_digits, answer}
use Rattle.grammar.specs.Longest.{Longest, Gives}
use Rattle.grammar.proofs.ClassLaws.{number}
use Rattle.grammar.proofs.Lexemes as Lexemes
use Rattle.grammar.proofs.Theorems.{sound}

-- integer or float
abbrev pub is_number : Class → Bool
is_number c = eqb (number c) (number integer) || eqb (number c) (number float)

-- d digits and u underscores, of a lexeme w of class c, as f of how many there are
abbrev pub CountsAs : (ℕ → ℕ) → Class → List ℕ → ℕ → ℕ → Type 0
CountsAs f c w d u =
    ((c ≡ integer) × (d ≡ f (integer_digits w)) × (u ≡ f (count (one_of "_") w))) ⊎
    ((c ≡ float) × (d ≡ f (count D w)) × (u ≡ f (count (one_of "_") w))) ⊎
    ((is_number c ≡ false) × (d ≡ 0) × (u ≡ 0))

abbrev pub Counts : Class → List ℕ → ℕ → ℕ → Type 0
Counts c w d u = CountsAs sum c w d u

-- a token of a lexeme w of class c at an offset; a refusal
abbrev Whole : Class → ℕ → List ℕ → Answer → Type 0
Whole c at w a = (k : ℕ) × (d : ℕ) × (u : ℕ) × (a ≡ token k at (length w) (at + length w) d u) × Counts c w d u

abbrev Refused : Answer → Type 0
Refused a = (k : ℕ) × (start : ℕ) × (n : ℕ) × (offset : ℕ) × (a ≡ refusal k start n offset)

abbrev Shape : Bool → Class → ℕ → List ℕ → Answer → Type 0
Shape true c at w a = Refused a
Shape false c at w a = Whole c at w a

-- a malformed class answers a refusal, and any other a token, which is the whole lexeme
shape : (c : Class) (at : ℕ) (w : List ℕ) → Shape (malformed c) c at w (answer c at w)
unfolding answer malformed
shape blank_run at w = (_, _, _, refl, inr (inr (refl, refl, refl)))
shape line_comment at w = (_, _, _, refl, inr (inr (refl, refl, refl)))
shape block_comment at w = (_, _, _, refl, inr (inr (refl, refl, refl)))
shape operator at w = (_, _, _, refl, inr (inr (refl, refl, refl)))
shape string at w = (_, _, _, refl, inr (inr (refl, refl, refl)))
shape quoted_name at w = (_, _, _, refl, inr (inr (refl, refl, refl)))
shape integer at w = (_, _, _, refl, inl (refl, refl, refl))
shape float at w = (_, _, _, refl, inr (inl (refl, refl, refl)))
shape blob at w = (_, _, _, refl, inr (inr (refl, refl, refl)))
shape parameter at w = (_, _, _, refl, inr (inr (refl, refl, refl)))
shape word at w = (_, _, _, refl, inr (inr (refl, refl, refl)))
shape illegal at w = (_, _, _, refl, inr (inr (refl, refl, refl)))
shape unrecognized at w = (_, _, _, _, refl)
shape bang at w = (_, _, _, _, refl)
shape open_quote at w = (_, _, _, _, refl)
shape open_blob at w = (_, _, _, _, refl)
shape odd_blob at w = (_, _, _, _, refl)
shape bad_parameter at w = (_, _, _, _, refl)
shape underscore at w = (_, _, _, _, refl)
shape word_after_integer at w = (_, _, _, _, refl)
shape word_after_fraction at w = (_, _, _, _, refl)
shape no_exponent at w = (_, _, _, _, refl)
shape word_after_exponent at w = (_, _, _, _, refl)
shape no_hexdigit at w = (_, _, _, _, refl)
shape underscore_after_x at w = (_, _, _, _, refl)
shape hex_underscore at w = (_, _, _, _, refl)
shape word_after_hex at w = (_, _, _, _, refl)

is-refusal : (b : Bool) (c : Class) (at : ℕ) (w : List ℕ) (a : Answer) → Shape b c at w a → is_refusal a ≡ b
is-refusal true c at w a (k, start, n, offset, e) = ap is_refusal e
is-refusal false c at w a (k, d, u, e, x) = ap is_refusal e

-- A class answers a refusal exactly where it is malformed.
pub refuses : (c : Class) (at : ℕ) (w : List ℕ) → is_refusal (answer c at w) ≡ malformed c
refuses c at w = is-refusal (malformed c) c at w (answer c at w) (shape c at w)

-- one that is not malformed, a token of the whole lexeme
pub whole-token : (c : Class) (at : ℕ) (w : List ℕ) → malformed c ≡ false → Whole c at w (answer c at w)
whole-token c at w e = subst (λ (b : Bool). Shape b c at w (answer c at w)) e (shape c at w)

token-place : (b : Bool) (c : Class) (at : ℕ) (w : List ℕ) (a : Answer) → Shape b c at w a → (k start n next d u : ℕ) → token k start n next d u ≡ a
    → (start ≡ at) × (n ≡ length w) × (next ≡ at + length w) × Counts c w d u
token-place false c at w a (j, x, y, f, h) k start n next d u e =
    let g = e ∙ f in
    let p : x ≡ d = cc in
    let q : y ≡ u = cc in
    (cc, cc, cc, subst (λ (m : ℕ). Counts c w m u) p (subst (Counts c w x) q h))
token-place true c at w a (j, from, l, to, f) k start n next d u e = let g = e ∙ f in let z : ◌≡◌ {A = ℕ} 0 1 = cc in absurd (omega arith)

not_end : (b : Bool) (c : Class) (at : ℕ) (w : List ℕ) (a : Answer) → Shape b c at w a → (offset : ℕ) → end offset ≡ a → ⊥
not_end false c at w a (j, x, y, f, h) offset e = let g = e ∙ f in let z : ◌≡◌ {A = ℕ} 0 1 = cc in omega arith
not_end true c at w a (j, from, l, to, f) offset e = let g = e ∙ f in let z : ◌≡◌ {A = ℕ} 0 1 = cc in omega arith

-- what a token that Next gives tells
pub record Told (π : Profile) (s : List ℕ) (at k start n next digits underscores : ℕ) : Type 0 where
  pub starts : start ≡ at
  pub goes : next ≡ at + n
  pub some : 0 < n
  pub inside : next ≤ length s
  pub class : Class
  pub legal : malformed class ≡ false
  pub longest : Longest (rules π) (drop at s) class n
  pub gives : token k start n next digits underscores ≡ answer class at (take n (drop at s))
  pub counts : Counts class (take n (drop at s)) digits underscores

pub told : (π : Profile) (s : List ℕ) (at k start n next d u : ℕ) → Gives (rules π) s at (token k start n next d u) → Told π s at k start n next d u
told π s at k start n next d u (inl (l, e)) = let z : ◌≡◌ {A = ℕ} 0 1 = cc in absurd (omega arith)
told π s at k start n next d u (inr (inl (l, e))) = let z : ◌≡◌ {A = ℕ} 0 1 = cc in absurd (omega arith)
told π s at k start n next d u (inr (inr (l, (c, m, h, e)))) =
    let w = take m (drop at s) in
    let (p, q, r, x) = token-place (malformed c) c at w (answer c at w) (shape c at w) k start n next d u e in
    let t = length-take-le m (drop at s) h.stands.0 in
    let i = h.stands.0 in
    let b = length-drop at s in
    let o = Lexemes.positive (rules π) (sound π) (drop at s) c m h.stands in
    let n-is : m ≡ n = omega arith in
    record {
      starts = p;
      goes = omega arith;
      some = omega arith;
      inside = omega arith;
      class = c;
      legal = sym (refuses c at w) ∙ ap is_refusal (sym e);
      longest = subst (Longest (rules π) (drop at s) c) n-is h;
      gives = e ∙ ap (λ (l : ℕ). answer c at (take l (drop at s))) n-is;
      counts = subst (λ (l : ℕ). Counts c (take l (drop at s)) d u) n-is x;
    }

pub end-told : (π : Profile) (s : List ℕ) (at offset : ℕ) → Gives (rules π) s at (end offset) → (at ≡ length s) × (offset ≡ at)
end-told π s at offset (inl (l, e)) = let z : ◌≡◌ {A = ℕ} 0 1 = cc in absurd (omega arith)
end-told π s at offset (inr (inl (l, e))) = (l, cc)
end-told π s at offset (inr (inr (l, (c, m, h, e)))) = let w = take m (drop at s) in absurd (not_end (malformed c) c at w (answer c at w) (shape c at w) offset e)
