-- To rules that name no byte above 7F those bytes are all alike, so that 80 stands for them. Assumes nothing.
use Prim.Native.Nat.{ℕ, ◌≤◌, ◌<◌}
use native.Mathlib.Omega.{arith}
use mathlib.Core.Path.{◌≡◌, refl, sym, ap}
use mathlib.Core.Bool.{Bool, true, false, not, cond, ◌&&◌}
use mathlib.Core.List.{[], ◌∷◌}
use lib.Dec.{leb, ltb}
use borrow.Author.Tests.{ltb-true, leb-true, leb-false, lt-ltb, lt-leb, ne_eqb}
use Rattle.keywords.proofs.Logic.{split, and_left, and_right, and-false, every}
use Rattle.words.specs.Bytes.{within, is_digit, is_hexdigit, is_identifier_start, is_identifier_continue, is_blank}
use Rattle.grammar.specs.Form.{Set, none, D, H, S, C, blank, control, byte, no, ◌or◌, holds, Form, never, empty, anything, one, ◌·◌, ◌∣◌, ◌but◌, many}
use Rattle.grammar.proofs.Rest.{rest}
use Rattle.grammar.proofs.States.{Left, State, step}

-- no byte above 7F is named
abbrev pub plain_set : Set → Bool
plain_set none = true
plain_set D = true
plain_set H = true
plain_set S = true
plain_set C = true
plain_set blank = true
plain_set control = true
plain_set (byte c) = ltb c 128
plain_set (no s) = plain_set s
plain_set (s or t) = plain_set s && plain_set t

abbrev plain_form : Form → Bool
plain_form never = true
plain_form empty = true
plain_form anything = true
plain_form (one s) = plain_set s
plain_form (f · g) = plain_form f && plain_form g
plain_form (f ∣ g) = plain_form f && plain_form g
plain_form (f but g) = plain_form f && plain_form g
plain_form (many f) = plain_form f

abbrev pub plain : Left → Bool
plain x = plain_form x.form

module _ (b : ℕ) (h : 128 ≤ b) where
  outside : (lo hi : ℕ) → hi < 128 → within lo hi b ≡ false
  outside lo hi l = rw (lt-leb b hi (omega arith)) (and-false (leb lo b))

  digit : is_digit b ≡ false
  unfolding is_digit
  digit = outside 48 57 (omega arith)

  start : is_identifier_start b ≡ true
  unfolding is_identifier_start
  start = rw (outside 65 90 (omega arith), outside 97 122 (omega arith), ne_eqb b 95 (omega arith), lt-ltb 127 b (omega arith))

  high-set : (s : Set) → plain_set s ≡ true → holds s 128 ≡ holds s b
  unfolding is_digit is_hexdigit is_identifier_start is_identifier_continue is_blank
  high-set none p = refl
  high-set D p = sym digit
  high-set H p = rw (outside 48 57 (omega arith), outside 65 70 (omega arith), outside 97 102 (omega arith))
  high-set S p = sym start
  high-set C p = sym (rw start refl)
  high-set blank p = rw (ne_eqb b 9 (omega arith), ne_eqb b 10 (omega arith), ne_eqb b 12 (omega arith), ne_eqb b 13 (omega arith), ne_eqb b 32 (omega arith))
  high-set control p = sym (lt-leb b 31 (omega arith))
  high-set (byte c) p = let l = ltb-true c 128 p in rw (ne_eqb b c (omega arith), ne_eqb 128 c (omega arith))
  high-set (no s) p = ap not (high-set s p)
  high-set (s or t) p = rw (high-set s (and_left (plain_set s) (plain_set t) p), high-set t (and_right (plain_set s) (plain_set t) p))

  high-form : (f : Form) → plain_form f ≡ true → rest 128 f ≡ rest b f
  high-form never p = refl
  high-form empty p = refl
  high-form anything p = refl
  high-form (one s) p = rw (high-set s p)
  high-form (f · g) p = rw (high-form f (and_left (plain_form f) (plain_form g) p), high-form g (and_right (plain_form f) (plain_form g) p))
  high-form (f ∣ g) p = rw (high-form f (and_left (plain_form f) (plain_form g) p), high-form g (and_right (plain_form f) (plain_form g) p))
  high-form (f but g) p = rw (high-form f (and_left (plain_form f) (plain_form g) p), high-form g (and_right (plain_form f) (plain_form g) p))
  high-form (many f) p = rw (high-form f p)

  high-step : (q : State) → every plain q ≡ true → step 128 q ≡ step b q
  high-step [] p = refl
  high-step (x ∷ q) p = rw (high-form x.form (and_left (plain x) (every plain q) p), high-step q (and_right (plain x) (every plain q) p))

-- the byte that stands for b
abbrev pub low : ℕ → ℕ
low b = cond (leb b 127) b 128

pub low-set : (b : ℕ) (s : Set) → plain_set s ≡ true → holds s (low b) ≡ holds s b
low-set b s p = split (leb b 127) (λ e. rw e) (λ e. rw e (high-set b (leb-false b 127 e) s p))

pub low_step : (b : ℕ) (q : State) → every plain q ≡ true → step (low b) q ≡ step b q
low_step b q p = split (leb b 127) (λ e. rw e) (λ e. rw e (high-step b (leb-false b 127 e) q p))

pub low_small : (b : ℕ) → low b < 129
low_small b = split (leb b 127) (λ e. let l = leb-true b 127 e in rw e (omega arith)) (λ e. rw e (omega arith))
