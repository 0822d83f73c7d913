-- What all numbers share: spans, and the two kinds. Assumes nothing.
use Prim.Native.Nat.{ℕ, ◌+◌, ◌-◌, max}
use native.Mathlib.Omega.{arith}
use mathlib.Core.Path.{◌≡◌, refl, ap}
use mathlib.Core.List.{List}
use Rattle.keywords.specs.Kinds.{kind}
use Rattle.grammar.specs.declared.profile.Profile.{Profile}
use Rattle.grammar.specs.Form.{Set, D, S, no, ◌or◌, ◌except◌, one_of}
use Rattle.grammar.specs.Classes.{rules}
use Rattle.grammar.specs.Answers.{token, refusal, after_last, init, count, sum, integer_digits, numeral, answer}
use Rattle.grammar.specs.Runs.{char, part}
use Rattle.grammar.proofs.States.{rule_at}
use Rattle.grammar.proofs.Places.{Counted}
use Rattle.grammar.proofs.RulePlaces.{integer_rule, float_rule, underscore_rule}
use Rattle.grammar.proofs.Reading.{EndsUnder, ends-long}
use Rattle.lexer.specs.declared.lexed.Refusal.{Refusal}
use Rattle.lexer.specs.declared.lexed.Refusal.TheVariants.{BadNumber}
use Rattle.lexer.specs.declared.lexed.Lexed.{Lexed}
use Rattle.lexer.specs.declared.lexed.Lexed.TheVariants.{Token, Refused}
use Rattle.lexer.specs.Eaten.{cursor}
use Rattle.lexer.specs.Values.{number_of, LexesUnder}
use Rattle.lexer.proofs.AnswerLaws.{lexes}
use Rattle.lexer.proofs.SpanLaws.{init-part}
use Rattle.lexer.proofs.DigitLaws.{Stuck}

-- spans: from a place x of the lexeme to another
pub span-lexes : {π : Profile} {s : List ℕ} {from at k : ℕ} (e : EndsUnder π s from at k) (why : Refusal) (m n : ℕ)
    → answer (rule_at (rules π) k).class from (part s from at) ≡ refusal (number_of why) (from + m) n from
    → (x y : ℕ) → x ≡ from + m → y ≡ n → (r : Lexed) → r ≡ Refused why x y (cursor from) → LexesUnder π s from r
span-lexes {s = s} {from = from} e why m n a x y p q r f = lexes e r (refusal (number_of why) (from + m) n from) a (rw (f, p, q))

-- `_` with no digit next: the span begins with the last group
module _ {π : Profile} {s : List ℕ} {from i g e : ℕ} (r : Lexed) (f : r ≡ Refused BadNumber g (e - g) (cursor from)) where
  pub stuck-lexed : Stuck D π s from i g e underscore_rule → LexesUnder π s from r
  unfolding rules answer
  stuck-lexed b =
      let z = init-part s from b.line (omega arith) e b.last b.text in
      let m : max 1 (after_last (no D) (init (part s from e))) ≡ g - from = rw z b.group in
      let l = ends-long b.ends in
      span-lexes b.ends BadNumber _ _ refl _ _ (omega arith) (omega arith) r f

-- a word's first byte behind a number: the span ends before it
abbrev pub word_start : Set
word_start = S except (char "_" or char "e" or char "E")

-- a number's token
module _ {π : Profile} {s : List ℕ} {from at n u : ℕ} (r : Lexed) where
  number-lexes : {k : ℕ} (e : EndsUnder π s from at k) (kind d : ℕ) → answer (rule_at (rules π) k).class from (part s from at) ≡ numeral kind from (part s from at) d
      → d ≡ n → count (one_of "_") (part s from at) ≡ u → r ≡ Token kind from (at - from) (cursor at) (sum n) (sum u) → LexesUnder π s from r
  number-lexes e kind d p x y q =
      let o = e.ordered in
      let l = ends-long e in
      lexes e r _ p (rw (q, l, x, y) (ap (λ (m : ℕ). token kind from (at - from) m (sum n) (sum u)) (omega arith)))

  pub float-lexed : EndsUnder π s from at float_rule → Counted D s from at n u → r ≡ Token (kind "TK_FLOAT") from (at - from) (cursor at) (sum n) (sum u) → LexesUnder π s from r
  unfolding rules answer
  float-lexed e c f = number-lexes e (kind "TK_FLOAT") _ refl c.digits c.underscores f

  -- an integer, whose digits are D or, behind `0x`, H
  pub integer-lexed : EndsUnder π s from at integer_rule → integer_digits (part s from at) ≡ n → count (one_of "_") (part s from at) ≡ u
      → r ≡ Token (kind "TK_INTEGER") from (at - from) (cursor at) (sum n) (sum u) → LexesUnder π s from r
  unfolding rules answer
  integer-lexed e x y f = number-lexes e (kind "TK_INTEGER") _ refl x y f
