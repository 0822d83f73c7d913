-- From the end of a lexeme to the answer. Assumes nothing.
use Prim.Native.Nat.{ℕ, ◌+◌, ◌-◌}
use native.Mathlib.Omega.{arith}
use mathlib.Core.Path.{◌≡◌, sym, ◌∙◌, ap, subst}
use mathlib.Core.Bool.{true, false}
use mathlib.Core.List.{List}
use lib.ListN.{length, drop}
use Rattle.grammar.specs.declared.profile.Profile.{Profile}
use Rattle.grammar.specs.Classes.{rules}
use Rattle.grammar.specs.Answers.{Answer, token, refusal, answer, legal}
use Rattle.grammar.specs.Longest.{Gives}
use Rattle.grammar.specs.Form.{byte}
use Rattle.grammar.specs.Runs.{part, sees, moved}
use Rattle.grammar.proofs.Seen.{moved-one}
use Rattle.grammar.proofs.States.{rule_at}
use Rattle.grammar.proofs.Reading.{EndsUnder, ends-gives, ends-long}
use Rattle.lexer.specs.declared.lexed.Refusal.{Refusal}
use Rattle.lexer.specs.declared.lexed.Lexed.{Lexed}
use Rattle.lexer.specs.declared.lexed.Lexed.TheVariants.{Token, Refused}
use Rattle.lexer.specs.Eaten.{cursor, one_or_two}
use Rattle.lexer.specs.Values.{number_of, values_of, LexesUnder}

module _ {π : Profile} {s : List ℕ} {start at k : ℕ} (e : EndsUnder π s start at k) where
  abbrev lexeme : List ℕ
  lexeme = part s start at

  pub lexes : (r : Lexed) (a : Answer) → answer (rule_at (rules π) k).class start lexeme ≡ a → values_of r ≡ a → LexesUnder π s start r
  unfolding LexesUnder
  lexes r a p q = subst (Gives (rules π) s start) (p ∙ sym q) (ends-gives e)

  -- a legal lexeme
  pub token-lexes : (kind : ℕ) (r : Lexed) → answer (rule_at (rules π) k).class start lexeme ≡ legal kind start lexeme
      → r ≡ Token kind start (at - start) (cursor at) 0 0 → LexesUnder π s start r
  token-lexes kind r p q =
      let o = e.ordered in
      let l = ends-long e in
      lexes r (legal kind start lexeme) p (rw (q, l) (ap (λ (n : ℕ). token kind start (at - start) n 0 0) (omega arith)))

  -- a refused one whose span is the whole lexeme
  pub whole-lexes : (why : Refusal) (r : Lexed) → answer (rule_at (rules π) k).class start lexeme ≡ refusal (number_of why) (start + 0) (length lexeme) start
      → r ≡ Refused why start (at - start) (cursor start) → LexesUnder π s start r
  whole-lexes why r p q =
      let l = ends-long e in
      lexes r (refusal (number_of why) (start + 0) (length lexeme) start) p
      (rw (q, l) (ap (λ (n : ℕ). refusal (number_of why) n (at - start) start) (omega arith)))

-- a token of one byte
pub one_token : (kind start at : ℕ) → at ≡ start + 1 → Token kind start (at - start) (cursor at) 0 0 ≡ Token kind start 1 (cursor (start + 1)) 0 0
one_token kind start at e = let d : at - start ≡ 1 = omega arith in rw (d, e)

-- of one byte or two: behind the first, the second is there or is not
module _ (one b two at : ℕ) (s : List ℕ) {m : ℕ} (a : m ≡ at + 1) where
  pub two_token : sees (byte b) (drop m s) ≡ true → {e : ℕ} → e ≡ moved m s → Token two at (e - at) (cursor e) 0 0 ≡ one_or_two one b two at s
  two_token h {e} f =
      let n : e ≡ at + 2 = let d = f ∙ moved-one (byte b) s m h in omega arith in
      let k : e - at ≡ 2 = omega arith in
      rw (← a, h, k, n)

  pub first_token : sees (byte b) (drop m s) ≡ false → Token one at (m - at) (cursor m) 0 0 ≡ one_or_two one b two at s
  first_token h = let k : m - at ≡ 1 = omega arith in rw (← a, h, k)
