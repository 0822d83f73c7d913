-- Words, `#` and what starts nothing. Assumes nothing.
use Prim.Native.Nat.{ℕ, ◌+◌, ◌-◌}
use native.Mathlib.Omega.{arith}
use mathlib.Core.Path.{◌≡◌, refl, ◌∙◌, ap}
use mathlib.Core.Bool.{true, false}
use mathlib.Core.List.{List}
use lib.ListN.{length, drop}
use Rattle.keywords.specs.Kinds.{kind}
use Rattle.keywords.specs.Text.{bytes}
use Rattle.words.specs.Bytes.{is_digit, is_hexdigit, is_identifier_start, is_identifier_continue, is_blank}
use Rattle.words.specs.Word.{kind_of}
use Rattle.grammar.specs.Form.{S, C, blank, no, ◌or◌, ◌except◌}
use Rattle.grammar.specs.Classes.{operators, rules, U}
use Rattle.grammar.specs.Answers.{refusal, answer}
use Rattle.grammar.specs.Runs.{char, sees, part, moved, over}
use Rattle.grammar.proofs.Seen.{inside-sees, inside-misses, over-stops, moved-one, seen-in, seen-holds, except-sees}
use Rattle.grammar.proofs.RulePlaces.{word_rule, illegal_rule, unrecognized_rule}
use Rattle.grammar.proofs.Reading.{Reads, Ends, Spelled, behind, begin, spelled-reads, ends-long, reads-eat, reads-while}
use Rattle.grammar.proofs.Reading.{reads-join, reads-stop}
use Rattle.lexer.specs.declared.lexed.Refusal.TheVariants.{UnrecognizedToken}
use Rattle.lexer.specs.declared.lexed.Lexed.{Lexed}
use Rattle.lexer.specs.declared.lexed.Lexed.TheVariants.{Token, Refused}
use Rattle.lexer.specs.Eaten.{cursor}
use Rattle.grammar.proofs.Places.{At}
use Rattle.lexer.specs.Values.{number_of, Lexes}
use Rattle.lexer.proofs.EatLaws.{over-more}
use Rattle.lexer.proofs.AnswerLaws.{lexes, token-lexes}

-- the first byte of a word, which is no x
module _ {s : List ℕ} {from d : ℕ} (f : d ≡ moved from s) where
  pub word_first : At S from s → sees (char "x" or char "X") (drop from s) ≡ false → Reads s from d (behind "a")
  unfolding behind rules operators is_digit is_hexdigit is_identifier_start is_identifier_continue is_blank
  word_first h n = reads-eat (begin s from) (S except (char "x" or char "X")) (behind "a") refl (except-sees S _ _ h n) f

  pub x-first : At (char "x" or char "X") from s → Reads s from d (behind "x")
  unfolding behind rules operators is_digit is_hexdigit is_identifier_start is_identifier_continue is_blank
  x-first h = reads-eat (begin s from) (char "x" or char "X") (behind "x") refl h f

module _ {s : List ℕ} {from at : ℕ} (p : Reads s from at (behind "x")) where
  -- an x that no quote follows begins a word
  pub x-word : sees (char "'") (drop at s) ≡ false → Reads s from at (behind "a")
  unfolding behind rules operators is_digit is_hexdigit is_identifier_start is_identifier_continue is_blank
  x-word h = reads-join p (behind "a") (no (char "'")) refl refl (inside-misses (no (no (char "'"))) (char "'") refl _ h)

  pub x-quote : sees (char "'") (drop at s) ≡ true → {d : ℕ} → d ≡ moved at s → Reads s from d (behind "x'")
  unfolding behind rules operators is_digit is_hexdigit is_identifier_start is_identifier_continue is_blank
  x-quote h f = reads-eat p (char "'") (behind "x'") refl h f

module _ {s : List ℕ} {from at : ℕ} (p : Reads s from at (behind "a")) {d : ℕ} (f : d ≡ over C at s) where
  pub word-ends : Ends s from d word_rule
  unfolding behind rules operators is_digit is_hexdigit is_identifier_start is_identifier_continue is_blank
  word-ends = reads-stop (reads-while p C refl f) C word_rule refl refl (over-stops _ _ _ _ f)

  pub word-lexed : (k : ℕ) → k ≡ kind_of (part s from d) → (r : Lexed) → r ≡ Token k from (d - from) (cursor d) 0 0 → Lexes s from r
  unfolding rules answer
  word-lexed k e r q = token-lexes word-ends k r (rw e) q

-- `#` and identifier bytes
module _ {s : List ℕ} {from at : ℕ} (p : Spelled s from at (bytes "#")) {d : ℕ} (f : d ≡ over C at s) where
  illegal-ends : Ends s from d illegal_rule
  unfolding behind rules operators is_digit is_hexdigit is_identifier_start is_identifier_continue is_blank
  illegal-ends = reads-stop (reads-while (spelled-reads p refl) C refl f) C illegal_rule refl refl (over-stops _ _ _ _ f)

  pub illegal-lexed : (r : Lexed) → r ≡ Token (kind "TK_ILLEGAL") from (d - from) (cursor d) 0 0 → Lexes s from r
  unfolding rules answer
  illegal-lexed r q = token-lexes illegal-ends (kind "TK_ILLEGAL") r refl q

-- class U
module _ (s : List ℕ) (from d : ℕ) (h : At U from s) (f : d ≡ over (no blank) from s) where
  unblank : At (no blank) from s
  unfolding is_blank
  unblank = inside-sees U (no blank) refl (drop from s) h

  unrecognized-ends : Ends s from d unrecognized_rule
  unfolding behind rules operators is_digit is_hexdigit is_identifier_start is_identifier_continue is_blank
  unrecognized-ends =
      let n = moved-one U s from h in
      let g : d ≡ over (no blank) (moved from s) s = f ∙ over-more (no blank) s from (seen-in U s from h) (seen-holds (no blank) s from unblank) ∙ rw n in
      reads-stop (reads-while (reads-eat (begin s from) U (behind "\\") refl h refl) (no blank) refl g) (no blank) unrecognized_rule refl refl (over-stops _ _ _ _ f)

  pub unrecognized-lexed : (r : Lexed) → r ≡ Refused UnrecognizedToken from (d - from) (cursor d) → Lexes s from r
  unfolding rules answer
  unrecognized-lexed r q =
      let e = unrecognized-ends in
      let o = e.ordered in
      lexes e r (refusal (number_of UnrecognizedToken) from (length (part s from d)) (from + length (part s from d))) refl
      (rw (q, ends-long e) (ap (λ (n : ℕ). refusal (number_of UnrecognizedToken) from (d - from) n) (omega arith)))
