-- Decimal integers, from the first digit of a number. Assumes nothing.
use Prim.Native.Nat.{ℕ, ◌+◌, ◌-◌}
use native.Mathlib.Omega.{arith}
use mathlib.Core.Path.{◌≡◌, refl, ◌∙◌}
use mathlib.Core.Bool.{true, false, ◌&&◌}
use mathlib.Core.List.{List, [], ◌∷◌}
use lib.ListN.{drop}
use Rattle.std.specs.Prelude.{Ok, Err}
use Rattle.keywords.proofs.Logic.{split}
use Rattle.words.specs.Bytes.{is_digit, is_hexdigit, is_identifier_start, is_identifier_continue, is_blank}
use Rattle.grammar.specs.declared.profile.Profile.{Profile}
use Rattle.grammar.specs.declared.profile.Profile.TheVariants.{Turso, Sqlite}
use Rattle.grammar.specs.Form.{none, D, H, S, no, ◌or◌, ◌except◌, one_of}
use Rattle.grammar.specs.Classes.{operators, rules}
use Rattle.grammar.specs.Answers.{is_hex, answer}
use Rattle.grammar.specs.Runs.{char, sees, moved}
use Rattle.grammar.proofs.States.{met}
use Rattle.grammar.proofs.Scan.{goes, meets, joins}
use Rattle.grammar.proofs.Seen.{misses-none, misses-or, inside-misses, except-sees, moved-one, seen-in}
use Rattle.grammar.proofs.RulePlaces.{integer_rule, underscore_rule, word_after_integer_rule}
use Rattle.grammar.proofs.Reading.{ReadsUnder, EndsUnder, reads-alike, behind, behind_under, begin_under, reads-eat, reads-join, reads-stop}
use Rattle.lexer.specs.declared.lexed.Refusal.TheVariants.{BadNumber}
use Rattle.lexer.specs.declared.lexed.Lexed.{Lexed}
use Rattle.lexer.specs.declared.lexed.Lexed.TheVariants.{Refused}
use Rattle.lexer.specs.Eaten.{cursor, tally, groups, span}
use Rattle.grammar.proofs.Places.{At, Only, Group, Counted, Decimal, Dot, Exponent, Hex}
use Rattle.lexer.specs.Values.{Lexes, LexesUnder}
use Rattle.lexer.proofs.EatLaws.{hex-zero, hex-then}
use Rattle.lexer.proofs.SpanLaws.{init-long, only_none, only-snoc, only-inside, group-start, group-first}
use Rattle.lexer.proofs.CountLaws.{decimal-apart, counted_none, counted-digit}
use Rattle.lexer.proofs.DigitLaws.{Run, After, Stuck, digits-after, digits-stuck}
use Rattle.lexer.proofs.NumberLaws.{span-lexes, word_start}

-- the steps, under each profile
record Steps (π : Profile) : Type 0 where
  run : Run D (D or one_of "_") (behind_under π "1") (behind_under π "1_") underscore_rule
  e : goes (behind_under π "1") (char "e" or char "E") (behind_under π "1e") && meets (behind_under π "1e") ≡ true
  word : goes (behind_under π "1") word_start (behind "1a") && meets (behind "1a") ≡ true
  stop : goes (behind_under π "1") (no (D or char "." or S)) [] ≡ true
  rule : met (behind_under π "1") ≡ integer_rule ∷ []
  digit : goes (behind_under π "") (D except char "0") (behind_under π "1") && meets (behind_under π "1") ≡ true
  zero : goes (behind_under π "") (char "0") (behind_under π "0") && meets (behind_under π "0") ≡ true
  more : joins (behind_under π "0") (behind_under π "1") (no (char "x" or char "X")) ≡ true
  same : met (behind_under π "0") ≡ met (behind_under π "1")
  x : goes (behind_under π "0") (char "x" or char "X") (behind "0x") && meets (behind "0x") ≡ true

steps : (π : Profile) → Steps π
unfolding behind behind_under rules operators is_digit is_hexdigit is_identifier_start is_identifier_continue is_blank
steps Turso = record {
  run = record { digit = refl; line = refl; back = refl; stop = refl; rule = refl; digits_in = refl; line-in = refl; apart = refl };
  e = refl;
  word = refl;
  stop = refl;
  rule = refl;
  digit = refl;
  zero = refl;
  more = refl;
  same = refl;
  x = refl;
}
steps Sqlite = record {
  run = record { digit = refl; line = refl; back = refl; stop = refl; rule = refl; digits_in = refl; line-in = refl; apart = refl };
  e = refl;
  word = refl;
  stop = refl;
  rule = refl;
  digit = refl;
  zero = refl;
  more = refl;
  same = refl;
  x = refl;
}

-- behind a number's first digit
module _ {π : Profile} {s : List ℕ} {from at : ℕ} (p : Decimal π s from at) (n u : ℕ) where
  pub decimal-stuck : {g e : ℕ} → Err (span g e) ≡ groups D at at n u (drop at s) → Stuck D π s from at g e underscore_rule
  decimal-stuck b = digits-stuck (steps π).run s from p.reads p.digits p.run n u b

  pub decimal-after : {e d x : ℕ} → Ok (tally e d x) ≡ groups D at at n u (drop at s) → After D (D or one_of "_") π s from at e (behind_under π "1")
  decimal-after b = digits-after (steps π).run s from p.reads p.digits p.run n u b

-- behind its digits
module _ {π : Profile} {s : List ℕ} {from i at : ℕ} (p : After D (D or one_of "_") π s from i at (behind_under π "1")) where
  pub integer-dot : sees (char ".") (drop at s) ≡ true → Dot π s from at
  integer-dot h = record { dot = h; reads = p.reads; digits = p.only }

  pub integer-e : sees (char "e" or char "E") (drop at s) ≡ true → Exponent π s from at
  unfolding behind behind_under rules operators is_digit is_hexdigit is_identifier_start is_identifier_continue is_blank
  integer-e h = record {
    ordered = p.reads.ordered;
    e = h;
    reads = reads-eat p.reads (char "e" or char "E") (behind_under π "1e") (steps π).e h refl;
    digits = only-inside (D or one_of "_") s from at p.reads.ordered (D or one_of "_.") refl p.only;
  }

  module _ (n : sees (char ".") (drop at s) ≡ false) (m : sees (char "e" or char "E") (drop at s) ≡ false) where
    integer-word : sees S (drop at s) ≡ true → EndsUnder π s from (moved at s) word_after_integer_rule
    unfolding behind behind_under rules operators is_digit is_hexdigit is_identifier_start is_identifier_continue is_blank
    integer-word h =
        reads-stop (reads-eat p.reads word_start (behind "1a") (steps π).word (except-sees S _ _ h (misses-or _ _ _ p.line m)) refl) none word_after_integer_rule refl refl (misses-none _)

    pub integer-word-lexed : sees S (drop at s) ≡ true → (r : Lexed) → r ≡ Refused BadNumber from (at - from) (cursor from) → LexesUnder π s from r
    unfolding rules answer
    integer-word-lexed h r f =
        let k = init-long s from at p.reads.ordered S h in
        span-lexes (integer-word h) BadNumber _ _ refl _ _ (omega arith) (omega arith) r f

    pub integer-ends : sees S (drop at s) ≡ false → EndsUnder π s from at integer_rule
    unfolding behind behind_under rules operators is_digit is_hexdigit is_identifier_start is_identifier_continue is_blank
    integer-ends h = reads-stop p.reads (D or char "." or S) integer_rule (steps π).stop (steps π).rule (misses-or _ _ _ p.digit (misses-or _ _ _ n h))

-- a number's first digit
module _ (π : Profile) (s : List ℕ) (from d : ℕ) (h : At D from s) (f : d ≡ moved from s) where
  second : d ≡ from + 1
  second = f ∙ moved-one D s from h

  first-digits : Only (D or one_of "_") s from d
  unfolding is_digit
  first-digits = rw second (only-snoc (D or one_of "_") s from from (omega arith) D refl h (only_none (D or one_of "_") s from))

  first_counted : Counted D s from d 1 0
  first_counted = rw second (counted-digit D (omega arith) (counted_none D s from) D h decimal-apart.digit decimal-apart.digit-out)

  first_group : Group D s from d d
  first_group = rw second (group-first D s from h)

  decimal-first : sees (char "0") (drop from s) ≡ false → Decimal π s from d
  unfolding behind behind_under rules operators is_digit is_hexdigit is_identifier_start is_identifier_continue is_blank
  decimal-first n = record {
    reads = reads-eat (begin_under π s from) (D except char "0") (behind_under π "1") (steps π).digit (except-sees D _ _ h n) f;
    digits = first-digits;
    run = first_group;
    counted = first_counted;
  }

  module _ (z : sees (char "0") (drop from s) ≡ true) where
    zero-reads : ReadsUnder π s from d (behind_under π "0")
    unfolding behind behind_under rules operators is_digit is_hexdigit is_identifier_start is_identifier_continue is_blank
    zero-reads = reads-eat (begin_under π s from) (char "0") (behind_under π "0") (steps π).zero z f

    decimal-zero : sees (char "x" or char "X") (drop d s) ≡ false → Decimal π s from d
    unfolding behind behind_under rules operators is_digit is_hexdigit is_identifier_start is_identifier_continue is_blank
    decimal-zero n = record {
      reads = reads-join zero-reads (behind_under π "1") (no (char "x" or char "X")) (steps π).more (steps π).same (inside-misses (no (no (char "x" or char "X"))) (char "x" or char "X") refl _ n);
      digits = first-digits;
      run = first_group;
      counted = first_counted;
    }

    x-reads : sees (char "x" or char "X") (drop d s) ≡ true → {e : ℕ} → e ≡ moved d s → ReadsUnder π s from e (behind "0x")
    x-reads k g = reads-eat zero-reads (char "x" or char "X") (behind "0x") (steps π).x k g

  -- a decimal number
  pub decimal-begins : is_hex (drop from s) ≡ false → Decimal π s from d
  decimal-begins n =
      split (sees (char "0") (drop from s))
      (λ z. decimal-zero z (hex-then s from d z f n))
      (λ z. decimal-first z)

  -- `0x`, which reads alike under each profile
  pub hex-reads : is_hex (drop from s) ≡ true → {e : ℕ} → e ≡ moved d s → ReadsUnder π s from e (behind "0x")
  hex-reads b g = let z = hex-zero (drop from s) b in x-reads z (hex-then s from d z f b) g

module _ (s : List ℕ) (from d : ℕ) (h : At D from s) (f : d ≡ moved from s) (b : is_hex (drop from s) ≡ true) {e : ℕ} (g : e ≡ moved d s) where
  pub hex-begins : Hex s from e
  unfolding is_digit is_hexdigit
  hex-begins =
      let k = hex-then s from d (hex-zero (drop from s) b) f b in
      let n : e ≡ d + 1 = g ∙ moved-one _ s d k in
      let m = second Turso s from d h f in
      record {
        two = omega arith;
        begins = b;
        reads = hex-reads Turso s from d h f b g;
        run = rw n (group-start H s from d (omega arith) (char "x" or char "X") refl k);
      }

  pub hex-alike : (π : Profile) (r : Lexed) → Lexes s from r → LexesUnder π s from r
  unfolding LexesUnder
  hex-alike π r l = reads-alike (hex-reads Turso s from d h f b g) (hex-reads π s from d h f b g) (seen-in D s from h) _ l
