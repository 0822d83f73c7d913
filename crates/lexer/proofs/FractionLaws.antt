-- A dot behind digits or before them, and the digits behind it. Assumes nothing.
use Prim.Native.Nat.{ℕ, ◌-◌}
use native.Mathlib.Omega.{arith}
use mathlib.Core.Path.{◌≡◌, refl, ◌∙◌}
use mathlib.Core.Bool.{true, false, ◌&&◌}
use mathlib.Core.List.{List, [], ◌∷◌}
use lib.ListN.{drop}
use Rattle.std.specs.Prelude.{Ok, Err}
use Rattle.keywords.specs.Kinds.{kind}
use Rattle.keywords.specs.Text.{bytes}
use Rattle.words.specs.Bytes.{is_digit, is_hexdigit, is_identifier_start, is_identifier_continue, is_blank}
use Rattle.grammar.specs.declared.profile.Profile.{Profile}
use Rattle.grammar.specs.declared.profile.Profile.TheVariants.{Turso, Sqlite}
use Rattle.grammar.specs.Form.{none, D, S, no, ◌or◌, one_of}
use Rattle.grammar.specs.Classes.{operators, rules}
use Rattle.grammar.specs.Answers.{answer}
use Rattle.grammar.specs.Runs.{char, sees, moved}
use Rattle.grammar.proofs.States.{start, met}
use Rattle.grammar.proofs.Scan.{goes, meets, along}
use Rattle.grammar.proofs.Seen.{misses-none, misses-or, inside-sees, except-sees, moved-one, moved_up}
use Rattle.grammar.proofs.RulePlaces.{operator_rule, float_rule, underscore_rule, word_after_fraction_rule}
use Rattle.grammar.proofs.Reading.{ReadsUnder, EndsUnder, behind, behind_under, begin_under, ends-in, Spelled, spelled-reads, spelled-part, reads-eat, reads-joined, reads-stop}
use Rattle.lexer.specs.declared.lexed.Refusal.TheVariants.{BadFractionalPart}
use Rattle.lexer.specs.declared.lexed.Lexed.{Lexed}
use Rattle.lexer.specs.declared.lexed.Lexed.TheVariants.{Token, Refused}
use Rattle.lexer.specs.Eaten.{cursor, tally, groups, span}
use Rattle.grammar.proofs.Places.{At, Only, Group, Counted, Dot, Fraction, Exponent}
use Rattle.lexer.specs.Values.{LexesUnder}
use Rattle.lexer.proofs.AnswerLaws.{token-lexes}
use Rattle.lexer.proofs.SpanLaws.{init-long, only_none, only-snoc, only-inside, first-in, group-start}
use Rattle.lexer.proofs.CountLaws.{counted_none, counted-other}
use Rattle.lexer.proofs.DigitLaws.{Run, After, Stuck, digits-after, digits-stuck}
use Rattle.lexer.proofs.NumberLaws.{span-lexes, word_start}

-- the steps, under each profile
record Steps (π : Profile) : Type 0 where
  run : Run D (D or one_of "_.") (behind_under π "1.5") (behind_under π "1.5_") underscore_rule
  dot : goes (behind_under π "1") (char ".") (behind_under π "1.") && meets (behind_under π "1.") ≡ true
  dot-digit : goes (behind_under π "1.") D (behind_under π "1.5") && goes (behind_under π "1.5") D (behind_under π "1.5") && meets (behind_under π "1.5") ≡ true
  dot-e : goes (behind_under π "1.") (char "e" or char "E") (behind_under π "1e") && meets (behind_under π "1e") ≡ true
  dot-stop : goes (behind_under π "1.") (no (D or char "e" or char "E")) [] ≡ true
  dot-rule : met (behind_under π "1.") ≡ float_rule ∷ []
  first : goes (behind_under π "") (char ".") (behind_under π ".") && meets (behind_under π ".") ≡ true
  first-digit : goes (behind_under π ".") D (behind_under π "1.5") && goes (behind_under π "1.5") D (behind_under π "1.5") && meets (behind_under π "1.5") ≡ true
  first-along : along (start (rules π)) (bytes ".") ≡ true
  first-stop : goes (behind_under π ".") (no D) [] ≡ true
  first-rule : met (behind_under π ".") ≡ operator_rule ∷ []
  e : goes (behind_under π "1.5") (char "e" or char "E") (behind_under π "1e") && meets (behind_under π "1e") ≡ true
  word : goes (behind_under π "1.5") word_start (behind "1.5a") && meets (behind "1.5a") ≡ true
  stop : goes (behind_under π "1.5") (no (D or S)) [] ≡ true
  rule : met (behind_under π "1.5") ≡ float_rule ∷ []

steps : (π : Profile) → Steps π
unfolding behind behind_under rules operators is_digit is_hexdigit is_identifier_start is_identifier_continue is_blank
steps Turso = record {
  run = record { digit = refl; line = refl; back = refl; stop = refl; rule = refl; digits_in = refl; line-in = refl; apart = refl };
  dot = refl;
  dot-digit = refl;
  dot-e = refl;
  dot-stop = refl;
  dot-rule = refl;
  first = refl;
  first-digit = refl;
  first-along = refl;
  first-stop = refl;
  first-rule = refl;
  e = refl;
  word = refl;
  stop = refl;
  rule = refl;
}
steps Sqlite = record {
  run = record { digit = refl; line = refl; back = refl; stop = refl; rule = refl; digits_in = refl; line-in = refl; apart = refl };
  dot = refl;
  dot-digit = refl;
  dot-e = refl;
  dot-stop = refl;
  dot-rule = refl;
  first = refl;
  first-digit = refl;
  first-along = refl;
  first-stop = refl;
  first-rule = refl;
  e = refl;
  word = refl;
  stop = refl;
  rule = refl;
}

-- the dot behind its digits
module _ {π : Profile} {s : List ℕ} {from at d : ℕ} (p : Dot π s from at) (f : d ≡ moved at s) where
  dot-reads : ReadsUnder π s from d (behind_under π "1.")
  unfolding behind behind_under rules operators is_digit is_hexdigit is_identifier_start is_identifier_continue is_blank
  dot-reads = reads-eat p.reads (char ".") (behind_under π "1.") (steps π).dot p.dot f

  pub dot-counted : {n u : ℕ} → Counted D s from at n u → Counted D s from d n u
  unfolding is_digit
  dot-counted c = rw (f ∙ moved-one (char ".") s at p.dot) (counted-other D p.reads.ordered c (char ".") p.dot refl refl)

  pub dot-fraction : sees D (drop d s) ≡ true → Fraction π s from d at
  unfolding behind behind_under rules operators is_digit is_hexdigit is_identifier_start is_identifier_continue is_blank
  dot-fraction h = record {
    next = f ∙ moved-one (char ".") s at p.dot;
    ordered = p.reads.ordered;
    seen = p.dot;
    reads = reads-joined dot-reads (behind_under π "1.5") D (behind_under π "1.5") (steps π).dot-digit h;
    digits = p.digits;
  }

  pub dot-e : sees (char "e" or char "E") (drop d s) ≡ true → Exponent π s from d
  unfolding behind behind_under rules operators is_digit is_hexdigit is_identifier_start is_identifier_continue is_blank
  dot-e h =
      let o = p.reads.ordered in
      let n = f ∙ moved-one (char ".") s at p.dot in
      record {
        ordered = dot-reads.ordered;
        e = h;
        reads = reads-eat dot-reads (char "e" or char "E") (behind_under π "1e") (steps π).dot-e h refl;
        digits = rw n (only-snoc (D or one_of "_.") s from at o (char ".") refl p.dot (only-inside (D or one_of "_") s from at o (D or one_of "_.") refl p.digits));
      }

  pub dot-ends : sees D (drop d s) ≡ false → sees (char "e" or char "E") (drop d s) ≡ false → EndsUnder π s from d float_rule
  unfolding behind behind_under rules operators is_digit is_hexdigit is_identifier_start is_identifier_continue is_blank
  dot-ends h n = reads-stop dot-reads (D or char "e" or char "E") float_rule (steps π).dot-stop (steps π).dot-rule (misses-or _ _ _ h n)

-- a dot with no digits before it
pub first-fraction : (π : Profile) (s : List ℕ) (from d : ℕ) → At (char ".") from s → d ≡ moved from s → sees D (drop d s) ≡ true → Fraction π s from d from
unfolding behind behind_under rules operators is_digit is_hexdigit is_identifier_start is_identifier_continue is_blank
first-fraction π s from d h f k = record {
  next = f ∙ moved-one (char ".") s from h;
  ordered = omega arith;
  seen = h;
  reads = reads-joined (reads-eat (begin_under π s from) (char ".") (behind_under π ".") (steps π).first h f) (behind_under π "1.5") D (behind_under π "1.5") (steps π).first-digit k;
  digits = only_none (D or one_of "_") s from;
}

pub first_counted : (s : List ℕ) (from d : ℕ) → At (char ".") from s → d ≡ moved from s → Counted D s from d 0 0
unfolding is_digit
first_counted s from d h f = rw (f ∙ moved-one (char ".") s from h) (counted-other D (omega arith) (counted_none D s from) (char ".") h refl refl)

-- or behind it
module _ (π : Profile) {s : List ℕ} {from at : ℕ} (p : Spelled s from at (bytes ".")) (h : sees D (drop at s) ≡ false) where
  dot-alone : EndsUnder π s from at operator_rule
  unfolding behind_under
  dot-alone = reads-stop (spelled-reads p (steps π).first-along) D operator_rule (steps π).first-stop (steps π).first-rule h

  pub dot-lexed : (r : Lexed) → r ≡ Token (kind "TK_DOT") from (at - from) (cursor at) 0 0 → LexesUnder π s from r
  unfolding rules answer operators
  dot-lexed r q = token-lexes dot-alone (kind "TK_DOT") r (rw (spelled-part p)) q

-- behind the digits of a fraction
module _ {π : Profile} {s : List ℕ} {from i at : ℕ} (a : After D (D or one_of "_.") π s from i at (behind_under π "1.5")) where
  pub fraction-e : sees (char "e" or char "E") (drop at s) ≡ true → Exponent π s from at
  unfolding behind behind_under rules operators is_digit is_hexdigit is_identifier_start is_identifier_continue is_blank
  fraction-e h = record { ordered = a.reads.ordered; e = h; reads = reads-eat a.reads (char "e" or char "E") (behind_under π "1e") (steps π).e h refl; digits = a.only }

  fraction-word : sees (char "e" or char "E") (drop at s) ≡ false → sees S (drop at s) ≡ true → EndsUnder π s from (moved at s) word_after_fraction_rule
  unfolding behind behind_under rules operators is_digit is_hexdigit is_identifier_start is_identifier_continue is_blank
  fraction-word m h =
      reads-stop (reads-eat a.reads word_start (behind "1.5a") (steps π).word (except-sees S _ _ h (misses-or _ _ _ a.line m)) refl) none word_after_fraction_rule refl refl (misses-none _)

  pub fraction-ends : sees S (drop at s) ≡ false → EndsUnder π s from at float_rule
  unfolding behind behind_under rules operators is_digit is_hexdigit is_identifier_start is_identifier_continue is_blank
  fraction-ends h = reads-stop a.reads (D or S) float_rule (steps π).stop (steps π).rule (misses-or _ _ _ a.digit h)

-- the digits behind a dot
module _ {π : Profile} {s : List ℕ} {from at dot : ℕ} (p : Fraction π s from at dot) where
  through-dot : Only (D or one_of "_.") s from at
  unfolding is_digit
  through-dot =
      rw p.next
      (only-snoc (D or one_of "_.") s from dot p.ordered (char ".") refl p.seen
      (only-inside (D or one_of "_") s from dot p.ordered (D or one_of "_.") refl p.digits))

  fraction-group : Group D s from at at
  unfolding is_digit
  fraction-group = rw p.next (group-start D s from dot p.ordered (char ".") refl p.seen)

  pub fraction-stuck : (n u : ℕ) {g e : ℕ} → Err (span g e) ≡ groups D at at n u (drop at s) → Stuck D π s from at g e underscore_rule
  fraction-stuck n u b = digits-stuck (steps π).run s from p.reads through-dot fraction-group n u b

  pub fraction-after : (n u : ℕ) {e d x : ℕ} → Ok (tally e d x) ≡ groups D at at n u (drop at s) → After D (D or one_of "_.") π s from at e (behind_under π "1.5")
  fraction-after n u b = digits-after (steps π).run s from p.reads through-dot fraction-group n u b

  pub fraction-word-lexed : {e : ℕ} → After D (D or one_of "_.") π s from at e (behind_under π "1.5") → sees (char "e" or char "E") (drop e s) ≡ false
      → sees S (drop e s) ≡ true → (r : Lexed) → r ≡ Refused BadFractionalPart dot (e - dot) (cursor from) → LexesUnder π s from r
  unfolding rules answer is_digit
  fraction-word-lexed {e} a m h r f =
      let x = fraction-word a m h in
      let o = p.ordered in
      let u = a.up in
      let q = p.next in
      let k = init-long s from e (omega arith) S h in
      let w = moved_up s e _ refl in
      let d = inside-sees (char ".") (one_of ".") refl (drop dot s) p.seen in
      let j = first-in (D or one_of "_") (one_of ".") refl s from dot _ o (omega arith) (ends-in x) p.digits d in
      span-lexes x BadFractionalPart _ _ refl _ _ (omega arith) (omega arith) r f
