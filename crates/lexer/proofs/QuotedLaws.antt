-- Strings, quoted names and blobs. Assumes nothing.
use Prim.Native.Nat.{ℕ, ◌-◌, ◌%◌}
use mathlib.Core.Path.{◌≡◌, refl, sym, subst}
use mathlib.Core.Bool.{Bool, true, false, cond, ◌&&◌, true≢false}
use mathlib.Core.List.{List, [], ◌∷◌}
use lib.Dec.{eqb}
use lib.ListN.{drop}
use borrow.Author.Tests.{eqb-true, eqb-false}
use Rattle.keywords.specs.Kinds.{kind}
use Rattle.keywords.specs.Text.{bytes}
use Rattle.keywords.proofs.Logic.{split}
use Rattle.words.specs.Bytes.{is_digit, is_hexdigit, is_identifier_start, is_identifier_continue, is_blank}
use Rattle.grammar.specs.Form.{none, H, byte, no, ◌or◌, any, one_of, holds}
use Rattle.grammar.specs.declared.profile.Profile.{Profile}
use Rattle.grammar.specs.declared.profile.Profile.TheVariants.{Turso, Sqlite}
use Rattle.grammar.specs.Classes.{operators, rules}
use Rattle.grammar.specs.Answers.{answer}
use Rattle.grammar.specs.Runs.{char, sees, moved, over}
use Rattle.grammar.proofs.States.{State, start, after, met}
use Rattle.grammar.proofs.Seen.{misses-none, at-end, over-stops, misses-or, misses-any}
use Rattle.grammar.proofs.Scan.{goes, meets, along, alternate, alternate-even, alternate-odd}
use Rattle.grammar.proofs.RulePlaces.{string_rule, quoted_name_rule, blob_rule, open_quote_rule, open_blob_rule, odd_blob_rule}
use Rattle.grammar.proofs.Reading.{Reads, ReadsUnder, Ends, EndsUnder, Spelled, behind, behind_under, spelled-first, spelled-reads, reads-alternate, reads-eat}
use Rattle.grammar.proofs.Reading.{reads-while, reads-join, reads-stop, reads_end}
use Rattle.lexer.specs.declared.lexed.Refusal.TheVariants.{UnrecognizedToken, UnterminatedLiteral}
use Rattle.lexer.specs.declared.lexed.Lexed.{Lexed}
use Rattle.lexer.specs.declared.lexed.Lexed.TheVariants.{Token, Refused}
use Rattle.lexer.specs.Eaten.{cursor, quote_kind}
use Rattle.grammar.proofs.Places.{At}
use Rattle.lexer.specs.Values.{Lexes, LexesUnder}
use Rattle.lexer.proofs.EatLaws.{Reached}
use Rattle.lexer.proofs.AnswerLaws.{token-lexes, whole-lexes}

-- in a body that the quote q opens, and behind a q in it
unfoldable pub in_quote : ℕ → State
in_quote q = after (start (rules Turso)) (q ∷ [])

unfoldable pub out_quote : ℕ → State
out_quote q = after (start (rules Turso)) (q ∷ q ∷ [])

-- the rule of what q closes
abbrev closed : ℕ → ℕ
closed q = cond (eqb q 39) string_rule quoted_name_rule

abbrev pub is_quote : ℕ → Bool
is_quote q = holds (one_of "'\"`") q

record Quote (q : ℕ) : Type 0 where
  first : along (start (rules Turso)) (q ∷ []) ≡ true
  body : goes (in_quote q) (no (byte q)) (in_quote q) && meets (in_quote q) ≡ true
  again : goes (out_quote q) (byte q) (in_quote q) && meets (in_quote q) ≡ true
  close : goes (in_quote q) (byte q) (out_quote q) && meets (out_quote q) ≡ true
  after-it : goes (out_quote q) (no (byte q)) [] ≡ true
  open-rule : met (in_quote q) ≡ open_quote_rule ∷ []
  closed-rule : met (out_quote q) ≡ closed q ∷ []

string-quote : Quote 39
unfolding in_quote out_quote rules operators is_digit is_hexdigit is_identifier_start is_identifier_continue is_blank
string-quote = record { first = refl; body = refl; again = refl; close = refl; after-it = refl; open-rule = refl; closed-rule = refl }

name-quote : Quote 34
unfolding in_quote out_quote rules operators is_digit is_hexdigit is_identifier_start is_identifier_continue is_blank
name-quote = record { first = refl; body = refl; again = refl; close = refl; after-it = refl; open-rule = refl; closed-rule = refl }

backtick : Quote 96
unfolding in_quote out_quote rules operators is_digit is_hexdigit is_identifier_start is_identifier_continue is_blank
backtick = record { first = refl; body = refl; again = refl; close = refl; after-it = refl; open-rule = refl; closed-rule = refl }

quote : (q : ℕ) → is_quote q ≡ true → Quote q
quote q =
    split (eqb q 39)
    (λ e. λ h. subst Quote (sym (eqb-true q 39 e)) string-quote)
    (λ e. split (eqb q 34)
    (λ f. λ h. subst Quote (sym (eqb-true q 34 f)) name-quote)
    (λ f. split (eqb q 96)
    (λ g. λ h. subst Quote (sym (eqb-true q 96 g)) backtick)
    (λ g. rw (e, f, g) (λ h. absurd (true≢false (sym h))))))

module _ (q : ℕ) (i : is_quote q ≡ true) {s : List ℕ} {from : ℕ} where
  pub quote-opens : At (byte q) from s → {d : ℕ} → d ≡ moved from s → Reads s from d (in_quote q)
  unfolding in_quote
  quote-opens h f = spelled-reads (spelled-first q s from h f) (quote q i).first

  pub quote-open : {at d : ℕ} → Reads s from at (in_quote q) → d ≡ over (no (byte q)) at s → sees (byte q) (drop d s) ≡ false → Ends s from d open_quote_rule
  quote-open p f h =
      reads_end (reads-while p (no (byte q)) (quote q i).body f) open_quote_rule (quote q i).open-rule (at-end (byte q) _ h (over-stops _ _ _ _ f))

  pub quote-found : {at d : ℕ} → Reads s from at (in_quote q) → Reached q s at d → Reads s from d (out_quote q)
  quote-found p r = reads-eat (reads-while p (no (byte q)) (quote q i).body r.run) (byte q) (out_quote q) (quote q i).close r.seen r.next

  pub quote-closed : {at : ℕ} → Reads s from at (out_quote q) → sees (byte q) (drop at s) ≡ false → Ends s from at (closed q)
  quote-closed p h = reads-stop p (byte q) (closed q) (quote q i).after-it (quote q i).closed-rule h

  pub quote-again : {at d : ℕ} → Reads s from at (out_quote q) → sees (byte q) (drop at s) ≡ true → d ≡ moved at s → Reads s from d (in_quote q)
  quote-again p h f = reads-eat p (byte q) (in_quote q) (quote q i).again h f

pub open-lexed : {π : Profile} {s : List ℕ} {from at : ℕ} → EndsUnder π s from at open_quote_rule → (r : Lexed)
    → r ≡ Refused UnterminatedLiteral from (at - from) (cursor from) → LexesUnder π s from r
unfolding rules answer
open-lexed e r f = whole-lexes e UnterminatedLiteral r refl f

pub quoted-lexed : (q : ℕ) {s : List ℕ} {from at : ℕ} → Ends s from at (closed q) → (k : ℕ) → k ≡ quote_kind q → (r : Lexed)
    → r ≡ Token k from (at - from) (cursor at) 0 0
    → Lexes s from r
unfolding rules answer
quoted-lexed q =
    split (eqb q 39)
    (λ e. rw e (λ p k d r f. token-lexes p k r (rw d) f))
    (λ e. rw e (λ p k d r f. token-lexes p k r (rw d) f))

-- behind `x'`: digits, an even number or an odd one
module _ {s : List ℕ} {from at : ℕ} (p : Reads s from at (behind "x'")) {d : ℕ} (f : d ≡ over H at s) where
  digits-read : Reads s from d (alternate (d - at) (behind "x'11") (behind "x'1"))
  unfolding behind rules operators is_digit is_hexdigit is_identifier_start is_identifier_continue is_blank
  digits-read = reads-alternate (reads-join p (behind "x'11") any refl refl (misses-any _)) (behind "x'1") H refl refl f

  even-read : (d - at) % 2 ≡ 0 → Reads s from d (behind "x'11")
  even-read e = subst (Reads s from d) (alternate-even (behind "x'11") (behind "x'1") (d - at) e) digits-read

  odd-read : ((d - at) % 2 ≡ 0 → ⊥) → Reads s from d (behind "x'1")
  odd-read e = subst (Reads s from d) (alternate-odd (behind "x'11") (behind "x'1") (d - at) e) digits-read

  -- no quote follows
  pub blob-open : sees (char "'") (drop d s) ≡ false → Ends s from d open_blob_rule
  unfolding behind rules operators is_digit is_hexdigit is_identifier_start is_identifier_continue is_blank
  blob-open h =
      let m = misses-or H (char "'") (drop d s) (over-stops _ _ _ _ f) h in
      split (eqb ((d - at) % 2) 0)
      (λ e. reads-stop (even-read (eqb-true _ _ e)) (H or char "'") open_blob_rule refl refl m)
      (λ e. reads-stop (odd-read (eqb-false _ _ e)) (H or char "'") open_blob_rule refl refl m)

  module _ (h : sees (char "'") (drop d s) ≡ true) {e : ℕ} (g : e ≡ moved d s) where
    pub blob-odd : ((d - at) % 2 ≡ 0 → ⊥) → Ends s from e odd_blob_rule
    unfolding behind rules operators is_digit is_hexdigit is_identifier_start is_identifier_continue is_blank
    blob-odd o = reads-stop (reads-eat (odd-read o) (char "'") (behind "x'1'") refl h g) none odd_blob_rule refl refl (misses-none _)

    pub blob-even : (d - at) % 2 ≡ 0 → Ends s from e blob_rule
    unfolding behind rules operators is_digit is_hexdigit is_identifier_start is_identifier_continue is_blank
    blob-even o = reads-stop (reads-eat (even-read o) (char "'") (behind "x''") refl h g) none blob_rule refl refl (misses-none _)

module _ {s : List ℕ} {from at : ℕ} (r : Lexed) where
  pub blob-open-lexed : Ends s from at open_blob_rule → r ≡ Refused UnterminatedLiteral from (at - from) (cursor from) → Lexes s from r
  unfolding rules answer
  blob-open-lexed e f = whole-lexes e UnterminatedLiteral r refl f

  pub blob-odd-lexed : Ends s from at odd_blob_rule → r ≡ Refused UnrecognizedToken from (at - from) (cursor from) → Lexes s from r
  unfolding rules answer
  blob-odd-lexed e f = whole-lexes e UnrecognizedToken r refl f

  pub blob-lexed : Ends s from at blob_rule → r ≡ Token (kind "TK_BLOB") from (at - from) (cursor at) 0 0 → Lexes s from r
  unfolding rules answer
  blob-lexed e f = token-lexes e (kind "TK_BLOB") r refl f

-- `[` up to the first `]`, which is a name under the profile Sqlite
module _ {s : List ℕ} {from at : ℕ} (p : Spelled s from at (bytes "[")) where
  in-bracket : {d : ℕ} → d ≡ over (no (char "]")) at s → ReadsUnder Sqlite s from d (behind_under Sqlite "[")
  unfolding behind_under rules operators is_digit is_hexdigit is_identifier_start is_identifier_continue is_blank
  in-bracket f = reads-while (spelled-reads p refl) (no (char "]")) refl f

  pub bracket-open : {d : ℕ} → d ≡ over (no (char "]")) at s → sees (char "]") (drop d s) ≡ false → EndsUnder Sqlite s from d open_quote_rule
  unfolding behind_under rules operators is_digit is_hexdigit is_identifier_start is_identifier_continue is_blank
  bracket-open f h = reads_end (in-bracket f) open_quote_rule refl (at-end (char "]") _ h (over-stops _ _ _ _ f))

  pub bracket-closed : {d : ℕ} → Reached 93 s at d → EndsUnder Sqlite s from d quoted_name_rule
  unfolding behind_under rules operators is_digit is_hexdigit is_identifier_start is_identifier_continue is_blank
  bracket-closed r =
      reads-stop (reads-eat (in-bracket r.run) (char "]") (behind_under Sqlite "[]") refl r.seen r.next) none quoted_name_rule refl refl (misses-none _)

pub bracket-lexed : {s : List ℕ} {from at : ℕ} → EndsUnder Sqlite s from at quoted_name_rule → (r : Lexed)
    → r ≡ Token (kind "TK_ID") from (at - from) (cursor at) 0 0 → LexesUnder Sqlite s from r
unfolding rules answer
bracket-lexed e r f = token-lexes e (kind "TK_ID") r refl f
