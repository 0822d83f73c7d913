-- Parameters, and the colon. Assumes nothing.
use Prim.Native.Nat.{ℕ, ◌-◌}
use mathlib.Core.Path.{◌≡◌, refl}
use mathlib.Core.Bool.{true, false}
use mathlib.Core.List.{List}
use lib.ListN.{drop}
use Rattle.keywords.specs.Kinds.{kind}
use Rattle.keywords.specs.Text.{bytes}
use Rattle.words.specs.Bytes.{is_digit, is_hexdigit, is_identifier_start, is_identifier_continue, is_blank}
use Rattle.grammar.specs.Form.{none, D, S, C, blank, no, ◌or◌, any}
use Rattle.grammar.specs.declared.profile.Profile.{Profile}
use Rattle.grammar.specs.declared.profile.Profile.TheVariants.{Turso, Sqlite}
use Rattle.grammar.specs.Classes.{operators, rules}
use Rattle.grammar.specs.Answers.{answer}
use Rattle.grammar.specs.Runs.{char, sees, sees_pair, moved, over}
use Rattle.grammar.proofs.Seen.{inside-misses, misses-none, misses-or, over-stops, misses-any}
use Rattle.grammar.proofs.RulePlaces.{operator_rule, parameter_rule, nameless_rule, unclosed_rule}
use Rattle.grammar.proofs.Reading.{Reads, ReadsUnder, EndsUnder, Ends, Spelled, behind, spelled-reads, spelled-part, reads-eat, reads-while, reads-join}
use Rattle.grammar.proofs.Reading.{reads-joined, reads-joined-pair, reads-pair, reads-no-pair, reads-stop}
use Rattle.lexer.specs.declared.lexed.Refusal.TheVariants.{UnrecognizedToken}
use Rattle.lexer.specs.declared.lexed.Lexed.{Lexed}
use Rattle.lexer.specs.declared.lexed.Lexed.TheVariants.{Token, Refused}
use Rattle.lexer.specs.Eaten.{cursor}
use Rattle.grammar.proofs.Places.{Named}
use Rattle.lexer.specs.Values.{Lexes, LexesUnder}
use Rattle.lexer.proofs.AnswerLaws.{token-lexes, whole-lexes}

-- the answers
module _ {π : Profile} {s : List ℕ} {from at : ℕ} (r : Lexed) where
  pub variable-lexed : EndsUnder π s from at parameter_rule → r ≡ Token (kind "TK_VARIABLE") from (at - from) (cursor at) 0 0 → LexesUnder π s from r
  unfolding rules answer
  variable-lexed e q = token-lexes e (kind "TK_VARIABLE") r refl q

  pub nameless-lexed : EndsUnder π s from at nameless_rule → r ≡ Refused UnrecognizedToken from (at - from) (cursor from) → LexesUnder π s from r
  unfolding rules answer
  nameless-lexed e q = whole-lexes e UnrecognizedToken r refl q

  pub unclosed-lexed : EndsUnder π s from at unclosed_rule → r ≡ Refused UnrecognizedToken from (at - from) (cursor from) → LexesUnder π s from r
  unfolding rules answer
  unclosed-lexed e q = whole-lexes e UnrecognizedToken r refl q

-- `?` and digits
pub numbered-ends : {s : List ℕ} {from at d : ℕ} → Spelled s from at (bytes "?") → d ≡ over D at s → Ends s from d parameter_rule
unfolding behind rules operators is_digit is_hexdigit is_identifier_start is_identifier_continue is_blank
numbered-ends p f = reads-stop (reads-while (spelled-reads p refl) D refl f) D parameter_rule refl refl (over-stops _ _ _ _ f)

-- the byte that begins a parameter with a name
pub dollar-reads : (π : Profile) {s : List ℕ} {from at : ℕ} → Spelled s from at (bytes "$") → ReadsUnder π s from at (behind "$")
unfolding behind rules operators is_digit is_hexdigit is_identifier_start is_identifier_continue is_blank
dollar-reads Turso p = spelled-reads p refl
dollar-reads Sqlite p = reads-join (spelled-reads p refl) (behind "$") any refl refl (misses-any _)

-- under the profile Sqlite `@` and `:` begin nothing else
pub sqlite-at : {s : List ℕ} {from at : ℕ} → Spelled s from at (bytes "@") → ReadsUnder Sqlite s from at (behind "$")
unfolding behind rules operators is_digit is_hexdigit is_identifier_start is_identifier_continue is_blank
sqlite-at p = reads-join (spelled-reads p refl) (behind "$") any refl refl (misses-any _)

pub sqlite-colon : {s : List ℕ} {from at : ℕ} → Spelled s from at (bytes ":") → ReadsUnder Sqlite s from at (behind "$")
unfolding behind rules operators is_digit is_hexdigit is_identifier_start is_identifier_continue is_blank
sqlite-colon p = reads-join (spelled-reads p refl) (behind "$") any refl refl (misses-any _)

pub at_reads : {s : List ℕ} {from at : ℕ} → Spelled s from at (bytes "@") → sees (char ">") (drop at s) ≡ false → Reads s from at (behind "$")
unfolding behind rules operators is_digit is_hexdigit is_identifier_start is_identifier_continue is_blank
at_reads p h = reads-join (spelled-reads p refl) (behind "$") (no (char ">")) refl refl (inside-misses (no (no (char ">"))) (char ">") refl _ h)

module _ {s : List ℕ} {from at : ℕ} (p : Spelled s from at (bytes ":")) where
  pub colon-start : sees S (drop at s) ≡ true → Reads s from at (behind "$")
  unfolding behind rules operators is_digit is_hexdigit is_identifier_start is_identifier_continue is_blank
  colon-start h = reads-joined (spelled-reads p refl) (behind "$") S (behind "$a") refl h

  pub colon-pair : sees_pair (drop at s) ≡ true → Reads s from at (behind "$")
  unfolding behind rules operators is_digit is_hexdigit is_identifier_start is_identifier_continue is_blank
  colon-pair h = reads-joined-pair (spelled-reads p refl) (behind "$:") (behind "$") (behind "$") refl refl h

  colon-ends : sees S (drop at s) ≡ false → sees_pair (drop at s) ≡ false → Ends s from at operator_rule
  unfolding behind rules operators is_digit is_hexdigit is_identifier_start is_identifier_continue is_blank
  colon-ends h n = reads-no-pair (spelled-reads p refl) (behind "$:") S operator_rule refl refl refl h n

  pub colon-lexed : sees S (drop at s) ≡ false → sees_pair (drop at s) ≡ false → (r : Lexed) → r ≡ Token (kind "TK_COLON") from (at - from) (cursor at) 0 0 → Lexes s from r
  unfolding rules answer operators
  colon-lexed h n r q = token-lexes (colon-ends h n) (kind "TK_COLON") r (rw (spelled-part p)) q

-- pairs before the first identifier byte
module _ {π : Profile} {s : List ℕ} {from at : ℕ} (p : ReadsUnder π s from at (behind "$")) where
  pub nameless-more : sees_pair (drop at s) ≡ true → {d e : ℕ} → d ≡ moved at s → e ≡ moved d s → ReadsUnder π s from e (behind "$")
  unfolding behind rules operators is_digit is_hexdigit is_identifier_start is_identifier_continue is_blank
  nameless-more h f g = reads-pair p (behind "$:") (behind "$") refl h f g

  pub nameless-ends : sees C (drop at s) ≡ false → sees_pair (drop at s) ≡ false → EndsUnder π s from at nameless_rule
  unfolding behind rules operators is_digit is_hexdigit is_identifier_start is_identifier_continue is_blank
  nameless-ends h n = reads-no-pair p (behind "$:") C nameless_rule refl refl refl h n

  pub name-reads : sees C (drop at s) ≡ true → ReadsUnder π s from at (behind "$a")
  unfolding behind rules operators is_digit is_hexdigit is_identifier_start is_identifier_continue is_blank
  name-reads h = reads-joined p (behind "$a") C (behind "$a") refl h

-- a name
module _ {π : Profile} {s : List ℕ} {from at : ℕ} (p : ReadsUnder π s from at (behind "$a")) where
  pub name-while : {d : ℕ} → d ≡ over C at s → ReadsUnder π s from d (behind "$a")
  unfolding behind rules operators is_digit is_hexdigit is_identifier_start is_identifier_continue is_blank
  name-while f = reads-while p C refl f

  pub name-more : sees_pair (drop at s) ≡ true → {d e : ℕ} → d ≡ moved at s → e ≡ moved d s → ReadsUnder π s from e (behind "$a")
  unfolding behind rules operators is_digit is_hexdigit is_identifier_start is_identifier_continue is_blank
  name-more h f g = reads-pair p (behind "$a:") (behind "$a") refl h f g

-- behind it
module _ {π : Profile} {s : List ℕ} {from at : ℕ} (p : Named π s from at) where
  pub name-ends : sees (char "(") (drop at s) ≡ false → EndsUnder π s from at parameter_rule
  unfolding behind rules operators is_digit is_hexdigit is_identifier_start is_identifier_continue is_blank
  name-ends h = reads-no-pair p.reads (behind "$a:") (C or char "(") parameter_rule refl refl refl (misses-or _ _ _ p.byte h) p.pair

  module _ (h : sees (char "(") (drop at s) ≡ true) {d e : ℕ} (f : d ≡ moved at s) (g : e ≡ over (no (char ")" or blank)) d s) where
    suffix-reads : ReadsUnder π s from e (behind "$a(")
    unfolding behind rules operators is_digit is_hexdigit is_identifier_start is_identifier_continue is_blank
    suffix-reads = reads-while (reads-eat p.reads (char "(") (behind "$a(") refl h f) (no (char ")" or blank)) refl g

    pub suffix-open : sees (char ")") (drop e s) ≡ false → EndsUnder π s from e unclosed_rule
    unfolding behind rules operators is_digit is_hexdigit is_identifier_start is_identifier_continue is_blank
    suffix-open n =
        reads-stop suffix-reads (char ")" or no (char ")" or blank)) unclosed_rule refl refl (misses-or _ _ _ n (over-stops _ _ _ _ g))

    pub suffix-closed : sees (char ")") (drop e s) ≡ true → {i : ℕ} → i ≡ moved e s → EndsUnder π s from i parameter_rule
    unfolding behind rules operators is_digit is_hexdigit is_identifier_start is_identifier_continue is_blank
    suffix-closed n k = reads-stop (reads-eat suffix-reads (char ")") (behind "$a()") refl n k) none parameter_rule refl refl (misses-none _)
