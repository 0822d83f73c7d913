-- The exponent of a number. Assumes nothing.
use Prim.Native.Nat.{ℕ, ◌+◌, ◌-◌, ◌≤◌, ◌<◌}
use native.Mathlib.Omega.{arith}
use mathlib.Core.Path.{◌≡◌, refl, sym, ◌∙◌}
use mathlib.Core.Bool.{true, false, ◌&&◌}
use mathlib.Core.Logic.{◌⊎◌, inl, inr}
use mathlib.Core.List.{List, [], ◌∷◌}
use lib.Dec.{eqb}
use lib.ListN.{length, drop}
use Rattle.std.specs.Prelude.{Ok, Err}
use Rattle.keywords.proofs.Logic.{split, or-false}
use Rattle.words.specs.Bytes.{is_digit, is_hexdigit, is_identifier_start, is_identifier_continue, is_blank}
use Rattle.grammar.specs.declared.profile.Profile.{Profile}
use Rattle.grammar.specs.declared.profile.Profile.TheVariants.{Turso, Sqlite}
use Rattle.grammar.specs.Form.{none, D, S, byte, no, any, ◌or◌, ◌except◌, one_of}
use Rattle.grammar.specs.Classes.{exponent_start, operators, rules}
use Rattle.grammar.specs.Answers.{first, answer}
use Rattle.grammar.specs.Runs.{char, sees, part, moved, optional}
use Rattle.grammar.proofs.States.{met}
use Rattle.grammar.proofs.Scan.{goes, meets}
use Rattle.grammar.proofs.Seen.{misses-none, misses-or, or-other, inside-sees, except-sees}
use Rattle.grammar.proofs.Seen.{moved-one, moved_up, optional-one, optional-none, optional-up}
use Rattle.grammar.proofs.RulePlaces.{float_rule, underscore_rule, no_exponent_rule, word_after_exponent_rule}
use Rattle.grammar.proofs.Reading.{ReadsUnder, EndsUnder, behind, behind_under, ends-long, ends-in, reads-eat, reads-joined, reads-stop}
use Rattle.lexer.specs.declared.lexed.Refusal.TheVariants.{BadExponentPart}
use Rattle.lexer.specs.declared.lexed.Lexed.{Lexed}
use Rattle.lexer.specs.declared.lexed.Lexed.TheVariants.{Refused}
use Rattle.lexer.specs.Eaten.{cursor, tally, groups, span}
use Rattle.grammar.proofs.Places.{Group, Counted, Exponent}
use Rattle.lexer.specs.Values.{LexesUnder}
use Rattle.lexer.proofs.SpanLaws.{init-long, only-any, first-in, group-start}
use Rattle.lexer.proofs.CountLaws.{counted-other}
use Rattle.lexer.proofs.DigitLaws.{Run, After, Stuck, digits-after, digits-stuck}
use Rattle.lexer.proofs.NumberLaws.{span-lexes}

exponent-run : Run D any (behind "1e5") (behind "1e_") underscore_rule
unfolding behind behind_under rules operators is_digit is_hexdigit is_identifier_start is_identifier_continue is_blank
exponent-run = record { digit = refl; line = refl; back = refl; stop = refl; rule = refl; digits_in = refl; line-in = refl; apart = refl }

-- the steps, under each profile; only document 01's has a `_` here
record Steps (π : Profile) : Type 0 where
  sign : goes (behind_under π "1e") (char "+" or char "-") (behind_under π "1e+") && meets (behind_under π "1e+") ≡ true
  stop : goes (behind_under π "1e") (no (exponent_start π or char "+" or char "-")) [] ≡ true
  rule : met (behind_under π "1e") ≡ no_exponent_rule ∷ []
  sign-stop : goes (behind_under π "1e+") (no (exponent_start π)) [] ≡ true
  sign-rule : met (behind_under π "1e+") ≡ no_exponent_rule ∷ []

steps : (π : Profile) → Steps π
unfolding behind behind_under rules operators is_digit is_hexdigit is_identifier_start is_identifier_continue is_blank
steps Turso = record { sign = refl; stop = refl; rule = refl; sign-stop = refl; sign-rule = refl }
steps Sqlite = record { sign = refl; stop = refl; rule = refl; sign-stop = refl; sign-rule = refl }

-- what may begin an exponent's digits, as it is tested
pub begins-turso : {π : Profile} → π ≡ Turso → (l : List ℕ) → sees (D or byte 95) l ≡ sees (exponent_start π) l
unfolding sees
begins-turso e [] = refl
begins-turso e (b ∷ l) = rw (e, or-false (eqb b 95))

pub begins-near : {π : Profile} → π ≡ Sqlite → (l : List ℕ) → sees D l ≡ sees (exponent_start π) l
begins-near e l = rw e

-- what may begin an exponent's digits leads on
begins : (π : Profile) {s : List ℕ} {from n : ℕ} → ReadsUnder π s from n (behind_under π "1e") ⊎ ReadsUnder π s from n (behind_under π "1e+")
    → sees (exponent_start π) (drop n s) ≡ true → ReadsUnder π s from n (behind "1e5")
unfolding behind behind_under rules operators is_digit is_hexdigit is_identifier_start is_identifier_continue is_blank
begins Turso {s} {from} {n} (inl q) h =
    split (sees D (drop n s))
    (λ x. reads-joined q (behind "1e5") D (behind "1e5") refl x)
    (λ m. reads-joined q (behind "1e5") (one_of "_") (behind "1e_") refl (or-other D (one_of "_") (drop n s) h m))
begins Turso {s} {from} {n} (inr q) h =
    split (sees D (drop n s))
    (λ x. reads-joined q (behind "1e5") D (behind "1e5") refl x)
    (λ m. reads-joined q (behind "1e5") (one_of "_") (behind "1e_") refl (or-other D (one_of "_") (drop n s) h m))
begins Sqlite (inl q) h = reads-joined q (behind "1e5") D (behind "1e5") refl h
begins Sqlite (inr q) h = reads-joined q (behind "1e5") D (behind "1e5") refl h

-- behind an exponent's digits
module _ {π : Profile} {s : List ℕ} {from i at : ℕ} (a : After D any π s from i at (behind "1e5")) where
  exponent-word : sees S (drop at s) ≡ true → EndsUnder π s from (moved at s) word_after_exponent_rule
  unfolding behind behind_under rules operators is_digit is_hexdigit is_identifier_start is_identifier_continue is_blank
  exponent-word h =
      reads-stop (reads-eat a.reads (S except char "_") (behind "1e5a") refl (except-sees S _ _ h a.line) refl) none word_after_exponent_rule refl refl (misses-none _)

  pub exponent-ends : sees S (drop at s) ≡ false → EndsUnder π s from at float_rule
  unfolding behind behind_under rules operators is_digit is_hexdigit is_identifier_start is_identifier_continue is_blank
  exponent-ends h = reads-stop a.reads (D or S) float_rule refl refl (misses-or _ _ _ a.digit h)

-- the exponent, behind its `e` and sign
module _ {π : Profile} {s : List ℕ} {from at d n : ℕ} (p : Exponent π s from at) (f : d ≡ moved at s) (g : n ≡ optional (char "+" or char "-") d s) where
  next : d ≡ at + 1
  next = f ∙ moved-one (char "e" or char "E") s at p.e

  e-reads : ReadsUnder π s from d (behind_under π "1e")
  e-reads = rw f p.reads

  signed : sees (char "+" or char "-") (drop d s) ≡ true → ReadsUnder π s from n (behind_under π "1e+")
  signed h = reads-eat e-reads (char "+" or char "-") (behind_under π "1e+") (steps π).sign h (g ∙ optional-one _ s d h ∙ sym (moved-one _ s d h))

  unsigned : sees (char "+" or char "-") (drop d s) ≡ false → n ≡ d
  unsigned h = g ∙ optional-none _ s d h

  exponent-group : Group D s from n n
  unfolding is_digit
  exponent-group =
      let o = p.ordered in
      split (sees (char "+" or char "-") (drop d s))
      (λ h. rw (g ∙ optional-one _ s d h) (group-start D s from d e-reads.ordered (char "+" or char "-") refl h))
      (λ h. rw (unsigned h ∙ next) (group-start D s from at o (char "e" or char "E") refl p.e))

  -- neither `e` nor sign is a digit or `_`
  pub exponent-counted : {i u : ℕ} → Counted D s from at i u → Counted D s from n i u
  unfolding is_digit
  exponent-counted {i} {u} c =
      let behind-e : Counted D s from d i u = rw next (counted-other D p.ordered c (char "e" or char "E") p.e refl refl) in
      split (sees (char "+" or char "-") (drop d s))
      (λ h. rw (g ∙ optional-one _ s d h) (counted-other D e-reads.ordered behind-e (char "+" or char "-") h refl refl))
      (λ h. rw (unsigned h) behind-e)

  pub exponent-up : from ≤ n
  exponent-up = omega (arith, p.ordered, next, optional-up _ s d n g)

  -- digits follow
  exponent-digits : sees (exponent_start π) (drop n s) ≡ true → ReadsUnder π s from n (behind "1e5")
  exponent-digits h =
      split (sees (char "+" or char "-") (drop d s))
      (λ k. begins π (inr (signed k)) h)
      (λ k. begins π (inl (rw (unsigned k) e-reads)) h)

  -- or none
  exponent-none : sees (exponent_start π) (drop n s) ≡ false → EndsUnder π s from n no_exponent_rule
  exponent-none x =
      split (sees (char "+" or char "-") (drop d s))
      (λ h. reads-stop (signed h) (exponent_start π) no_exponent_rule (steps π).sign-stop (steps π).sign-rule x)
      (λ h. let e = unsigned h in
      let q : ReadsUnder π s from n (behind_under π "1e") = rw e e-reads in
      reads-stop q (exponent_start π or char "+" or char "-") no_exponent_rule (steps π).stop (steps π).rule (misses-or _ _ _ x (rw e h)))

  -- the span begins with the `e`
  first-e : {i : ℕ} → at < i → i ≤ length s → first (one_of "eE") (part s from i) ≡ at - from
  unfolding is_digit
  first-e {i} l h =
      first-in (D or one_of "_.") (one_of "eE") refl s from at i p.ordered l h p.digits
      (inside-sees (char "e" or char "E") (one_of "eE") refl (drop at s) p.e)

  up-sign : at < n
  up-sign = let m = next in split (sees (char "+" or char "-") (drop d s)) (λ h. omega (arith, g, optional-one _ s d h)) (λ h. omega (arith, unsigned h))

  pub sign-up : at ≤ n
  sign-up = omega (arith, up-sign)

  pub exponent-missing-lexed : sees (exponent_start π) (drop n s) ≡ false → (r : Lexed) → r ≡ Refused BadExponentPart at (n - at) (cursor from) → LexesUnder π s from r
  unfolding rules answer
  exponent-missing-lexed h r f =
      let x = exponent-none h in
      let l = ends-long x in
      let o = p.ordered in
      let u = up-sign in
      let j = first-e u (ends-in x) in
      span-lexes x BadExponentPart _ _ refl _ _ (omega arith) (omega arith) r f

  module _ (h : sees (exponent_start π) (drop n s) ≡ true) where
    pub exponent-stuck : (m u : ℕ) {k e : ℕ} → Err (span k e) ≡ groups D n n m u (drop n s) → Stuck D π s from n k e underscore_rule
    exponent-stuck m u b = digits-stuck exponent-run s from (exponent-digits h) (only-any s from n) exponent-group m u b

    pub exponent-after : (m u : ℕ) {e i v : ℕ} → Ok (tally e i v) ≡ groups D n n m u (drop n s) → After D any π s from n e (behind "1e5")
    exponent-after m u b = digits-after exponent-run s from (exponent-digits h) (only-any s from n) exponent-group m u b

  pub exponent-word-lexed : {e : ℕ} → After D any π s from n e (behind "1e5") → sees S (drop e s) ≡ true
      → (r : Lexed) → r ≡ Refused BadExponentPart at (e - at) (cursor from) → LexesUnder π s from r
  unfolding rules answer
  exponent-word-lexed {e} a h r f =
      let x = exponent-word a h in
      let o = p.ordered in
      let u = up-sign in
      let v = a.up in
      let w = init-long s from e (omega arith) S h in
      let j = first-e (omega (arith, moved_up s e _ refl)) (ends-in x) in
      span-lexes x BadExponentPart _ _ refl _ _ (omega arith) (omega arith) r f
