-- What `list` answers where its walk stops. Assumes nothing.
use Prim.Native.Nat.{ℕ, ◌+◌, ◌*◌, ◌/◌, ◌≤◌, ◌<◌}
use native.Mathlib.Omega.{arith}
use mathlib.Core.Path.{◌≡◌, refl, sym, ◌∙◌, ap, subst}
use mathlib.Core.Bool.{true}
use mathlib.Core.List.{List, []}
use mathlib.Core.Logic.{inl, inr}
use lib.ListN.{length}
use borrow.Author.Tests.{le-leb}
use Rattle.records.specs.Records.{width, at_front}
use Rattle.grammar.specs.Answers.{Answer, token, end, refusal}
use Rattle.grammar.specs.Longest.{Source, Next}
use Rattle.grammar.proofs.Tokens.{told}
use Rattle.lexer.specs.declared.cursor.Cursor.{Cursor}
use Rattle.lexer.specs.declared.lexed.Refusal.{Refusal}
use Rattle.lexer.specs.Values.{number_of}
use Rattle.walks.specs.Walk.{Legal, token_of, Goes}
use Rattle.walks.proofs.WalkLaws.{passes-also, passes_count}
use Rattle.lists.specs.declared.list.Listed.TheVariants.{End, Refused, TooLong, ListFull}
use Rattle.lists.specs.declared.pass.There.{There}
use Rattle.lists.specs.declared.pass.There.TheVariants.{Lexeme, End as AtEnd, Refused as AtRefusal}
use Rattle.lists.specs.declared.pass.Stop.{Stop}
use Rattle.lists.specs.Lists.{records_of, HasRoom, list_full, list_answer, longest_text, Listing, Lists}
use Rattle.lists.specs.Parts.{kept, Allowed}
use Rattle.lists.specs.Passing.{from_kind, Meets, Passing}
use Rattle.lists.proofs.KeptLaws.{kept-every}

-- the answer by what the walk met
full-met : (next at : ℕ) (a : Answer) → Meets Lexeme next at a → list_full next ≡ list_answer at a
full-met next at (token k start n behind d u) e = ap list_full e
full-met next at (end offset) e = absurd e
full-met next at (refusal k start n offset) e = absurd e

module _ (s : Source) (from least allowance : ℕ) (old : List ℕ) (stop : Stop) (new : List ℕ)
    (w : Passing s from (from_kind least) allowance old stop new)
    (all : least ≡ 0) (short : length s.text ≤ longest_text) (ample : longest_text < allowance) where
  every : (t : Legal) → from_kind least t ≡ true
  every t = le-leb least t.kind (omega arith)

  same : (l : List Legal) → kept (from_kind least) l ≡ l
  same = kept-every (from_kind least) every

  -- a text has no more lexemes than bytes, so that the allowance is never spent
  unspent : (t : Legal) → w.walk.there ≡ token_of t → length w.walk.passed < allowance
  unspent t e =
      let v = w.walk in
      let count = passes_count (Allowed (from_kind least) (length old) allowance) s [] from v.passed v.to v.passes in
      let o =
      told s.profile s.text v.to t.kind t.start t.length (t.start + t.length) t.digits t.underscores
      (subst (Next s v.to) e v.gives) in
      omega (arith, o.goes, o.some, o.inside)

  listing : (a : Answer) → a ≡ list_answer w.walk.to w.walk.there → Listing s from old a (stop.filled / width) new
  listing a e =
      let v = w.walk in
      let room : Goes = HasRoom (length old) in
      let passed = same v.passed in
      let many : stop.filled ≡ width * length v.passed = w.filled ∙ ap (λ (l : List Legal). width * length l) passed in
      record {
        walk =
            record {
              passed = v.passed;
              to = v.to;
              passes =
                  passes-also (Allowed (from_kind least) (length old) allowance) room
                  (λ b t o. subst (λ (l : List Legal). room l t) (same b) (o.1 (every t))) s [] from v.passed v.to v.passes;
              there = v.there;
              gives = v.gives;
              stops = λ t e o. v.stops t e (unspent t e, λ k. subst (λ (l : List Legal). room l t) (sym passed) o);
            };
        answers = e;
        counted = omega (arith, many);
        written = w.written ∙ ap (λ (l : List Legal). at_front (records_of s.text l) old) passed;
      }

  met : (x : There) → stop.there ≡ x → Meets x stop.next.at w.walk.to w.walk.there
  met x e = subst (λ (x : There). Meets x stop.next.at w.walk.to w.walk.there) e w.meets

  pub lists-full : stop.there ≡ Lexeme → Lists s from old (ListFull (stop.filled / width) stop.next) new
  unfolding Lists
  lists-full e =
      inr (short, listing (list_full stop.next.at) (full-met stop.next.at w.walk.to w.walk.there (met Lexeme e)))

  pub lists-end : stop.there ≡ AtEnd → Lists s from old (End (stop.filled / width) stop.next) new
  unfolding Lists
  lists-end e =
      inr (short, listing (end stop.next.at) (ap (list_answer w.walk.to) (sym (met AtEnd e))))

  pub lists-refused : (why : Refusal) (start n : ℕ) → stop.there ≡ AtRefusal why start n
      → Lists s from old (Refused why start n (stop.filled / width) stop.next) new
  unfolding Lists
  lists-refused why start n e =
      inr (short, listing (refusal (number_of why) start n stop.next.at) (ap (list_answer w.walk.to) (sym (met (AtRefusal why start n) e))))

-- a text that is too long
pub too-long-lists : (s : Source) (from : ℕ) (old : List ℕ) (next : Cursor) → from ≡ next.at → longest_text < length s.text
    → Lists s from old (TooLong next) old
unfolding Lists
too-long-lists s from old next e h = inl (h, rw e refl, refl, refl)
