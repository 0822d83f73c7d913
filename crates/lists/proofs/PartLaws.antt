-- What `list_part` answers where its walk stops. Assumes nothing.
use Prim.Native.Nat.{ℕ, zero, suc, ◌+◌, ◌-◌, ◌/◌, ◌≤◌, ◌<◌}
use native.Mathlib.Omega.{arith}
use mathlib.Core.Path.{◌≡◌, refl, sym, ◌∙◌, ap, subst, fun_ext}
use mathlib.Core.Bool.{Bool, true, false, not}
use mathlib.Core.List.{List}
use mathlib.Core.Logic.{inl, inr}
use lib.Dec.{eqb, leb}
use lib.ListN.{length}
use borrow.Author.Tests.{eq-eqb, ne_eqb, le-leb}
use Rattle.keywords.specs.Kinds.{kind}
use Rattle.records.specs.Records.{width}
use Rattle.grammar.specs.Answers.{Answer, token, end, refusal}
use Rattle.grammar.specs.Longest.{Source}
use Rattle.lexer.specs.declared.cursor.Cursor.{Cursor}
use Rattle.lexer.specs.declared.lexed.Refusal.{Refusal}
use Rattle.lexer.specs.Values.{number_of}
use Rattle.walks.specs.Walk.{not_none}
use Rattle.lists.specs.declared.part.Part.TheVariants.{End, Refused, TooLong, Paused, ListFull}
use Rattle.lists.specs.declared.pass.There.{There}
use Rattle.lists.specs.declared.pass.There.TheVariants.{Lexeme, End as AtEnd, Refused as AtRefusal}
use Rattle.lists.specs.declared.pass.Stop.{Stop}
use Rattle.lists.specs.Lists.{list_full, longest_text}
use Rattle.lists.specs.Parts.{Keeps, not_blank, PartAnswer, given, paused_at, part_answer, Parting, Parts}
use Rattle.lists.specs.Passing.{from_kind, Meets, Passing}

-- the kinds from the one behind TK_NONE on are all but TK_NONE
not_none_lem : (k : ℕ) → leb (kind "TK_NONE" + 1) k ≡ not_none k
not_none_lem zero = refl
not_none_lem (suc k) =
    let some : 1 ≤ suc k = omega arith in
    let other : suc k ≡ 0 → ⊥ = λ e. omega arith in
    le-leb 1 (suc k) some ∙ sym (ap not (ne_eqb (suc k) 0 other))

not-blank : from_kind (kind "TK_NONE" + 1) ≡ not_blank
not-blank = fun_ext (λ t. not_none_lem t.kind)

-- the answer by what the walk met
paused-met : (next at : ℕ) (a : Answer) → Meets Lexeme next at a → paused_at next ≡ part_answer at true a
paused-met next at (token k start n behind d u) e = ap paused_at e
paused-met next at (end offset) e = absurd e
paused-met next at (refusal k start n offset) e = absurd e

full-met : (next at : ℕ) (a : Answer) → Meets Lexeme next at a → given (list_full next) ≡ part_answer at false a
full-met next at (token k start n behind d u) e = ap (λ (x : ℕ). given (list_full x)) e
full-met next at (end offset) e = absurd e
full-met next at (refusal k start n offset) e = absurd e

module _ (s : Source) (from least allowance : ℕ) (old : List ℕ) (stop : Stop) (new : List ℕ)
    (w : Passing s from (from_kind least) allowance old stop new)
    (behind : least ≡ kind "TK_NONE" + 1) (short : length s.text ≤ longest_text) where
  tokens : Passing s from not_blank allowance old stop new
  tokens =
      subst (λ (keeps : Keeps). Passing s from keeps allowance old stop new)
      (ap from_kind behind ∙ not-blank) w

  parting : (a : PartAnswer) (spent : Bool) → eqb (length tokens.walk.passed) allowance ≡ spent
      → a ≡ part_answer tokens.walk.to spent tokens.walk.there
      → Parting s from allowance old a (stop.filled / width) (allowance - stop.left) new
  parting a spent b e =
      let v = tokens in
      record {
        walk = v.walk;
        answers = e ∙ ap (λ (x : Bool). part_answer v.walk.to x v.walk.there) (sym b);
        counted = omega (arith, v.filled);
        costs = omega (arith, v.left);
        written = v.written;
      }

  met : (x : There) → stop.there ≡ x → Meets x stop.next.at tokens.walk.to tokens.walk.there
  met x e = subst (λ (x : There). Meets x stop.next.at tokens.walk.to tokens.walk.there) e tokens.meets

  pub parts-paused : stop.there ≡ Lexeme → stop.left ≡ 0
      → Parts s from allowance old (Paused (stop.filled / width) (allowance - stop.left) stop.next) new
  unfolding Parts
  parts-paused e none =
      let v = tokens in
      let spent = eq-eqb (length v.walk.passed) allowance (omega (arith, v.left)) in
      inr (short, parting (paused_at stop.next.at) true spent (paused-met stop.next.at v.walk.to v.walk.there (met Lexeme e)))

  pub parts-full : stop.there ≡ Lexeme → (stop.left ≡ 0 → ⊥)
      → Parts s from allowance old (ListFull (stop.filled / width) (allowance - stop.left) stop.next) new
  unfolding Parts
  parts-full e some =
      let v = tokens in
      let spent = ne_eqb (length v.walk.passed) allowance (λ f. some (omega (arith, v.left))) in
      inr (short, parting (given (list_full stop.next.at)) false spent (full-met stop.next.at v.walk.to v.walk.there (met Lexeme e)))

  pub parts-end : stop.there ≡ AtEnd → Parts s from allowance old (End (stop.filled / width) (allowance - stop.left) stop.next) new
  unfolding Parts
  parts-end e =
      let v = tokens.walk in
      let spent = eqb (length v.passed) allowance in
      inr (short, parting (given (end stop.next.at)) spent refl (ap (part_answer v.to spent) (sym (met AtEnd e))))

  pub parts-refused : (why : Refusal) (start n : ℕ) → stop.there ≡ AtRefusal why start n
      → Parts s from allowance old (Refused why start n (stop.filled / width) (allowance - stop.left) stop.next) new
  unfolding Parts
  parts-refused why start n e =
      let v = tokens.walk in
      let spent = eqb (length v.passed) allowance in
      let a = refusal (number_of why) start n stop.next.at in
      inr (short, parting (given a) spent refl (ap (part_answer v.to spent) (sym (met (AtRefusal why start n) e))))

-- a text that is too long
pub too-long-parts : (s : Source) (from allowance : ℕ) (old : List ℕ) (next : Cursor) → from ≡ next.at → longest_text < length s.text
    → Parts s from allowance old (TooLong next) old
unfolding Parts
too-long-parts s from allowance old next e h = inl (h, rw e refl, refl, refl, refl)
