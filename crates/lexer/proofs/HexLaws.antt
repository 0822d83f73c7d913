-- Hexadecimal integers, behind `0x`. Assumes nothing.
use Prim.Native.Nat.{ℕ, ◌+◌, ◌-◌, ◌≤◌}
use native.Mathlib.Omega.{arith}
use mathlib.Core.Path.{◌≡◌, refl, sym, ◌∙◌, ap}
use mathlib.Core.Bool.{Bool, true, false, true≢false}
use mathlib.Core.List.{List}
use lib.ListN.{drop}
use Rattle.std.specs.Prelude.{Ok, Err}
use Rattle.keywords.proofs.Logic.{split}
use Rattle.words.specs.Bytes.{is_digit, is_hexdigit, is_identifier_start, is_identifier_continue, is_blank}
use Rattle.grammar.specs.Form.{none, H, S, any, no, ◌or◌, ◌except◌}
use Rattle.grammar.specs.declared.profile.Profile.TheVariants.{Turso}
use Rattle.grammar.specs.Classes.{operators, rules}
use Rattle.grammar.specs.Answers.{after_last, init, answer}
use Rattle.grammar.specs.Runs.{char, sees, part, moved}
use Rattle.grammar.proofs.Seen.{misses-none, misses-or, except-sees}
use Rattle.grammar.proofs.RulePlaces.{integer_rule, no_hexdigit_rule, underscore_after_x_rule, hex_underscore_rule, word_after_hex_rule}
use Rattle.grammar.proofs.Reading.{Reads, Ends, behind, ends-long, reads-eat, reads-joined, reads-stop}
use Rattle.lexer.specs.declared.lexed.Refusal.TheVariants.{BadNumber, MalformedHexInteger}
use Rattle.lexer.specs.declared.lexed.Lexed.{Lexed}
use Rattle.lexer.specs.declared.lexed.Lexed.TheVariants.{Refused}
use Rattle.lexer.specs.Eaten.{cursor, tally, groups, hex_groups, Digits, span}
use Rattle.grammar.proofs.Places.{Counted, Hex}
use Rattle.lexer.specs.Values.{Lexes}
use Rattle.lexer.proofs.SpanLaws.{init-part, init-long, only-any}
use Rattle.lexer.proofs.CountLaws.{hex-apart, counted_none, counted-run}
use Rattle.lexer.proofs.GroupLaws.{end_of, first_of, groups-read, hex-groups, hex-empty}
use Rattle.lexer.proofs.DigitLaws.{Run, After, Stuck, digits-after, digits-stuck}
use Rattle.lexer.proofs.NumberLaws.{span-lexes}

hex-run : Run H any (behind "0x1") (behind "0x1_") hex_underscore_rule
unfolding behind rules operators is_digit is_hexdigit is_identifier_start is_identifier_continue is_blank
hex-run = record { digit = refl; line = refl; back = refl; stop = refl; rule = refl; digits_in = refl; line-in = refl; apart = refl }

-- `_` with no digit next: the span begins with the last group
module _ {s : List ℕ} {from i g e : ℕ} (r : Lexed) (f : r ≡ Refused BadNumber g (e - g) (cursor from)) where
  hex-stuck-lexed : from + 2 ≤ i → Stuck H Turso s from i g e hex_underscore_rule → Lexes s from r
  unfolding rules answer
  hex-stuck-lexed h b =
      let z = init-part s from b.line (omega arith) e b.last b.text in
      let n = b.group in
      let u = b.up in
      let m : after_last (no H) (init (part s from e)) ≡ g - from = rw z (omega arith) in
      let l = ends-long b.ends in
      span-lexes b.ends BadNumber _ _ refl _ _ (omega arith) (omega arith) r f

-- behind `0x`, with so many digits and underscores counted
module _ {s : List ℕ} {from at : ℕ} (p : Hex s from at) (n u : ℕ) where
  hex-reads : sees H (drop at s) ≡ true → Reads s from at (behind "0x1")
  unfolding behind rules operators is_digit is_hexdigit is_identifier_start is_identifier_continue is_blank
  hex-reads h = reads-joined p.reads (behind "0x1") H (behind "0x1") refl h

  hex-line : sees (char "_") (drop at s) ≡ true → Ends s from (moved at s) underscore_after_x_rule
  unfolding behind rules operators is_digit is_hexdigit is_identifier_start is_identifier_continue is_blank
  hex-line h = reads-stop (reads-eat p.reads (char "_") (behind "0x_") refl h refl) none underscore_after_x_rule refl refl (misses-none _)

  hex-none : sees H (drop at s) ≡ false → sees (char "_") (drop at s) ≡ false → Ends s from at no_hexdigit_rule
  unfolding behind rules operators is_digit is_hexdigit is_identifier_start is_identifier_continue is_blank
  hex-none x y = reads-stop p.reads (H or char "_") no_hexdigit_rule refl refl (misses-or _ _ _ x y)

  -- what a run is, if it does not begin with `_`
  hex-plain : {d : Digits} → d ≡ hex_groups at n u (drop at s) → sees (char "_") (drop at s) ≡ false → d ≡ groups H at at n u (drop at s)
  hex-plain b h = b ∙ hex-groups at n u (drop at s) h

  -- `_` at once, or behind digits
  pub hex-bad-lexed : {g e : ℕ} → Err (span g e) ≡ hex_groups at n u (drop at s) → (r : Lexed) → r ≡ Refused BadNumber g (e - g) (cursor from)
      → Lexes s from r
  unfolding rules answer
  hex-bad-lexed {g} {e} b r f =
      let w = p.two in
      split (sees (char "_") (drop at s))
      (λ h. let z = b ∙ hex-empty at n u (drop at s) h in
      let x : g ≡ at = ap first_of z in
      let y : e ≡ at = ap end_of z in
      span-lexes (hex-line h) BadNumber 2 0 refl g (e - g) (omega arith) (omega arith) r f)
      (λ h. split (sees H (drop at s))
      (λ k. hex-stuck-lexed r f (omega arith) (digits-stuck hex-run s from (hex-reads k) (only-any s from at) p.run n u (hex-plain b h)))
      (λ k. absurd (let z = hex-plain b h ∙ groups-read H at at n u (drop at s) k h in let y : ◌≡◌ {A = Bool} true false = cc in true≢false y)))

  pub hex-span : {g e : ℕ} → Err (span g e) ≡ hex_groups at n u (drop at s) → g ≤ e
  hex-span {g} {e} b =
      split (sees (char "_") (drop at s))
      (λ h. let z = b ∙ hex-empty at n u (drop at s) h in omega (arith, ap first_of z, ap end_of z))
      (λ h. split (sees H (drop at s))
      (λ k. let stuck = digits-stuck hex-run s from (hex-reads k) (only-any s from at) p.run n u (hex-plain b h) in
      omega (arith, stuck.inside, stuck.last))
      (λ k. absurd (let z = hex-plain b h ∙ groups-read H at at n u (drop at s) k h in let y : ◌≡◌ {A = Bool} true false = cc in true≢false y)))

  module _ {e i v : ℕ} (b : Ok (tally e i v) ≡ hex_groups at n u (drop at s)) where
    starts : sees (char "_") (drop at s) ≡ false
    starts =
        split (sees (char "_") (drop at s))
        (λ h. absurd (let z = b ∙ hex-empty at n u (drop at s) h in let y : ◌≡◌ {A = Bool} true false = cc in true≢false y))
        (λ h. h)

    pub hex-after : (at ≡ e → ⊥) → After H any Turso s from at e (behind "0x1")
    hex-after m =
        split (sees H (drop at s))
        (λ k. digits-after hex-run s from (hex-reads k) (only-any s from at) p.run n u (hex-plain b starts))
        (λ k. absurd (m (sym (ap end_of (hex-plain b starts ∙ groups-read H at at n u (drop at s) k starts)))))

    hex-missing : at ≡ e → Ends s from at no_hexdigit_rule
    hex-missing m =
        split (sees H (drop at s))
        (λ k. let a = digits-after hex-run s from (hex-reads k) (only-any s from at) p.run n u (hex-plain b starts) in
        absurd (true≢false (sym k ∙ rw m a.digit)))
        (λ k. hex-none k starts)

    pub hex-missing-lexed : at ≡ e → (r : Lexed) → r ≡ Refused MalformedHexInteger from (e - from) (cursor from) → Lexes s from r
    unfolding rules answer
    hex-missing-lexed m r f = let w = p.two in span-lexes (hex-missing m) MalformedHexInteger 0 2 refl _ _ (omega arith) (omega arith) r f

-- the digits and underscores behind `0x`
pub hex-counted : {s : List ℕ} {from at : ℕ} → Hex s from at → {e d x : ℕ} → Ok (tally e d x) ≡ hex_groups at 0 0 (drop at s) → Counted H s at e d x
hex-counted {s} {from} {at} p b = counted-run hex-apart s at at 0 0 (omega arith) (counted_none H s at) (hex-plain p 0 0 b (starts p 0 0 b))

-- behind hexadecimal digits
module _ {s : List ℕ} {from i at : ℕ} (a : After H any Turso s from i at (behind "0x1")) where
  hex-word : sees S (drop at s) ≡ true → Ends s from (moved at s) word_after_hex_rule
  unfolding behind rules operators is_digit is_hexdigit is_identifier_start is_identifier_continue is_blank
  hex-word h =
      reads-stop (reads-eat a.reads (S except (H or char "_")) (behind "0x1g") refl (except-sees S _ _ h (misses-or _ _ _ a.digit a.line)) refl)
      none word_after_hex_rule refl refl (misses-none _)

  pub hex-word-lexed : sees S (drop at s) ≡ true → (r : Lexed) → r ≡ Refused BadNumber from (at - from) (cursor from) → Lexes s from r
  unfolding rules answer
  hex-word-lexed h r f =
      let k = init-long s from at a.reads.ordered S h in
      span-lexes (hex-word h) BadNumber _ _ refl _ _ (omega arith) (omega arith) r f

  pub hex-ends : sees S (drop at s) ≡ false → Ends s from at integer_rule
  unfolding behind rules operators is_digit is_hexdigit is_identifier_start is_identifier_continue is_blank
  hex-ends h = reads-stop a.reads (H or S) integer_rule refl refl (misses-or _ _ _ a.digit h)
