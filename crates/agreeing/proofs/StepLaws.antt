-- A record beside what `next` gives at a place, and what `next` gives behind the last record. Assumes nothing.
use Prim.Native.Nat.{ℕ, ◌+◌}
use mathlib.Core.Path.{◌≡◌, refl, sym, ◌∙◌, ap, subst}
use mathlib.Core.Bool.{true, false, true≢false}
use lib.Seq.{slice}
use Rattle.grammar.specs.Classes.{rules}
use Rattle.grammar.specs.Answers.{token, end, refusal}
use Rattle.grammar.specs.Longest.{Source, Next}
use Rattle.grammar.proofs.Unique.{gives-unique}
use Rattle.lexer.specs.declared.cursor.Cursor.{Cursor}
use Rattle.lexer.specs.declared.lexed.Lexed.{Lexed}
use Rattle.lexer.specs.declared.lexed.Lexed.TheVariants.{Token, End as Over, Refused as Bad}
use Rattle.lexer.specs.Values.{LexesUnder, number_of}
use Rattle.records.specs.declared.Record.{Record}
use Rattle.places.specs.declared.Line.{Line}
use Rattle.places.specs.Lines.{line_over}
use Rattle.walks.specs.Walk.{token_of}
use Rattle.walks.proofs.WalkLaws.{legal, legal_of, is-legal, token-told, end-no-token, refusal-no-token}
use Rattle.lists.specs.Lines.{record_on}
use Rattle.std.specs.Prelude.{Some, None, Ok, Err}
use Rattle.agreeing.specs.declared.CheckError.TheVariants.{ListDiffers}
use Rattle.agreeing.specs.declared.step.Place.{Place}
use Rattle.agreeing.specs.Agreeing.{same}
use Rattle.agreeing.specs.Steps.{own_record, Steps, Finishes}
use Rattle.agreeing.proofs.AgreeLaws.{same-is, same_self}

module _ (s : Source) (p : Place) (r : Record) where
  -- no lexeme is there
  pub none-there : (there : Lexed) → LexesUnder s.profile s.text p.next.at there
      → ((k start m : ℕ) (next : Cursor) (d u : ℕ) → there ≡ Token k start m next d u → ⊥) → Steps s p r None
  unfolding Steps LexesUnder
  none-there (Token k start n next d u) g other t h e = other k start n next d u refl
  none-there (Over next) g other t h e =
      end-no-token next.at t (gives-unique (rules s.profile) s.text p.next.at (end next.at) (token_of t) g h)
  none-there (Bad why start n next) g other t h e =
      refusal-no-token (number_of why) start n next.at t
      (gives-unique (rules s.profile) s.text p.next.at (refusal (number_of why) start n next.at) (token_of t) g h)

  -- a lexeme is there, and the record is its own, or not
  module _ (k start m : ℕ) (next : Cursor) (d u : ℕ) (h : LexesUnder s.profile s.text p.next.at (Token k start m next d u)) where
    pub its_own : true ≡ same (record_on p.line k start m) r → (line : Line) → line ≡ line_over p.line start (slice start next.at s.text)
        → Steps s p r (Some (record { next = next; line = line }))
    unfolding Steps LexesUnder
    its_own e line l =
        let o = token-told s p.next.at k start m next d u h in
        let ends : next.at ≡ start + m = o.goes ∙ ap (λ (a : ℕ). a + m) (sym o.starts) in (
          legal k start m d u,
          subst (Next s p.next.at) (is-legal s p.next.at k start m next.at d u h) h,
          same-is (record_on p.line k start m) r (sym e),
          ends,
          l ∙ ap (λ (a : ℕ). line_over p.line start (slice start a s.text)) ends,
        )

    pub not-its-own : false ≡ same (record_on p.line k start m) r → Steps s p r None
    unfolding Steps LexesUnder
    not-its-own e t g q =
        let same-token = ap legal_of (gives-unique (rules s.profile) s.text p.next.at (token k start m next.at d u) (token_of t) h g) in
        let is : record_on p.line k start m ≡ r = ap (own_record p) same-token ∙ q in
        true≢false (sym (same_self r) ∙ ap (λ (x : Record). same x r) (sym is) ∙ sym e)

-- behind the last record
module _ (s : Source) (at count : ℕ) where
  pub finishes-end : (next : Cursor) → LexesUnder s.profile s.text at (Over next) → Finishes s at count (Ok tt)
  unfolding LexesUnder
  finishes-end next g = record { there = end next.at; gives = g; answers = refl }

  pub finishes-early : (there : Lexed) → LexesUnder s.profile s.text at there → ((next : Cursor) → there ≡ Over next → ⊥)
      → Finishes s at count (Err (ListDiffers count))
  unfolding LexesUnder
  finishes-early (Token k start m next d u) g other = record { there = token k start m next.at d u; gives = g; answers = refl }
  finishes-early (Over next) g other = absurd (other next refl)
  finishes-early (Bad why start m next) g other = record { there = refusal (number_of why) start m next.at; gives = g; answers = refl }
