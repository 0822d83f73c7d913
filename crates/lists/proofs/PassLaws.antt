-- Where `pass` stands in its loop, and what it leaves where it stops. Assumes nothing.
use Prim.Native.Nat.{ℕ, ◌+◌, ◌*◌, ◌-◌, ◌≤◌, ◌<◌}
use native.Mathlib.Omega.{arith}
use mathlib.Core.Path.{◌≡◌, refl, sym, ◌∙◌, ap, subst}
use mathlib.Core.Bool.{Bool, true, false, true≢false}
use mathlib.Core.List.{List, [], ◌∷◌, ◌++◌}
use lib.Dec.{leb}
use lib.ListN.{length, length-append}
use lib.Seq.{slice}
use borrow.Author.Tests.{leb-true, leb-false, le-leb, lt-leb}
use Rattle.records.specs.declared.Record.{Record}
use Rattle.records.specs.Records.{width, is_free, with_record}
use Rattle.records.proofs.RecordLaws.{with_none, Front, front-none, front_long, front-more}
use Rattle.places.specs.declared.Line.{Line}
use Rattle.places.specs.Lines.{line_over, line_of}
use Rattle.places.proofs.Theorems.{first, goes-along, column-of}
use Rattle.grammar.specs.Answers.{Answer, token, end}
use Rattle.grammar.specs.Longest.{Source, Next}
use Rattle.lexer.specs.declared.cursor.Cursor.{Cursor}
use Rattle.lexer.specs.declared.lexed.Refusal.{Refusal}
use Rattle.lexer.specs.declared.lexed.Lexed.TheVariants.{Token, End as Over, Refused as Bad}
use Rattle.lexer.specs.Values.{LexesUnder, values_of, number_of}
use Rattle.walks.specs.Walk.{Legal, token_of, Goes, Passes, Walk}
use Rattle.walks.proofs.WalkLaws.{legal, legal_of, token-told, token-passes, passes_count, end-no-token, refusal-no-token}
use Rattle.lists.specs.declared.pass.There.{There}
use Rattle.lists.specs.declared.pass.There.TheVariants.{Lexeme, End, Refused}
use Rattle.lists.specs.declared.pass.Stop.{Stop}
use Rattle.lists.specs.Lists.{record_of, records_of, longest_text}
use Rattle.lists.specs.Parts.{kept, Allowed}
use Rattle.lists.specs.Lines.{record_on, line_behind}
use Rattle.lists.specs.Passing.{stop_of, from_kind, Meets, Passing}
use Rattle.lists.proofs.LinesLaws.{behind-token, record-made}
use Rattle.lists.proofs.KeptLaws.{records-append, records-many, kept-few, kept-one, kept-none}

-- the records of the lexemes that get one stand at the front of the list, and fill i numbers; each lexeme passed has cost one of the
-- allowance; `here` is the line at the place reached
pub record Inside (s : Source) (from least allowance : ℕ) (old out : List ℕ) (at : ℕ) (here : Line) (i left : ℕ) : Type 0 where
  pub passed : List Legal
  pub passes : Passes (Allowed (from_kind least) (length old) allowance) s [] from passed at
  pub filled : i ≡ width * length (kept (from_kind least) passed)
  pub remains : left + length passed ≡ allowance
  pub front : Front (records_of s.text (kept (from_kind least) passed)) old out
  pub line : at ≤ length s.text → here ≡ line_of s.text at

pub begins : (s : Source) (from least allowance : ℕ) (old : List ℕ) (here : Line) → length s.text ≤ longest_text
    → here ≡ line_over (record { number = 1; start = 0 }) 0 (slice 0 from s.text)
    → Inside s from least allowance old old from here 0 allowance
unfolding Passes kept records_of
begins s from least allowance old here short e =
    record {
      passed = [];
      passes = refl;
      filled = refl;
      remains = omega arith;
      front = front-none old;
      line = λ h.
          e ∙ ap (λ (l : Line). line_over l 0 (slice 0 from s.text)) (sym (first s.text)) ∙
          goes-along s.text 0 from (omega arith) (omega arith) h;
    }

module _ {s : Source} {from least allowance : ℕ} {old out : List ℕ} {at : ℕ} {here : Line} {i left : ℕ}
    (v : Inside s from least allowance old out at here i left) where
  abbrev goes : Goes
  goes = Allowed (from_kind least) (length old) allowance

  pub same-long : length out ≡ length old
  same-long = front_long v.front

  -- what is left if the walk stops here
  abbrev Leaves : List ℕ → Cursor → There → Type 0
  Leaves now next there = (r : Stop) → r ≡ stop_of i left next there → Passing s from (from_kind least) allowance old r now

  stops_so : (x : There) (next : Cursor) (there : Answer) → Meets x next.at at there → Next s at there
      → ((t : Legal) → there ≡ token_of t → goes v.passed t → ⊥) → Leaves out next x
  stops_so x next there m g stuck r e =
      let w : Walk goes s from = record { passed = v.passed; to = at; passes = v.passes; there = there; gives = g; stops = stuck } in
      subst (λ (r : Stop). Passing s from (from_kind least) allowance old r out) (sym e)
      (record { walk = w; meets = m; filled = v.filled; left = v.remains; written = v.front.holds })

  pub end-passing : (next : Cursor) → LexesUnder s.profile s.text at (Over next) → Leaves out next End
  unfolding LexesUnder
  end-passing next g = stops_so End next (end next.at) refl g (λ t e o. end-no-token next.at t e)

  pub refusal-passing : (why : Refusal) (start m : ℕ) (next : Cursor) → LexesUnder s.profile s.text at (Bad why start m next)
      → Leaves out next (Refused why start m)
  unfolding LexesUnder
  refusal-passing why start m next g =
      stops_so (Refused why start m) next (values_of (Bad why start m next)) refl g
      (λ t e o. refusal-no-token (number_of why) start m next.at t e)

  module _ (k start m : ℕ) (next : Cursor) (d u : ℕ) (h : LexesUnder s.profile s.text at (Token k start m next d u)) where
    abbrev t : Legal
    t = legal k start m d u

    -- a lexeme that is not passed
    held : (given : Cursor) → at ≡ given.at → (goes v.passed t → ⊥) → Leaves out given Lexeme
    unfolding LexesUnder
    held given p stuck =
        stops_so Lexeme given (token k start m next.at d u) (sym p) h (λ x e o. stuck (subst (goes v.passed) (sym (ap legal_of e)) o))

    pub spent-passing : (given : Cursor) → at ≡ given.at → left ≡ 0 → Leaves out given Lexeme
    spent-passing given p none = held given p (λ o. omega (arith, o.0, v.remains))

    module _ (short : length s.text ≤ longest_text) where
      -- a token stands on this line
      stands : here ≡ line_of s.text at
      stands = let o = token-told s at k start m next d u h in v.line (omega (arith, o.goes, o.inside))

      -- what its record, and the line behind it, ask for
      pub asked : (here.start ≤ at) × (at + m ≤ longest_text)
      asked = let o = token-told s at k start m next d u h in (rw stands (column-of s.text at).0, omega (arith, o.goes, o.inside))

      -- the records so far are no more than the longest text has bytes
      pub few : i ≤ width * longest_text
      few =
          let o = token-told s at k start m next d u h in
          let n = v.filled in
          let less = kept-few (from_kind least) v.passed in
          let count = passes_count goes s [] from v.passed at v.passes in
          omega (arith, o.goes, o.inside)

      module _ (more : left ≡ 0 → ⊥) (here' : Line) (moved : here' ≡ line_behind s.text k at m here) where
        -- one lexeme more
        on : (out' : List ℕ) (i' : ℕ) → (leb least k ≡ true → width * length (kept (from_kind least) v.passed) + width ≤ length old)
            → i' ≡ width * length (kept (from_kind least) (v.passed ++ (t ∷ [])))
            → Front (records_of s.text (kept (from_kind least) (v.passed ++ (t ∷ [])))) old out'
            → Inside s from least allowance old out' next.at here' i' (left - 1)
        unfolding LexesUnder
        on out' i' room e f =
            let one = length-append v.passed (t ∷ []) in
            let r = v.remains in
            let some : 0 < left = positive left more in
            record {
              passed = v.passed ++ (t ∷ []);
              passes = token-passes goes s from v.passed at k start m next.at d u v.passes h (omega arith, room);
              filled = e;
              remains = omega arith;
              front = f;
              line = λ x. moved ∙ ap (line_behind s.text k at m) stands ∙ behind-token s at k start m next.at d u h short;
            }
          where
            positive : (n : ℕ) → (n ≡ 0 → ⊥) → 0 < n
            positive n f = omega (arith, f)

        -- without a record
        pub blank-on : k < least → (out' : List ℕ) (i' : ℕ) → out' ≡ out → i' ≡ i
            → Inside s from least allowance old out' next.at here' i' (left - 1)
        blank-on below out' i' e f =
            let none = lt-leb least k below in
            let same = kept-none (from_kind least) v.passed t none in
            let front = subst (λ (l : List Legal). Front (records_of s.text l) old out) (sym same) v.front in
            on out' i' (λ g. absurd (true≢false (sym g ∙ none)))
            (f ∙ v.filled ∙ ap (λ (l : List Legal). width * length l) (sym same))
            (subst (Front (records_of s.text (kept (from_kind least) (v.passed ++ (t ∷ [])))) old) (sym e) front)

        -- with its record, where that has room
        pub record-on : least ≤ k → (free : Bool) (out' : List ℕ) → free ≡ is_free out i → out' ≡ with_record out i (record_on here k at m)
            → free ≡ true → (i' : ℕ) → i' ≡ i + width → Inside s from least allowance old out' next.at here' i' (left - 1)
        unfolding LexesUnder records_of
        record-on above free out' f e fits i' more =
            let keeps = le-leb least k above in
            let l = kept (from_kind least) v.passed in
            let r = record_of s.text t in
            let rs = records_of s.text l in
            let made : record_on here k at m ≡ r = ap (λ (x : Line). record_on x k at m) stands ∙ record-made s at k start m next.at d u h in
            let room = leb-true (i + width) (length out) (sym f ∙ fits) in
            let same = same-long in
            let n = v.filled in
            let many = records-many s.text l in
            let at_i : width * length rs ≡ i = omega arith in
            let front = subst (λ (a : ℕ). Front (rs ++ (r ∷ [])) old (with_record out a r)) at_i (front-more v.front r (omega arith)) in
            let written : with_record out i r ≡ out' = ap (with_record out i) (sym made) ∙ sym e in
            let front = subst (Front (rs ++ (r ∷ [])) old) written front in
            let one = kept-one (from_kind least) v.passed t keeps in
            let all : records_of s.text (kept (from_kind least) (v.passed ++ (t ∷ []))) ≡ rs ++ (r ∷ []) =
            ap (records_of s.text) one ∙ records-append s.text l (t ∷ []) in
            let long = ap length one ∙ length-append l (t ∷ []) in
            on out' i' (λ x. omega arith) (omega arith) (subst (λ (x : List Record). Front x old out') (sym all) front)

    -- no room for its record
    module _ (above : least ≤ k) (free : Bool) (out' : List ℕ) (f : free ≡ is_free out i)
        (e : out' ≡ with_record out i (record_on here k at m)) (none : free ≡ false) where
      pub full-same : out' ≡ out
      full-same = e ∙ with_none out i (record_on here k at m) (sym f ∙ none)

      pub full-passing : (given : Cursor) → at ≡ given.at → Leaves out' given Lexeme
      full-passing given p r x =
          let room = leb-false (i + width) (length out) (sym f ∙ none) in
          let same = same-long in
          let n = v.filled in
          subst (Passing s from (from_kind least) allowance old r) (sym full-same)
          (held given p (λ o. let free = o.1 (le-leb least k above) in omega arith) r x)
