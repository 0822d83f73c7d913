-- A row is filled to its last byte: `$`, 2,047 letters and `:(`. Not before the `(` it is settled that the parameter ends before the colon.
-- Assumes nothing.
use Prim.Native.Nat.{ℕ, zero, suc, ◌+◌, ◌≤◌}
use native.Mathlib.Omega.{arith}
use native.Mathlib.Nat.{add-zero, zero-add}
use mathlib.Core.Path.{◌≡◌, refl, sym, ◌∙◌, ap, subst}
use mathlib.Core.Bool.{Bool, true, false, cond}
use mathlib.Core.List.{List, [], ◌∷◌, ◌++◌}
use lib.ListN.{length, replicate, length-append, length-replicate}
use lib.Seq.{take_all}
use borrow.Author.Tests.{le-leb, lt-leb}
use Rattle.words.specs.Bytes.{is_digit, is_hexdigit, is_identifier_start, is_identifier_continue, is_blank}
use Rattle.grammar.specs.declared.profile.Profile.{Profile}
use Rattle.grammar.specs.declared.profile.Profile.TheVariants.{Turso, Sqlite}
use Rattle.readings.specs.declared.reading.Reading.TheVariants.{Start, Named}
use Rattle.readings.specs.declared.reading.Named.TheVariants.{Sigil, Name, NameColon}
use Rattle.readings.specs.Arrows.{onward, is_lexeme, is_settled}
use Rattle.intake.specs.declared.state.Stream.{Stream}
use Rattle.stream.specs.declared.stream.Given.{Given}
use Rattle.intake.specs.Takes.{limit, room, is_over, is_ready, takes, taken_of, text_of, read_then, ready_then}
use Rattle.stream.specs.Calls.{begun, moved, Course, refuse_lexeme, lex, ask_more, Goes, Offered}
use Rattle.stream.proofs.HeldLaws.{answers-held}
use Rattle.stream.proofs.CallLaws.{allowed}

abbrev letters : ℕ → List ℕ
letters n = replicate n 97

-- from so many letters on
abbrev filling : ℕ → List ℕ
filling n = 36 ∷ 97 ∷ (letters n ++ 58 ∷ 40 ∷ [])

abbrev pub filler : List ℕ
filler = filling 2046

module _ (p : Profile) where
  sigil : onward p Start 36 ≡ Named Sigil
  unfolding onward is_digit is_hexdigit is_identifier_start is_identifier_continue is_blank
  sigil = by p
    where
      by : (p : Profile) → onward p Start 36 ≡ Named Sigil
      by Turso = refl
      by Sqlite = refl

  name : onward p (Named Sigil) 97 ≡ Named Name
  unfolding onward is_digit is_identifier_start is_identifier_continue
  name = refl

  on : onward p (Named Name) 97 ≡ Named Name
  unfolding onward is_digit is_identifier_start is_identifier_continue
  on = refl

  colon : onward p (Named Name) 58 ≡ Named NameColon
  unfolding onward is_digit is_identifier_start is_identifier_continue
  colon = refl

  -- of a name as long as a lexeme may be one byte more is wanted
  wants : (h : ℕ) → h ≤ limit → is_ready room (Named Name) h ≡ false
  unfolding is_ready is_over is_settled
  wants h l = rw (le-leb h limit l, lt-leb room h (omega arith))

  run : (n h : ℕ) (s : List ℕ) → h + n ≤ limit → takes room p (Named Name) h (letters n ++ s) ≡ n + takes room p (Named Name) (h + n) s
  unfolding takes
  run zero h s l = ap (λ (k : ℕ). takes room p (Named Name) k s) (sym (add-zero h)) ∙ sym (zero-add _)
  run (suc n) h s l =
      let k : suc h + n ≡ h + suc n = omega arith in
      let r = run n (suc h) s (omega arith) in
      rw (wants h (omega arith), on) (omega (arith, r, ap (λ (k : ℕ). takes room p (Named Name) k s) k))

  last : takes room p (Named Name) limit (58 ∷ 40 ∷ []) ≡ 2
  unfolding takes is_ready is_over is_settled is_lexeme
  last = rw colon refl

  all : (n : ℕ) → 2 + n ≡ limit → takes room p Start 0 (filling n) ≡ n + 4
  unfolding takes is_ready is_over is_settled
  all n e =
      let r = run n 2 (58 ∷ 40 ∷ []) (omega arith) in
      let s = ap (λ (k : ℕ). takes room p (Named Name) k (58 ∷ 40 ∷ [])) e in
      rw (sigil, name) (omega (arith, r, s, last))

taking-held : (ready over : Bool) (s m : Stream) (text : List ℕ) (n : ℕ) (row : List ℕ) (g : Given) (new : List ℕ)
    → Goes (cond ready (cond over refuse_lexeme lex) ask_more) s m text n row g new → (g.taken ≡ n) × (g.stream.held ≡ m.held)
taking-held false over s m text n row g new (r, e) = (r.taken, ap (λ (q : Stream). q.held) r.left)
taking-held true true s m text n row g new (r, e) = (r.taken, ap (λ (q : Stream). q.held) r.left)
taking-held true false s m text n row g new (r, e) = (r.taken, answers-held m text n g r)

filling-long : (n : ℕ) → length (filling n) ≡ n + 4
filling-long n = omega (arith, length-append (letters n) (58 ∷ 40 ∷ []), length-replicate {A = ℕ} n 97)

filled : (p : Profile) (row : List ℕ) → length row ≡ room → (n : ℕ) → 2 + n ≡ limit → (g : Given) (new : List ℕ) → Offered (begun p) row (filling n) g new
    → (g.taken ≡ limit + 2) × (g.stream.held ≡ limit + 2)
unfolding Offered
filled p row long n e g new h =
    let s = begun p in
    let part = filling n in
    let taking = subst (λ (c : Course). Goes c s (moved s row part) (text_of s row part) (taken_of s row part) row g new) (allowed s row part refl (omega (arith, filling-long n))) h in
    let (a, b) = taking-held (ready_then s row part) (is_over (read_then s row part) (length (text_of s row part))) s (moved s row part) (text_of s row part) (taken_of s row part) row g new taking in
    let t : taken_of s row part ≡ n + 4 = ap (λ (full : ℕ). takes full p Start 0 part) long ∙ all p n e in
    let whole : text_of s row part ≡ part = take_all (taken_of s row part) part (omega (arith, t, filling-long n)) in
    (omega (arith, a, t), omega (arith, b, ap length whole, filling-long n))

-- All of it is taken and held.
pub reached : (p : Profile) (row : List ℕ) → length row ≡ room → (g : Given) (new : List ℕ) → Offered (begun p) row filler g new
    → (g.taken ≡ limit + 2) × (g.stream.held ≡ limit + 2)
reached p row long g new h = filled p row long 2046 refl g new h
