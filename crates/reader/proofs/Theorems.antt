-- For readers. `next-unique`, `remaining-unique`: two results that meet a contract are equal, of `remaining` but for a name that no program
-- sees. `past_end`: what a reader gives whose offset lies past the end. `table-read`: readers handed back one after the other answer what the
-- grammar's table says. `moves-on`: a token leads on, inside the text. Assumes nothing.
use Prim.Native.Nat.{ℕ, ◌≤◌, ◌<◌}
use native.Mathlib.Omega.{arith}
use mathlib.Core.Path.{◌≡◌, refl, sym, ◌∙◌, ap, subst₃}
use mathlib.Core.List.{List, [], ◌∷◌}
use mathlib.Core.Logic.{inl}
use lib.ListN.{length, drop, drop_of_length-le}
use denote.Ref.{Bor}
use Rattle.std.specs.Prelude.{None}
use Rattle.grammar.specs.declared.profile.Profile.{Profile}
use Rattle.grammar.specs.Answers.{Answer, refusal}
use Rattle.grammar.specs.Longest.{Every}
use Rattle.grammar.specs.Texts.{Row, offset, table}
use Rattle.lexer.specs.declared.cursor.Cursor.{Cursor}
use Rattle.lexer.specs.declared.lexed.Lexed.{Lexed}
use Rattle.lexer.specs.declared.lexed.Lexed.TheVariants.{Token, End, Refused}
use Rattle.lexer.specs.declared.lexed.Refusal.TheVariants.{OffsetPastEnd}
use Rattle.lexer.specs.Eaten.{cursor, head}
use Rattle.lexer.specs.Values.{values_of, LexesUnder}
use Rattle.lexer.proofs.EatLaws.{head-none}
use Rattle.lexer.proofs.Moves.{moves}
use Rattle.lexer.proofs.Theorems.{unique, Tells, table-lexed}
use Rattle.reader.specs.declared.Reader.{Reader}
use Rattle.reader.specs.declared.Read.{Read}
use Rattle.reader.specs.Reads.{Remains, ReadsOn, offset_of}

same_read : {a b : Lexed} {d f : Reader} → a ≡ b → d.text ≡ f.text → d.offset ≡ f.offset → d.profile ≡ f.profile
    → ◌≡◌ {A = Read} (record { lexed = a; reader = d }) (record { lexed = b; reader = f })
same_read e s o p i = record { lexed = e i; reader = record { text = s i; offset = o i; profile = p i } }

-- The contract of `next` leaves one result: the answer, and the reader moved.
pub next-unique : (d : Reader) (r q : Read) → ReadsOn d r → ReadsOn d q → r ≡ q
next-unique d r q x y =
    let e = unique d.profile d.text.now d.offset r.lexed q.lexed x.answers y.answers in
    same_read e (x.same_text ∙ sym y.same_text) (x.goes_on ∙ ap offset_of e ∙ sym y.goes_on) (x.same-profile ∙ sym y.same-profile)

-- That of `remaining` leaves one part of the text's memory, and its bytes: all of a reference but its name in the logic.
pub remaining-unique : (text : Bor (List ℕ)) (offset : ℕ) (r q : Bor (List ℕ)) → Remains text offset r → Remains text offset q
    → (r.ref_ptr ≡ q.ref_ptr) × (r.now ≡ q.now)
remaining-unique text offset r q x y = (λ i. (block i, at i), bytes)
  where
    bytes : r.now ≡ q.now
    bytes = x.bytes ∙ sym y.bytes

    block : r.ref_ptr.0 ≡ q.ref_ptr.0
    block = x.block ∙ sym y.block

    at : r.ref_ptr.1 ≡ q.ref_ptr.1
    at =
        let n = ap length bytes in
        let a = x.ends in
        let b = y.ends in
        omega arith

-- Past the end nothing remains, nothing is peeked, and `next` refuses with the number 8, the span (0, 0) and the offset given: its reader is
-- the one given.
pub past_end : (d : Reader) → length d.text.now < d.offset
    → ((r : Bor (List ℕ)) → Remains d.text d.offset r → r.now ≡ []) ×
    (head (drop d.offset d.text.now) ≡ None) ×
    ((r : Read) → ReadsOn d r → (values_of r.lexed ≡ refusal 8 0 0 d.offset) × (r.reader ≡ d))
unfolding LexesUnder
past_end d past = (
  λ r x. x.bytes ∙ drop_of_length-le d.text.now {i = d.offset} (omega arith),
  sym (head-none d.text.now d.offset (omega arith)),
  λ r x. let e = next-unique d r refused x refuses in (ap (λ (q : Read). values_of q.lexed) e, ap (λ (q : Read). q.reader) e),
)
  where
    refused : Read
    refused = record { lexed = Refused OffsetPastEnd 0 0 (cursor d.offset); reader = d }

    refuses : ReadsOn d refused
    refuses = record { answers = inl (past, refl); same_text = refl; same-profile = refl; goes_on = refl }

-- whatever meets the contract of `next`, asked with one reader that it hands back after the other, answers so
abbrev pub ReadsSo : Reader → List Answer → Type 0
ReadsSo d [] = Unit {0}
ReadsSo d (a ∷ l) = (r : Read) → ReadsOn d r → (values_of r.lexed ≡ a) × ReadsSo r.reader l

offset-of : (q : Lexed) → offset (values_of q) ≡ offset_of q
offset-of (Token k start n next d u) = refl
offset-of (End next) = refl
offset-of (Refused why start n next) = refl

same-tells : (l : List Answer) {π ρ : Profile} {s t : List ℕ} {m n : ℕ} → π ≡ ρ → s ≡ t → m ≡ n → Tells π s m l → Tells ρ t n l
same-tells l = subst₃ (λ (π : Profile) (s : List ℕ) (at : ℕ). Tells π s at l)

-- where `lexer::next`, asked again where each answer goes on, answers a row of answers, a reader does so too
reads_so : (l : List Answer) (d : Reader) → Tells d.profile d.text.now d.offset l → ReadsSo d l
reads_so [] d t = tt
reads_so (a ∷ l) d t = λ r x.
    let first = t.0 r.lexed x.answers in
    let there = ap offset (sym first) ∙ offset-of r.lexed ∙ sym x.goes_on in
    (first, reads_so l r.reader (same-tells l (sym x.same-profile) (ap (λ x. x.now) (sym x.same_text)) there t.1))

-- a reader that has a row's profile and text, at the row's offset, answers what the row says
abbrev pub RowRead : Row → Type 0
RowRead row = (d : Reader) → d.profile ≡ row.profile → d.text.now ≡ row.text → d.offset ≡ row.from → ReadsSo d row.answers

-- The rows of the grammar's table hold of readers.
pub table-read : Every RowRead table
table-read = every-row table table-lexed
  where
    every-row : (l : List Row) → Every (λ r. Tells r.profile r.text r.from r.answers) l → Every RowRead l
    every-row [] e = tt
    every-row (row ∷ l) e = (
      λ d p s o. reads_so row.answers d (same-tells row.answers (sym p) (sym s) (sym o) e.0),
      every-row l e.1,
    )

-- The reader behind a token stands behind the one given, and inside the text or at its end.
pub moves-on : (d : Reader) (k start n : ℕ) (next : Cursor) (digits underscores : ℕ) (r : Reader)
    → ReadsOn d (record { lexed = Token k start n next digits underscores; reader = r })
    → (d.offset < r.offset) × (r.offset ≤ length d.text.now)
moves-on d k start n next digits underscores r x =
    let m = moves d.profile d.text.now d.offset k start n next digits underscores x.answers in
    let o = x.goes_on in
    (omega arith, omega arith)
