-- For readers. `gapless-run-of-longest-in-one-class`: List's lexemes follow one another, each the longest and in one class. `list-unique`:
-- two answers that meet the contract, and two lists, are equal. `reaches-the-end`: where List is not refused, its lexemes lead to the text's
-- length. `too_long`, `past_end`: the refusals that come first. `one-run`: every text, of any length, has one run of lexemes from every
-- offset, up to its end or the first malformed one. The tables of texts: TextLaws.antt. Assumes nothing.
use Prim.Native.Nat.{ℕ, ◌*◌, ◌≤◌, ◌<◌}
use native.Mathlib.Omega.{arith}
use mathlib.Core.Path.{◌≡◌, refl, sym, ◌∙◌, ap}
use mathlib.Core.Bool.{false, cond, true≢false}
use mathlib.Core.List.{List, [], ◌++◌}
use mathlib.Core.Logic.{inl, inr}
use lib.Dec.{eqb}
use lib.ListN.{length, take, drop}
use Rattle.grammar.specs.Answers.{Answer, token, end, refusal, is_refusal}
use Rattle.grammar.specs.Longest.{Source}
use Rattle.grammar.proofs.Tokens.{refuses}
use Rattle.lexer.specs.declared.cursor.Cursor.{Cursor}
use Rattle.lexer.specs.declared.lexed.Refusal.{Refusal}
use Rattle.lexer.specs.declared.lexed.Refusal.TheVariants.{UnrecognizedToken, UnterminatedLiteral, BadNumber, BadFractionalPart}
use Rattle.lexer.specs.declared.lexed.Refusal.TheVariants.{BadExponentPart, MalformedHexInteger, ExpectedEqualsSign, OffsetPastEnd}
use Rattle.lexer.specs.Eaten.{cursor}
use Rattle.lexer.specs.Values.{number_of}
use Rattle.lexer.proofs.Theorems.{refusal_of, refusal-back}
use Rattle.records.specs.declared.Record.{Record}
use Rattle.records.specs.Records.{width, numbers_of_all, read_back, at_front}
use Rattle.records.proofs.Theorems.{front_read}
use Rattle.walks.specs.Walk.{Legal, Always, Passes, Walk}
use Rattle.walks.proofs.WalkLaws.{refusal-no-token, walk-one, run}
use Rattle.lists.specs.declared.list.Listed.{Listed}
use Rattle.lists.specs.declared.list.Listed.TheVariants.{End, Refused, TooLong, ListFull}
use Rattle.lists.specs.Refusals.{list_refusal}
use Rattle.lists.specs.Lists.{records_of, HasRoom, list_answer, longest_text, Listing, answer_of, records_in, Lists}
use Rattle.lists.specs.Gapless.{Follow, Each, RunEnds, Ends, Gapless}
use Rattle.lists.proofs.KeptLaws.{records-many}
use Rattle.lists.proofs.GaplessLaws.{passes-follow, passes-each, always-ends, gapless}

-- What List's lexemes are.
pub gapless-run-of-longest-in-one-class : (s : Source) (from : ℕ) (old : List ℕ) (r : Listed) (new : List ℕ) → length s.text ≤ longest_text
    → Lists s from old r new → Gapless s from old (answer_of r) (records_in r) new
unfolding Lists
gapless-run-of-longest-in-one-class s from old r new h (inl (l, x, y, z)) = absurd (omega arith)
gapless-run-of-longest-in-one-class s from old r new h (inr (l, x)) = gapless s from old (answer_of r) (records_in r) new x

-- An answer of List can be read back from its values.
abbrev refused_of : ℕ → ℕ → ℕ → ℕ → ℕ → Listed
refused_of k start n offset records =
    cond (eqb k (list_refusal "TooLong")) (TooLong (cursor offset))
    (cond (eqb k (list_refusal "ListFull")) (ListFull records (cursor offset)) (Refused (refusal_of k) start n records (cursor offset)))

abbrev listed_of : Answer → ℕ → Listed
listed_of (token k start n next d u) records = End records (cursor next)
listed_of (end offset) records = End records (cursor offset)
listed_of (refusal k start n offset) records = refused_of k start n offset records

-- Next's refusals have none of List's own numbers
pub not-lists : (why : Refusal) → (eqb (number_of why) (list_refusal "TooLong") ≡ false) × (eqb (number_of why) (list_refusal "ListFull") ≡ false)
not-lists UnrecognizedToken = (refl, refl)
not-lists UnterminatedLiteral = (refl, refl)
not-lists BadNumber = (refl, refl)
not-lists BadFractionalPart = (refl, refl)
not-lists BadExponentPart = (refl, refl)
not-lists MalformedHexInteger = (refl, refl)
not-lists ExpectedEqualsSign = (refl, refl)
not-lists OffsetPastEnd = (refl, refl)

refused-back : (why : Refusal) (start n records : ℕ) (next : Cursor)
    → refused_of (number_of why) start n next.at records ≡ Refused why start n records next
refused-back why start n records next =
    let (long, full) = not-lists why in
    rw (long, full) (ap (λ (w : Refusal). Refused w start n records next) (refusal-back why))

listed_back : (r : Listed) → listed_of (answer_of r) (records_in r) ≡ r
listed_back (End records next) = refl
listed_back (Refused why start n records next) = refused-back why start n records next
listed_back (TooLong next) = refl
listed_back (ListFull records next) = refl

same-values : (r q : Listed) → answer_of r ≡ answer_of q → records_in r ≡ records_in q → r ≡ q
same-values r q a m =
    sym (listed_back r) ∙ ap (λ (b : Answer). listed_of b (records_in r)) a ∙ ap (listed_of (answer_of q)) m ∙ listed_back q

pub listing-unique : (s : Source) (from : ℕ) (old : List ℕ) (a b : Answer) (m n : ℕ) (new new' : List ℕ)
    → Listing s from old a m new → Listing s from old b n new' → (a ≡ b) × (m ≡ n) × (new ≡ new')
listing-unique s from old a b m n new new' x y =
    let (p, q, t) = walk-one (HasRoom (length old)) s from x.walk y.walk in (
      x.answers ∙ ap (λ (at : ℕ). list_answer at x.walk.there) q ∙ ap (list_answer y.walk.to) t ∙ sym y.answers,
      x.counted ∙ ap length p ∙ sym y.counted,
      x.written ∙ ap (λ (l : List Legal). at_front (records_of s.text l) old) p ∙ sym y.written,
    )

-- The contract of `list` leaves one answer and one list.
pub list-unique : (s : Source) (from : ℕ) (old : List ℕ) (r q : Listed) (new new' : List ℕ)
    → Lists s from old r new → Lists s from old q new' → (r ≡ q) × (new ≡ new')
unfolding Lists
list-unique s from old r q new new' (inl (h, x, y, z)) (inl (k, u, v, w)) = (same-values r q (x ∙ sym u) (y ∙ sym v), z ∙ sym w)
list-unique s from old r q new new' (inl (h, x, y, z)) (inr (k, u)) = absurd (omega arith)
list-unique s from old r q new new' (inr (h, x)) (inl (k, u, v, w)) = absurd (omega arith)
list-unique s from old r q new new' (inr (h, x)) (inr (k, y)) =
    let (a, m, e) = listing-unique s from old (answer_of r) (answer_of q) (records_in r) (records_in q) new new' x y in
    (same-values r q a m, e)

-- Read back, the list has the walk's records, one for each lexeme passed, and behind them those in what it held.
pub list-read-back : (s : Source) (from : ℕ) (old : List ℕ) (a : Answer) (n : ℕ) (new : List ℕ) (x : Listing s from old a n new)
    → (rs : List Record) × (rs ≡ records_of s.text x.walk.passed) × (length rs ≡ n) × (read_back new ≡ rs ++ read_back (drop (width * n) old))
list-read-back s from old a n new x =
    let rs = records_of s.text x.walk.passed in
    let many : length rs ≡ n = records-many s.text x.walk.passed ∙ sym x.counted in
    (rs, refl, many, ap read_back x.written ∙ front_read rs old ∙ ap (λ (m : ℕ). rs ++ read_back (drop (width * m) old)) many)

-- A text that is too long is refused first; the list stays as it was.
pub too_long : (s : Source) (from : ℕ) (old : List ℕ) (r : Listed) (new : List ℕ) → longest_text < length s.text → Lists s from old r new
    → (r ≡ TooLong (cursor from)) × (new ≡ old)
unfolding Lists
too_long s from old r new h x = list-unique s from old r (TooLong (cursor from)) new old x (inl (h, refl, refl, refl))

-- Then an offset past the end; the list stays as it was.
pub past_end : (s : Source) (from : ℕ) (old : List ℕ) (r : Listed) (new : List ℕ) → length s.text ≤ longest_text → length s.text < from
    → Lists s from old r new → (r ≡ Refused OffsetPastEnd 0 0 0 (cursor from)) × (new ≡ old)
unfolding Lists Passes records_of numbers_of_all
past_end s from old r new short h x =
    list-unique s from old r (Refused OffsetPastEnd 0 0 0 (cursor from)) new old x (inr (short, here))
  where
    walk : Walk (HasRoom (length old)) s from
    walk =
        record {
          passed = [];
          to = from;
          passes = refl;
          there = refusal (number_of OffsetPastEnd) 0 0 from;
          gives = inl (h, refl);
          stops = λ t e o. refusal-no-token (number_of OffsetPastEnd) 0 0 from t e;
        }

    here : Listing s from old (refusal (number_of OffsetPastEnd) 0 0 from) 0 old
    here = record { walk = walk; answers = refl; counted = refl; written = refl }

ends_so : (s : Source) (numbers : ℕ) (l : List Legal) (to offset : ℕ) → Ends s numbers l to (end offset)
    → (offset ≡ to) × (to ≡ length s.text)
ends_so s numbers l to offset (inl (inl (h, e))) = let z : ◌≡◌ {A = ℕ} 0 1 = cc in absurd (omega arith)
ends_so s numbers l to offset (inl (inr (inl (h, e)))) = (cc, h)
ends_so s numbers l to offset (inl (inr (inr (n, (c, bad, x, e))))) =
    let f = ap is_refusal e ∙ refuses c to (take n (drop to s.text)) ∙ bad in
    absurd (true≢false (sym f))
ends_so s numbers l to offset (inr (t, c, f, e)) = let z : ◌≡◌ {A = ℕ} 0 1 = cc in absurd (omega arith)

-- Where no refusal comes, the lexemes that the list has lead to the text's length.
pub reaches-the-end : (s : Source) (from : ℕ) (old : List ℕ) (n : ℕ) (next : Cursor) (new : List ℕ) → Lists s from old (End n next) new
    → (next.at ≡ length s.text) × (g : Gapless s from old (end next.at) n new) × (g.to ≡ length s.text)
unfolding Lists
reaches-the-end s from old n next new (inl (h, e, f, g)) = let z : ◌≡◌ {A = ℕ} 0 1 = cc in absurd (omega arith)
reaches-the-end s from old n next new (inr (h, x)) =
    let g = gapless s from old (end next.at) n new x in
    let (o, e) = ends_so s (length old) g.lexemes g.to next.at g.ends in
    (o ∙ e, g, e)

-- Every text, of any length, has one run of lexemes from every offset. They follow one another, each the longest and in one class, and they
-- end past the end, at the end, or at a malformed lexeme, whose class gives the refusal.
pub one-run : (s : Source) (from : ℕ)
    → (w : Walk Always s from) ×
    Follow from w.passed w.to ×
    Each s w.passed ×
    RunEnds s w.to w.there ×
    ((v : Walk Always s from) → (v.passed ≡ w.passed) × (v.to ≡ w.to) × (v.there ≡ w.there))
one-run s from =
    let w = run s from in (
      w,
      passes-follow Always s [] from w.passed w.to w.passes,
      passes-each Always s [] from w.passed w.to w.passes,
      always-ends s from w,
      λ v. walk-one Always s from v w,
    )
