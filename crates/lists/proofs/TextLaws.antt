-- The tables of texts hold. Assumes nothing.
use Prim.Native.Nat.{ℕ, ◌+◌, ◌*◌}
use native.Mathlib.Omega.{arith}
use mathlib.Core.Path.{◌≡◌, refl, sym, ◌∙◌, ap, subst}
use mathlib.Core.Bool.{Bool, true, false, not, ◌&&◌, ◌||◌, true≢false}
use mathlib.Core.List.{List, [], ◌∷◌, map, nil≢cons, head-eq_of_cons-eq}
use mathlib.Core.Logic.{inl, inr}
use lib.Dec.{T, eqb, leb, ltb, leb→le, le→leb}
use lib.ListN.{length}
use borrow.Author.Tests.{leb-true, le-leb, ltb-true, lt-ltb}
use Rattle.keywords.proofs.Logic.{and_left, and_right, every}
use Rattle.keywords.specs.Words.{word_list}
use Rattle.words.specs.Bytes.{is_digit, is_hexdigit, is_identifier_start, is_identifier_continue, is_blank}
use Rattle.words.specs.Word.{upper, kind_of}
use Rattle.grammar.specs.Classes.{operators, rules}
use Rattle.grammar.specs.Answers.{answer}
use Rattle.grammar.specs.Longest.{Every}
use Rattle.records.specs.Records.{width, numbers_of_all, at_front}
use Rattle.places.specs.Places.{newlines, since_newline, line_at, column_at}
use Rattle.walks.specs.Walk.{Legal}
use Rattle.walks.proofs.Computed.{Stop, nowhere, stop, Test, walk, Decides, Right, from-here, every-so}
use Rattle.lists.specs.declared.list.Listed.{Listed}
use Rattle.lists.specs.Lists.{records_of, HasRoom, list_answer, Listing, answer_of, records_in, longest_text, Lists}
use Rattle.lists.specs.declared.part.Part.{Part}
use Rattle.lists.specs.Parts.{not_blank, kept, Allowed, part_answer, Parting, Parts}
use Rattle.lists.specs.Parts as parting
use Rattle.lists.specs.Texts.{ListRow, lists, PartRow, parts}
use Rattle.lists.proofs.Theorems.{listing-unique}
use Rattle.lists.proofs.PartTheorems.{parting-unique}

-- what List answers for a row, if the walk has stopped
abbrev list_given : ListRow → Stop → List ListRow
list_given r nowhere = []
list_given r (stop l to there) =
    record {
      source = r.source;
      from = r.from;
      lent = r.lent;
      answer = list_answer to there;
      records = length l;
      left = at_front (records_of r.source.text l) r.lent;
    } ∷
    []

abbrev has_room : ℕ → Test
has_room numbers l t = leb (width * length l + width) numbers

abbrev list_walk : ListRow → Stop
list_walk r = walk 20 (has_room (length r.lent)) r.source [] r.from

computed-lists : map (λ r. list_given r (list_walk r)) lists ≡ map (λ r. r ∷ []) lists
unfolding lists records_of numbers_of_all line_at column_at newlines since_newline rules operators is_digit is_hexdigit is_identifier_start is_identifier_continue is_blank answer kind_of upper word_list
computed-lists = refl

room-decides : (numbers : ℕ) → Decides (HasRoom numbers) (has_room numbers)
room-decides numbers = record { yes = λ l t e. leb→le _ _ (subst T (sym e) tt); not = λ l t e h. subst T e (le→leb _ _ h) }

-- List gives what a row says; an answer and a list are those of a row
abbrev pub RowListing : ListRow → Type 0
RowListing r = Listing r.source r.from r.lent r.answer r.records r.left

abbrev pub OfRow : ListRow → Listed → List ℕ → Type 0
OfRow r q new = (answer_of q ≡ r.answer) × (records_in q ≡ r.records) × (new ≡ r.left)

list-row : (r : ListRow) (w : Stop) → Right (HasRoom (length r.lent)) r.source r.from w → list_given r w ≡ r ∷ [] → RowListing r
list-row r nowhere x e = absurd (nil≢cons e)
list-row r (stop l to there) (p, g, stuck) e =
    let same = sym (head-eq_of_cons-eq e) in
    record {
      walk = record { passed = l; to = to; passes = p; there = there; gives = g; stops = stuck };
      answers = ap (λ (q : ListRow). q.answer) same;
      counted = ap (λ (q : ListRow). q.records) same;
      written = ap (λ (q : ListRow). q.left) same;
    }

-- a row's answer, number of records and list are those of the definition, and whatever meets the contract of `list` answers and leaves so
abbrev pub ListSo : ListRow → Type 0
ListSo r = RowListing r × ((q : Listed) (new : List ℕ) → Lists r.source r.from r.lent q new → OfRow r q new)

-- no text of the table is too long
abbrev fits : ListRow → Bool
fits r = leb (length r.source.text) longest_text

all_fit : every fits lists ≡ true
unfolding lists
all_fit = refl

list-so : (r : ListRow) → fits r ≡ true → RowListing r → ListSo r
unfolding Lists
list-so r f x = (x, so)
  where
    so : (q : Listed) (new : List ℕ) → Lists r.source r.from r.lent q new → OfRow r q new
    so q new (inl (h, x, y, z)) = let l = leb→le (length r.source.text) longest_text (subst T (sym f) tt) in absurd (omega arith)
    so q new (inr (h, y)) =
        listing-unique r.source r.from r.lent (answer_of q) r.answer (records_in q) r.records new r.left y x

-- The rows of the table hold of List.
pub list-texts : Every ListSo lists
list-texts = every-so ListSo (λ r. list_given r (list_walk r)) fits row lists computed-lists all_fit
  where
    row : (r : ListRow) → list_given r (list_walk r) ≡ r ∷ [] → fits r ≡ true → ListSo r
    row r e f =
        let n = length r.lent in
        list-so r f (list-row r (list_walk r) (from-here (HasRoom n) (has_room n) (room-decides n) r.source r.from 20) e)

-- what a slice answers for a row, if the walk has stopped
abbrev part_given : PartRow → Stop → List PartRow
part_given r nowhere = []
part_given r (stop l to there) =
    record {
      source = r.source;
      from = r.from;
      allowance = r.allowance;
      lent = r.lent;
      answer = part_answer to (eqb (length l) r.allowance) there;
      records = length (kept not_blank l);
      spent = length l;
      left = at_front (records_of r.source.text (kept not_blank l)) r.lent;
    } ∷
    []

-- the allowance lasts, and a whole record is free or not asked for
abbrev allowed : ℕ → ℕ → Test
allowed numbers n l t = ltb (length l) n && (not (not_blank t) || has_room numbers (kept not_blank l) t)

abbrev part_walk : PartRow → Stop
part_walk r = walk 20 (allowed (length r.lent) r.allowance) r.source [] r.from

computed-parts : map (λ r. part_given r (part_walk r)) parts ≡ map (λ r. r ∷ []) parts
unfolding parts kept records_of numbers_of_all line_at column_at newlines since_newline rules operators is_digit is_hexdigit is_identifier_start is_identifier_continue is_blank answer kind_of upper word_list
computed-parts = refl

allowed-decides : (numbers n : ℕ) → Decides (Allowed not_blank numbers n) (allowed numbers n)
allowed-decides numbers n = record { yes = passes; not = stops }
  where
    room : (b c : Bool) → not b || c ≡ true → b ≡ true → c ≡ true
    room true c e f = e
    room false c e f = absurd (true≢false (sym f))

    passes : (l : List Legal) (t : Legal) → allowed numbers n l t ≡ true → Allowed not_blank numbers n l t
    passes l t e =
        let less = and_left (ltb (length l) n) (not (not_blank t) || has_room numbers (kept not_blank l) t) e in
        let free = and_right (ltb (length l) n) (not (not_blank t) || has_room numbers (kept not_blank l) t) e in
        (ltb-true (length l) n less, λ k. leb-true _ _ (room (not_blank t) (has_room numbers (kept not_blank l) t) free k))

    both : (a b c : Bool) → a ≡ true → (b ≡ true → c ≡ true) → a && (not b || c) ≡ true
    both a true c e f = rw (e, f refl) refl
    both a false c e f = rw e refl

    stops : (l : List Legal) (t : Legal) → allowed numbers n l t ≡ false → Allowed not_blank numbers n l t → ⊥
    stops l t e (less, free) =
        true≢false
        (sym (both (ltb (length l) n) (not_blank t) (has_room numbers (kept not_blank l) t) (lt-ltb (length l) n less) (λ k. le-leb _ _ (free k))) ∙ e)

-- a slice gives what a row says; an answer and a list are those of a row
abbrev pub RowParting : PartRow → Type 0
RowParting r = Parting r.source r.from r.allowance r.lent r.answer r.records r.spent r.left

abbrev pub OfPartRow : PartRow → Part → List ℕ → Type 0
OfPartRow r q new =
    (parting.answer_of q ≡ r.answer) × (parting.records_in q ≡ r.records) × (parting.spent_in q ≡ r.spent) × (new ≡ r.left)

part-row : (r : PartRow) (w : Stop) → Right (Allowed not_blank (length r.lent) r.allowance) r.source r.from w
    → part_given r w ≡ r ∷ [] → RowParting r
part-row r nowhere x e = absurd (nil≢cons e)
part-row r (stop l to there) (p, g, stuck) e =
    let same = sym (head-eq_of_cons-eq e) in
    record {
      walk = record { passed = l; to = to; passes = p; there = there; gives = g; stops = stuck };
      answers = ap (λ (q : PartRow). q.answer) same;
      counted = ap (λ (q : PartRow). q.records) same;
      costs = ap (λ (q : PartRow). q.spent) same;
      written = ap (λ (q : PartRow). q.left) same;
    }

-- a row's answer, its numbers and its list are those of the definition, and whatever meets the contract of `list_part` answers and leaves so
abbrev pub PartSo : PartRow → Type 0
PartSo r = RowParting r × ((q : Part) (new : List ℕ) → Parts r.source r.from r.allowance r.lent q new → OfPartRow r q new)

abbrev part_fits : PartRow → Bool
part_fits r = leb (length r.source.text) longest_text

all-parts-fit : every part_fits parts ≡ true
unfolding parts
all-parts-fit = refl

part-so : (r : PartRow) → part_fits r ≡ true → RowParting r → PartSo r
unfolding Parts
part-so r f x = (x, so)
  where
    so : (q : Part) (new : List ℕ) → Parts r.source r.from r.allowance r.lent q new → OfPartRow r q new
    so q new (inl (h, u, v, w, z)) = let l = leb→le (length r.source.text) longest_text (subst T (sym f) tt) in absurd (omega arith)
    so q new (inr (h, y)) = parting-unique r.source r.from r.allowance r.lent _ r.answer _ r.records _ r.spent new r.left y x

-- The rows of the table hold of slices.
pub part-texts : Every PartSo parts
part-texts = every-so PartSo (λ r. part_given r (part_walk r)) part_fits row parts computed-parts all-parts-fit
  where
    row : (r : PartRow) → part_given r (part_walk r) ≡ r ∷ [] → part_fits r ≡ true → PartSo r
    row r e f =
        let n = length r.lent in
        let m = r.allowance in
        let right = from-here (Allowed not_blank n m) (allowed n m) (allowed-decides n m) r.source r.from 20 in
        part-so r f (part-row r (part_walk r) right e)
