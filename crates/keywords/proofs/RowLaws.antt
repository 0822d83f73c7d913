-- Which words can be a row's: those of at most 17 bytes, and those with its first byte, a letter from A to Z. Assumes nothing.
use Prim.Native.Nat.{ℕ, ◌<◌}
use native.Mathlib.Omega.{arith}
use mathlib.Core.Path.{◌≡◌, refl, sym, ◌∙◌, ap}
use mathlib.Core.Bool.{Bool, true, false, ◌&&◌}
use mathlib.Core.List.{List, [], ◌∷◌, map}
use lib.Dec.{eqb, leb}
use lib.ListN.{length, get_or}
use borrow.Author.Tests.{leb-true, lt-leb, eqb-true, eqb-false, ne_eqb}
use Rattle.keywords.specs.Kinds.{kind}
use Rattle.keywords.specs.Words.{Entry, word_list, same, kind_in}
use Rattle.keywords.specs.Rows.{row_of, row_entry, of_length, kind_of_row}
use Rattle.keywords.specs.Stored.{beginning}
use Rattle.keywords.proofs.Logic.{split, and_left, and_right, and-false, every}
use Rattle.keywords.proofs.KindLaws.{keyword, all-keywords, short}
use Rattle.keywords.proofs.SameLaws.{same_true}

-- no word is longer than its row
pub longer : (n : ℕ) (es : List Entry) → every keyword es ≡ true → 17 < n → of_length n es ≡ []
longer n [] t h = refl
longer n (e ∷ es) t h =
    let s = short e (and_left (keyword e) (every keyword es) t) in
    rw (ne_eqb (length e.word) n (λ q. omega arith)) (longer n es (and_right (keyword e) (every keyword es) t) h)

pub left_out : (n : ℕ) (r : List ℕ) → 17 < n → kind_of_row n r ≡ kind "TK_ID"
unfolding kind_of_row
left_out n r h = rw (longer n word_list all-keywords h)

-- every word begins with a letter from A to Z: one test, which antt computes
abbrev letter : ℕ → Bool
letter b = leb 65 b && leb b 90

abbrev lettered : Entry → Bool
lettered e = letter (get_or e.word 0 0)

all-lettered : every lettered word_list ≡ true
unfolding word_list
all-lettered = refl

-- a word with another first byte is not the row's
other : (r w : List ℕ) → letter (get_or w 0 0) ≡ true → eqb (get_or w 0 0) (get_or r 0 0) ≡ false → same r (row_of 17 w) ≡ false
other r [] t f = absurd (omega (arith, leb-true 65 0 t))
other r (b ∷ w) t f =
    split (same r (row_of 17 (b ∷ w)))
    (λ s. absurd (eqb-false b (get_or r 0 0) f (sym (ap (λ l. get_or l 0 0) (same_true r (row_of 17 (b ∷ w)) s)))))
    (λ g. g)

-- only words with the row's first byte decide
abbrev ByFirst : ℕ → List Entry → List ℕ → Type 0
ByFirst n es r = kind_in (map row_entry (of_length n es)) r ≡ kind_in (map row_entry (beginning (get_or r 0 0) (of_length n es))) r

by_first : (n : ℕ) (es : List Entry) (r : List ℕ) → every lettered es ≡ true → ByFirst n es r
by_first n [] r t = refl
by_first n (e ∷ es) r t =
    let more = by_first n es r (and_right (lettered e) (every lettered es) t) in
    split (eqb (length e.word) n)
    (λ l. split (eqb (get_or e.word 0 0) (get_or r 0 0))
    (λ q. rw (l, q, more))
    (λ q. rw (l, q, other r e.word (and_left (lettered e) (every lettered es) t) q) more))
    (λ l. rw l more)

pub first-decides : (n : ℕ) (r : List ℕ) → kind_of_row n r ≡ kind_in (map row_entry (beginning (get_or r 0 0) (of_length n word_list))) r
unfolding kind_of_row
first-decides n r = by_first n word_list r all-lettered

none-begins : (b n : ℕ) (es : List Entry) → every lettered es ≡ true → letter b ≡ false → beginning b (of_length n es) ≡ []
none-begins b n [] t f = refl
none-begins b n (e ∷ es) t f =
    let more = none-begins b n es (and_right (lettered e) (every lettered es) t) f in
    let l = and_left (lettered e) (every lettered es) t in
    split (eqb (length e.word) n)
    (λ q. split (eqb (get_or e.word 0 0) b)
    (λ s. let z : true ≡ false = sym l ∙ ap letter (eqb-true (get_or e.word 0 0) b s) ∙ f in cc)
    (λ s. rw (q, s) more))
    (λ q. rw q more)

-- a row that begins with no such letter is no word's
no-letter : (n : ℕ) (r : List ℕ) → letter (get_or r 0 0) ≡ false → kind_of_row n r ≡ kind "TK_ID"
no-letter n r f = first-decides n r ∙ rw (none-begins (get_or r 0 0) n word_list all-lettered f)

pub below-letters : (n : ℕ) (r : List ℕ) → get_or r 0 0 < 65 → kind_of_row n r ≡ kind "TK_ID"
below-letters n r h = no-letter n r (rw (lt-leb 65 (get_or r 0 0) h))

pub above-letters : (n : ℕ) (r : List ℕ) → 90 < get_or r 0 0 → kind_of_row n r ≡ kind "TK_ID"
above-letters n r h = no-letter n r (rw (lt-leb (get_or r 0 0) 90 h) (and-false (leb 65 (get_or r 0 0))))
