-- A row filled from the front with a folded word. Assumes nothing.
use Prim.Native.Nat.{ℕ, ◌+◌, ◌≤◌, ◌<◌}
use native.Mathlib.Omega.{arith}
use native.Mathlib.Numerals.{add-one}
use mathlib.Core.Path.{◌≡◌, ap}
use mathlib.Core.List.{List}
use lib.ListN.{length, get_or, take, set, length-map, get_or-map}
use lib.Seq.{take_all}
use Rattle.std.specs.Char.{to_ascii_uppercase}
use Rattle.keywords.specs.Kinds.{kind}
use Rattle.keywords.specs.Rows.{row_of, kind_of_row}
use Rattle.keywords.proofs.FillLaws.{row-set}
use Rattle.keywords.proofs.WordLaws.{row-kind, long-kind}
use Rattle.words.specs.Word.{upper, fold, kind_of}

fold_at : (w : List ℕ) (i : ℕ) → get_or (fold w) i 0 ≡ upper (get_or w i 0)
unfolding upper
fold_at w i = get_or-map upper w i 0

-- std's capital of a byte is this one's
pub upper_is : (b c : ℕ) → c ≡ to_ascii_uppercase b → c ≡ upper b
unfolding upper
upper_is b c e = grind (arith, e)

pub row_more : (w : List ℕ) (i v : ℕ) → i < 17 → i < length w → v ≡ upper (get_or w i 0) → set (row_of 17 (take i (fold w))) i v ≡ row_of 17 (take (i + 1) (fold w))
row_more w i v h k e = rw (e, ← fold_at w i, add-one i) (row-set 17 (fold w) i h (rw (length-map w upper) k))

pub row-whole : (w : List ℕ) (i : ℕ) → length w ≤ i → row_of 17 (take i (fold w)) ≡ row_of 17 (fold w)
row-whole w i h = ap (row_of 17) (take_all i (fold w) (rw (length-map w upper) h))

-- the kind, from the folded word's row or its length
pub short-word : (w : List ℕ) → length w ≤ 17 → kind_of_row (length w) (row_of 17 (fold w)) ≡ kind_of w
unfolding kind_of
short-word w h = rw (length-map w upper) at (row-kind (fold w) (rw (length-map w upper) h))

pub long-word : (w : List ℕ) → 17 < length w → kind_of w ≡ kind "TK_ID"
unfolding kind_of
long-word w h = long-kind (fold w) (rw (length-map w upper) h)
