-- What a text's first byte leaves of it to be put, and what a text leaves for which there is room. Assumes nothing.
use Prim.Native.Nat.{ℕ, ◌+◌, ◌-◌, ◌≤◌, ◌<◌}
use native.Mathlib.Nat.{add-zero}
use native.Mathlib.Numerals.{add-one}
use native.Mathlib.Omega.{arith}
use mathlib.Core.Path.{◌≡◌, refl, sym, ap, ap₂, ◌∙◌}
use mathlib.Core.List.{List, [], ◌∷◌, append_assoc}
use borrow.Author.Tests.{lt-ltb}
use borrow.Rule.Slice.PartMut.{put_mid}
use lib.ListN.{length, get_or, set, take, drop, drop_of_length-le, length-set}
use lib.Seq.{drop-cons, drop-drop, sets, sets-eq}
use Rattle.std.proofs.Math.Nat.{min-eq_left}
use Rattle.rows.specs.Out.{Row, Gives, one_more, more}

-- a text's next byte
pub more_on : (row : List ℕ) (at : ℕ) (text : List ℕ) (i : ℕ) → i < length text
    → more row at (drop i text) ≡
    more (one_more row at (get_or text i 0)).bytes (one_more row at (get_or text i 0)).filled (drop (i + 1) text)
unfolding more
more_on row at text i h = rw (drop-cons text i 0 h, add-one)

-- behind its last
pub more_none : (row : List ℕ) (at : ℕ) (text : List ℕ) (i : ℕ) → length text ≤ i → more row at (drop i text) ≡ record { bytes = row; filled = at }
unfolding more
more_none row at text i h = ap (more row at) (drop_of_length-le text {i = i} h)

-- what puts that byte leaves the rest to be put
pub put_on : (row : List ℕ) (at : ℕ) (text : List ℕ) (i : ℕ) (row' : List ℕ) (at' : ℕ) (x : Row) → i < length text
    → Gives (one_more row at (get_or text i 0)) row' at' → more row at (drop i text) ≡ x → more row' at' (drop (i + 1) text) ≡ x
put_on row at text i row' at' x h (bytes, count) e =
    ap₂ (λ (r : List ℕ) (n : ℕ). more r n (drop (i + 1) text)) bytes count ∙ sym (more_on row at text i h) ∙ e

-- and what puts the last one has put them all
pub put_none : (row : List ℕ) (at : ℕ) (text : List ℕ) (i : ℕ) (x : Row) → length text ≤ i → more row at (drop i text) ≡ x → Gives x row at
put_none row at text i x h e =
    let all = sym (more_none row at text i h) ∙ e in
    (ap (λ (y : Row). y.bytes) all, ap (λ (y : Row). y.filled) all)

-- a byte for which there is room
one_fits : (row : List ℕ) (at b : ℕ) → at < length row → one_more row at b ≡ record { bytes = set row at b; filled = at + 1 }
unfolding one_more
one_fits row at b h =
    let l : at + 1 ≤ length row = omega arith in
    rw (lt-ltb at (length row) h, min-eq_left l)

all_fit : (row : List ℕ) (at : ℕ) (text : List ℕ) → at + length text ≤ length row
    → more row at text ≡ record { bytes = sets row at text; filled = at + length text }
unfolding more
all_fit row at [] h = rw (add-zero at)
all_fit row at (b ∷ text) h =
    let here : at < length row = omega arith in
    let room : at + 1 + length text ≤ length (set row at b) = omega (arith, length-set row at b) in
    let behind : at + 1 + length text ≡ at + length (b ∷ text) = omega arith in
    rw (one_fits row at b here, all_fit (set row at b) (at + 1) text room)
    (ap₂ (λ (i n : ℕ). record { bytes = sets (set row at b) i text; filled = n }) (add-one at) behind)

-- a text for which there is room is put as it stands
pub put_fits : (row : List ℕ) (at : ℕ) (text new : List ℕ) → length text ≤ length row - at → at ≤ length row → new ≡ text
    → Gives (more row at text) (put_mid at (at + length text - at) row new) (at + length text)
put_fits row at text new room inside e =
    let fits : at + length text ≤ length row = omega arith in
    let n : at + length text - at ≡ length text = omega arith in
    rw (e, n, all_fit row at text fits, sets-eq text row at fits, drop-drop)
    (sym (append_assoc (take at row) text (drop (at + length text) row)), refl)
