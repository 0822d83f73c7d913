-- The words as the code has them: a group's words stand side by side behind the groups before it, have its length, and are walked one by
-- one until what is left of them decides the kind. Assumes nothing.
use Prim.Native.Nat.{ℕ, zero, suc, ◌+◌, ◌-◌, ◌*◌, ◌/◌, ◌%◌, ◌≤◌, ◌<◌}
use native.Mathlib.Nat.{not-suc-le-zero}
use native.Mathlib.Numerals.{add-one}
use native.Mathlib.Omega.{arith}
use mathlib.Core.Path.{◌≡◌, refl, sym, ◌∙◌, ap}
use mathlib.Core.Bool.{Bool, true, false}
use mathlib.Core.List.{List, [], ◌∷◌, ◌++◌, map, append_assoc, append-nil}
use lib.Dec.{eqb, ltb}
use lib.ListN.{length, get_or, take, drop, length-append, get_or-append, get_or-map}
use lib.Seq.{drop-cons, take_at, drop_at, get_or-append-add}
use borrow.Author.Tests.{eqb-true, ltb-true, ltb-false}
use Rattle.keywords.specs.Kinds.{kind}
use Rattle.keywords.specs.Words.{Entry, word_list, same, kind_in}
use Rattle.keywords.specs.Rows.{row_of, row_entry, of_length, kind_of_row}
use Rattle.keywords.specs.Stored.{beginning, group, before, stored, start_of, kind_at}
use Rattle.keywords.proofs.Logic.{split, and_left, and_right, every, every-at}
use Rattle.keywords.proofs.RowLaws.{first-decides}

-- a group's words stand behind those of the groups before it
Behind : ℕ → ℕ → Type 0
Behind m x = (r : List Entry) × (before m ≡ before x ++ (group x ++ r))

behind : (m x : ℕ) → x < m → Behind m x
unfolding Behind
behind zero x h = absurd (not-suc-le-zero h)
behind (suc m) x h =
    split (ltb x m)
    (λ e. let b = behind m x (ltb-true x m e) in (b.0 ++ group m, rw b.1 (simp append_assoc)))
    (λ e. let q : x ≡ m = omega (arith, ltb-false x m e) in ([], rw (q, append-nil)))

abbrev pub none : Entry
none = record { word = []; kind = 0 }

abbrev pub word_at : ℕ → List ℕ
word_at k = (get_or stored k none).word

-- the words from k to before `end` decide what a row is in group x
unfoldable pub Left : ℕ → List ℕ → ℕ → ℕ → Type 0
Left x r k end = kind_in (map row_entry (group x)) r ≡ kind_in (map row_entry (take (end - k) (drop k stored))) r

window : (a b r : List Entry) → take (length (a ++ b) - length a) (drop (length a) (a ++ (b ++ r))) ≡ b
window a b r =
    let n : length b ≡ length (a ++ b) - length a = omega (arith, length-append a b) in
    rw (drop_at a (b ++ r) (length a) refl) (take_at b r _ n)

pub left-all : (x : ℕ) (r : List ℕ) → x < 504 → Left x r (start_of x) (start_of (x + 1))
unfolding Left start_of stored Behind
left-all x r h =
    let b = behind 504 x h in
    rw (add-one x, b.1) (ap (λ es. kind_in (map row_entry es) r) (sym (window (before x) (group x) b.0)))

-- a group has the words from its start to the next, and no start lies past the last word
pub start-next : (x : ℕ) → start_of (x + 1) ≡ start_of x + length (group x)
unfolding start_of
start-next x = rw (add-one x) (length-append (before x) (group x))

pub start_small : (x : ℕ) → x < 504 → start_of (x + 1) ≤ length stored
unfolding start_of stored Behind
start_small x h =
    let b = behind 504 x h in
    let all = ap length b.1 ∙ length-append (before x) (group x ++ b.0) in
    rw add-one (omega (arith, all, length-append (group x) b.0, length-append (before x) (group x)))

-- of one length: the group's
abbrev of_n : ℕ → Entry → Bool
of_n n e = eqb (length e.word) n

length-of : (n : ℕ) (es : List Entry) → every (of_n n) (of_length n es) ≡ true
length-of n [] = refl
length-of n (e ∷ es) = split (of_n n e) (λ t. rw (t, t) (length-of n es)) (λ f. rw f (length-of n es))

begin-of : (n b : ℕ) (es : List Entry) → every (of_n n) es ≡ true → every (of_n n) (beginning b es) ≡ true
begin-of n b [] t = refl
begin-of n b (e ∷ es) t =
    let more = begin-of n b es (and_right (of_n n e) (every (of_n n) es) t) in
    split (eqb (get_or e.word 0 0) b)
    (λ q. rw (q, and_left (of_n n e) (every (of_n n) es) t) more)
    (λ q. rw q more)

-- what stands in the middle of three lists
middle : (a b r : List Entry) (k : ℕ) → length a ≤ k → k < length a + length b → get_or (a ++ (b ++ r)) k none ≡ get_or b (k - length a) none
middle a b r k l m =
    let j = k - length a in
    let e : k ≡ length a + j = omega arith in
    ap (λ i. get_or (a ++ (b ++ r)) i none) e ∙ get_or-append-add a (b ++ r) j none ∙ get_or-append b r none j (omega arith)

-- a word of group x has as many bytes as the group's number says
pub word-length : (x k : ℕ) → x < 504 → start_of x ≤ k → k < start_of (x + 1) → length (word_at k) ≡ x / 28
unfolding start_of stored Behind group
word-length x k h l m =
    let b = behind 504 x h in
    let n = x / 28 in
    let s = start-next x in
    let e = ap (λ es. get_or es k none) b.1 ∙ middle (before x) (group x) b.0 k l (omega arith) in
    let t = begin-of n _ (of_length n word_list) (length-of n word_list) in
    eqb-true _ _ (ap (of_n n) e ∙ every-at (of_n n) (group x) none (k - length (before x)) (omega arith) t)

-- at word k, where b says whether the row is its row
module _ (x : ℕ) (r : List ℕ) (k end : ℕ) (h : k < end) (m : end ≤ length stored) (b : Bool) (eb : b ≡ same r (row_of 17 (word_at k))) where
  here : take (end - k) (drop k stored) ≡ get_or stored k none ∷ take (end - (k + 1)) (drop (k + 1) stored)
  here =
      let q : end - k ≡ suc (end - (k + 1)) = omega arith in
      rw (q, drop-cons stored k none (omega arith), add-one k)

  pub left-more : b ≡ false → Left x r k end → Left x r (k + 1) end
  unfolding Left
  left-more f l = l ∙ rw (here, ← eb, f)

  pub left-found : b ≡ true → Left x r k end → kind_in (map row_entry (group x)) r ≡ kind_at k
  unfolding Left kind_at
  left-found f l = l ∙ rw (here, ← eb, f) (sym (get_or-map (λ e. e.kind) stored k none))

pub left-none : (x : ℕ) (r : List ℕ) (k end : ℕ) → end ≤ k → Left x r k end → kind_in (map row_entry (group x)) r ≡ kind "TK_ID"
unfolding Left
left-none x r k end h l =
    let q : end - k ≡ 0 = omega arith in
    l ∙ rw q

-- the group of a row of n bytes that begins with letter a decides its kind
pub group-decides : (n a : ℕ) (r : List ℕ) → a < 28 → get_or r 0 0 ≡ 65 + a → kind_of_row n r ≡ kind_in (map row_entry (group (28 * n + a))) r
unfolding group
group-decides n a r h e =
    let l : (28 * n + a) / 28 ≡ n = omega arith in
    let m : (28 * n + a) % 28 ≡ a = omega arith in
    first-decides n r ∙ rw (l, m, e)
