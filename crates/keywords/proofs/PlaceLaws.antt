-- What follows from the rule of the stored words: what each table gives, where a word stands, and what the row of some of the letters has.
-- Assumes nothing.
use Prim.Native.Nat.{ℕ, zero, suc, ◌+◌, ◌*◌, ◌-◌, ◌≤◌, ◌<◌}
use native.Mathlib.Nat.{not-suc-le-zero, le_of_suc-le-suc, add-zero, zero-add}
use native.Mathlib.Numerals.{add-one}
use native.Mathlib.Omega.{arith}
use mathlib.Core.Path.{◌≡◌, refl, sym, ◌∙◌, ap}
use mathlib.Core.Bool.{true}
use mathlib.Core.List.{List, [], ◌∷◌, ◌++◌, map, append_assoc}
use lib.Dec.{eqb, ltb}
use lib.ListN.{length, get_or, take, drop, length-append, length-map, length-drop}
use lib.Seq.{take_at, drop_at, get_or-take, get_or-drop, length-take-le}
use borrow.Author.Tests.{eqb-true, ltb-true}
use Rattle.keywords.specs.Words.{Entry}
use Rattle.keywords.specs.Rows.{row_of}
use Rattle.keywords.specs.Stored.{group, stored, start_of, joined, store, letter_at, kind_at, skips}
use Rattle.keywords.proofs.Logic.{and_left, and_right, every}
use Rattle.keywords.proofs.SameLaws.{same_true}
use Rattle.keywords.proofs.FillLaws.{row-length, row_at, row-behind}
use Rattle.keywords.proofs.Tables.{letter_list, kind_list, sizes, totals, starts, sized, placed, rule}
use Rattle.keywords.proofs.StoredLaws.{none, word_at, start-next}

store_is : store ≡ letter_list
store_is = same_true store letter_list rule.letters

kind-list : map (λ e. e.kind) stored ≡ kind_list
kind-list = same_true (map (λ e. e.kind) stored) kind_list rule.kinds

pub store_length : length store ≡ 888
store_length = ap length store_is

pub stored-length : length stored ≡ 151
stored-length = sym (length-map stored (λ e. e.kind)) ∙ ap length kind-list

-- no number of a list is too large where a test of the list says so
bounded : (m : ℕ) (l : List ℕ) → 0 < m → every (λ b. ltb b m) l ≡ true → (i : ℕ) → get_or l i 0 < m
bounded m [] h t i = h
bounded m (b ∷ l) h t zero = ltb-true b m (and_left (ltb b m) _ t)
bounded m (b ∷ l) h t (suc i) = bounded m l h (and_right (ltb b m) _ t) i

-- the letters and kinds are those of the lists
pub letters-are : (p : ℕ) → get_or letter_list p 0 ≡ letter_at p
unfolding letter_at
letters-are p = ap (λ l. get_or l p 0) (sym store_is)

pub kinds-are : (k : ℕ) → get_or kind_list k 0 ≡ kind_at k
unfolding kind_at
kinds-are k = ap (λ l. get_or l k 0) (sym kind-list)

-- the starts are the sizes' totals
totals-are : (ns : List ℕ) (x a : ℕ) → a ≡ start_of x → sized x ns ≡ true → (j : ℕ) → j < length ns → get_or (totals a ns) j 0 ≡ start_of (x + j)
unfolding sized
totals-are [] x a e t j h = absurd (not-suc-le-zero h)
totals-are (n ∷ ns) x a e t zero h = e ∙ ap start_of (omega arith)
totals-are (n ∷ ns) x a e t (suc j) h =
    let q = eqb-true (length (group x)) n (and_left (eqb (length (group x)) n) _ t) in
    let next : a + n ≡ start_of (suc x) = omega (arith, start-next x) ∙ ap start_of (add-one x) in
    totals-are ns (suc x) (a + n) next (and_right (eqb (length (group x)) n) _ t) j (omega arith) ∙ ap start_of (omega arith)

pub starts-are : (x : ℕ) → x < 504 → starts x ≡ start_of x
unfolding start_of
starts-are x h = totals-are sizes 0 0 refl rule.groups x (omega arith) ∙ ap start_of (zero-add x)

-- a word among those behind and before it
joined-split : (es : List Entry) (k : ℕ) → k < length es → joined es ≡ joined (take k es) ++ ((get_or es k none).word ++ joined (drop (suc k) es))
joined-split [] k h = absurd (not-suc-le-zero h)
joined-split (e ∷ es) zero h = refl
joined-split (e ∷ es) (suc k) h = ap (λ l. e.word ++ l) (joined-split es k (le_of_suc-le-suc h)) ∙ sym (append_assoc e.word _ _)

-- where word k + j stands, the j-th of the words from word k on, which begin at byte p
abbrev At : List Entry → ℕ → ℕ → ℕ → Type 0
At es k p j = let n = length (get_or es j none).word in n * (k + j) ≡ get_or skips n 0 + (p + length (joined (take j es)))

placed_at : (es : List Entry) (k p j : ℕ) → placed k p es ≡ true → j < length es → At es k p j
unfolding placed
placed_at [] k p j t h = absurd (not-suc-le-zero h)
placed_at (e ∷ es) k p zero t h = rw (add-zero k, add-zero p) (eqb-true _ _ (and_left _ _ t))
placed_at (e ∷ es) k p (suc j) t h =
    let n = length e.word in
    let more = placed_at es (suc k) (p + n) j (and_right (eqb (n * k) (get_or skips n 0 + p)) _ t) (le_of_suc-le-suc h) in
    let q : k + suc j ≡ suc k + j = omega arith in
    rw q (more ∙ omega (arith, length-append e.word (joined (take j es))))

-- where word k stands, which has n bytes
pub record Place (n k : ℕ) : Type 0 where
  pub small : n * k < 65536
  pub past : get_or skips n 0 ≤ n * k
  pub inside : n * k - get_or skips n 0 + n ≤ 888
  pub word : take n (drop (n * k - get_or skips n 0) store) ≡ word_at k

pub place : (n k : ℕ) → k < 151 → length (word_at k) ≡ n → Place n k
unfolding store
place n k h e =
    let l : k < length stored = omega (arith, stored-length) in
    let front = joined (take k stored) in
    let back = joined (drop (suc k) stored) in
    let s = joined-split stored k l in
    let t = rw (zero-add k, zero-add (length front)) at (placed_at stored 0 0 k rule.places l) in
    let p : n * k ≡ get_or skips n 0 + length front = rw (← e) t in
    let q : n * k - get_or skips n 0 ≡ length front = omega arith in
    let all = sym store_length ∙ ap length s ∙ length-append front (word_at k ++ back) in
    let f : 888 ≡ length front + (n + length back) = omega (arith, all, length-append (word_at k) back) in
    record {
      small = omega (arith, bounded 2048 skips (omega arith) refl n);
      past = omega arith;
      inside = rw q (omega arith);
      word = rw (q, s, drop_at front (word_at k ++ back) (length front) refl) (take_at (word_at k) back n e);
    }

-- the row of the n bytes at p of the store
module _ (n p : ℕ) (h : n ≤ 17) (m : p + n ≤ 888) where
  as_long : length (take n (drop p store)) ≡ n
  as_long = length-take-le n (drop p store) (omega (arith, length-drop p store, store_length))

  pub row-of-17 : length (row_of 17 (take n (drop p store))) ≡ 17
  row-of-17 = row-length 17 (take n (drop p store)) (omega (arith, as_long))

  pub row-letter : (i : ℕ) → i < n → get_or (row_of 17 (take n (drop p store))) i 0 ≡ letter_at (p + i)
  unfolding letter_at
  row-letter i l =
      row_at 17 (take n (drop p store)) i (omega arith) (omega (arith, as_long))
      ∙ get_or-take n (drop p store) i 0 l
      ∙ get_or-drop p store i 0

  pub row-dot : (i : ℕ) → i < 17 → n ≤ i → get_or (row_of 17 (take n (drop p store))) i 0 ≡ 46
  row-dot i k l = row-behind 17 (take n (drop p store)) i k (omega (arith, as_long))
