-- Digits written from the last to the first, and how many there are. Assumes nothing.
use Prim.Native.Nat.{ℕ, zero, suc, ◌+◌, ◌/◌, ◌%◌, ◌^◌, ◌≤◌, ◌<◌}
use native.Mathlib.Omega.{arith}
use native.Mathlib.Nat.{pow-suc, div-lt_iff_lt-mul, mod-lt}
use mathlib.Core.Path.{◌≡◌, refl, sym, ◌∙◌, ap, subst}
use mathlib.Core.Bool.{Bool, true}
use mathlib.Core.List.{List, [], ◌∷◌, ◌++◌, append_assoc, append-nil}
use lib.Dec.{ltb}
use lib.ListN.{length, get_or, take, drop, set, length-append, length-drop, take-append-drop, drop_of_length-le}
use lib.Seq.{take-suc, set_at, length-take-le, drop-drop}
use borrow.Author.Tests.{lt-ltb, le-ltb}
use borrow.Rule.Slice.PartMut.{put_mid}
use Rattle.keywords.specs.Text.{bytes}
use Rattle.keywords.proofs.Logic.{split, and_left, and_right, every}
use Rattle.buffers.specs.Buffers.{Said, before, Fills}
use Rattle.hexdigits.specs.Digits.{digit}
use Rattle.hexdigits.proofs.DigitLaws.{all_below, below_at}
use Rattle.integers.specs.Numbers.{padded, width}
use Rattle.integers.specs.Integers.{decimal, hexadecimal}

-- how long, and of which digits
pub padded-long : (base k n : ℕ) → length (padded base k n) ≡ k
unfolding padded
padded-long base zero n = refl
padded-long base (suc k) n = length-append (padded base k (n / base)) (digit (n % base) ∷ []) ∙ omega (arith, padded-long base k (n / base))

pub decimal-long : (n : ℕ) → length (decimal n) ≡ width 19 n
unfolding decimal
decimal-long n = padded-long 10 (width 19 n) n

pub hexadecimal-long : (n : ℕ) → length (hexadecimal n) ≡ 18
unfolding hexadecimal
hexadecimal-long n = omega (arith, padded-long 16 16 n)

pub width_some : (k n : ℕ) → 0 < width k n
unfolding width
width_some zero n = omega arith
width_some (suc k) n = split (ltb n 10) (λ e. rw e (omega arith)) (λ e. rw e (omega arith))

every_one : (p : ℕ → Bool) (w : List ℕ) (b : ℕ) → every p w ≡ true → p b ≡ true → every p (w ++ b ∷ []) ≡ true
every_one p [] b e f = rw f
every_one p (a ∷ w) b e f = rw (and_left (p a) (every p w) e, every_one p w b (and_right (p a) (every p w) e) f)

-- a test that passes at each digit of the base passes at each byte
pub padded-every : (p : ℕ → Bool) (base k n : ℕ) → 0 < base → all_below (λ d. p (digit d)) base ≡ true → every p (padded base k n) ≡ true
unfolding padded
padded-every p base zero n h t = refl
padded-every p base (suc k) n h t =
    every_one p (padded base k (n / base)) (digit (n % base)) (padded-every p base k (n / base) h t) (below_at (λ d. p (digit d)) base (n % base) (mod-lt n h) t)

-- the decimal digits of n: w are counted, and `more` can follow
pub record Narrowing (n w left : ℕ) : Type 0 where
  pub more : ℕ
  pub upto : w + more ≡ 20
  pub small : left < 10 ^ suc more
  pub count : w + width more left ≡ width 19 n + 1

pub narrow-begins : (n : ℕ) → n < 2 ^ 64 → Narrowing n 1 n
narrow-begins n h = record { more = 19; upto = refl; small = omega arith; count = omega arith }

pub narrow-more : {n w left : ℕ} → Narrowing n w left → 9 < left → Narrowing n (w + 1) (left / 10)
unfolding width
narrow-more {n} {w} {left} v h = narrows v.more v.upto v.small v.count
  where
    narrows : (k : ℕ) → w + k ≡ 20 → left < 10 ^ suc k → w + width k left ≡ width 19 n + 1 → Narrowing n (w + 1) (left / 10)
    narrows zero u s e = absurd (omega arith)
    narrows (suc k) u s e =
        let f = rw (le-ltb left 10 (omega arith)) at e in
        record { more = k; upto = omega arith; small = (div-lt_iff_lt-mul {k = 10} (omega arith)).1 (rw pow-suc at s); count = omega arith }

pub width_one : (k n : ℕ) → n ≤ 9 → width k n ≡ 1
unfolding width
width_one zero n h = refl
width_one (suc k) n h = rw (lt-ltb n 10 (omega arith))

pub narrow-ends : {n w left : ℕ} → Narrowing n w left → left ≤ 9 → w ≡ width 19 n
narrow-ends {n} {w} {left} v h = omega (arith, v.count, width_one v.more left h)

-- the buffer `old`, now `out`, holds v but for what is in front
pub record Backing (v old out front : List ℕ) : Type 0 where
  pub behind : List ℕ
  pub whole : v ≡ front ++ behind
  pub room : length v ≤ length old
  pub holds : out ≡ take (length front) old ++ (behind ++ drop (length v) old)

pub back-begins : (v old : List ℕ) → length v ≤ length old → Backing v old old v
back-begins v old h = record { behind = []; whole = sym (append-nil v); room = h; holds = sym (take-append-drop (length v) old) }

pub back_long : {v old out front : List ℕ} → Backing v old out front → (length out ≡ length old) × (length front ≤ length out)
back_long {v} {old} {out} {front} f =
    let b = f.behind in
    let r = f.room in
    let l : length v ≡ length front + length b = ap length f.whole ∙ length-append front b in
    let e : length out ≡ length old =
    ap length f.holds ∙ length-append (take (length front) old) (b ++ drop (length v) old)
    ∙ omega (arith, length-append b (drop (length v) old), length-take-le (length front) old (omega arith), length-drop (length v) old) in
    (e, omega arith)

-- the last byte of what is in front
pub back_more : {v old out : List ℕ} (front : List ℕ) (b : ℕ) → Backing v old out (front ++ b ∷ []) → {m : ℕ} → m ≡ length front
    → Backing v old (set out m b) front
back_more {v} {old} {out} front b f {m} e =
    let x = f.behind ++ drop (length v) old in
    let n : length (front ++ b ∷ []) ≡ suc m = length-append front (b ∷ []) ∙ omega arith in
    let o : m < length old = omega (arith, back_long f) in
    let h : out ≡ take m old ++ get_or old m 0 ∷ x = f.holds ∙ rw (n, take-suc old m 0 o) (append_assoc (take m old) (get_or old m 0 ∷ []) x) in
    record {
      behind = b ∷ f.behind;
      whole = f.whole ∙ append_assoc front (b ∷ []) f.behind;
      room = f.room;
      holds =
          ap (λ (l : List ℕ). set l m b) h
          ∙ set_at (take m old) (get_or old m 0) x b m (length-take-le m old (omega arith))
          ∙ ap (λ (j : ℕ). take j old ++ b ∷ x) e;
    }

-- the last digit of those in front
pub back-digit : {v old out : List ℕ} (head : List ℕ) (base k j left : ℕ) → Backing v old out (head ++ padded base k left) → k ≡ suc j
    → {m : ℕ} → m ≡ length head + j → {b : ℕ} → b ≡ digit (left % base) → Backing v old (set out m b) (head ++ padded base j (left / base))
unfolding padded
back-digit {v} {old} {out} head base k j left f e {m} g {b} h =
    let front = padded base j (left / base) in
    let i : head ++ padded base k left ≡ (head ++ front) ++ b ∷ [] = rw (e, h) (sym (append_assoc head front (digit (left % base) ∷ []))) in
    back_more (head ++ front) b (subst (Backing v old out) i f) (omega (arith, length-append head front, padded-long base j (left / base)))

pub back_none : {v old out : List ℕ} (head : List ℕ) (base k left : ℕ) → Backing v old out (head ++ padded base k left) → k ≡ 0 → Backing v old out head
unfolding padded
back_none {v} {old} {out} head base k left f e = let i : head ++ padded base k left ≡ head = rw e (append-nil head) in subst (Backing v old out) i f

-- where it is as long as v it is v
pub back-full : {v old out : List ℕ} → length v ≡ length old → Backing v old out [] → out ≡ v
back-full {v} {old} e f = f.holds ∙ ap (λ (x : List ℕ). x ++ drop (length v) old) (sym f.whole) ∙ rw (drop_of_length-le old {i = length v} (omega arith)) (append-nil v)

-- digits behind `0x`, as the code puts them there
pub prefixed : {front places : List ℕ} (b : List ℕ) (n : ℕ) → front ≡ bytes "0x" → places ≡ padded 16 16 n
    → put_mid 2 16 (front ++ drop 2 b) places ≡ before (hexadecimal n) b
unfolding hexadecimal
prefixed {front} {places} b n e f =
    rw (e, f)
    (ap (λ (w : List ℕ). 48 ∷ 120 ∷ padded 16 16 n ++ w) (drop-drop 16 2 b ∙ ap (λ (k : ℕ). drop k b) (sym (hexadecimal-long n))))

-- a result by another name
pub fills-as : {v w old new : List ℕ} {a : Said} → v ≡ w → Fills v old a new → Fills w old a new
fills-as {v} {w} {old} {new} {a} e f = subst (λ (x : List ℕ). Fills x old a new) e f
