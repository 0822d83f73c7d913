-- What is written names its number, and what names a number as it is written is what is written. Assumes nothing.
use Prim.Native.Nat.{ℕ, zero, suc, ◌+◌, ◌-◌, ◌*◌, ◌/◌, ◌%◌, ◌^◌, ◌≤◌, ◌<◌}
use native.Mathlib.Omega.{arith}
use native.Mathlib.Nat.{zero-add, add-zero, mul-one, one-mul, mul_assoc, mul-le-mul_right, le_trans, mod-lt, div-add-mod', div-lt_iff_lt-mul}
use native.Mathlib.Nat.{pow-zero, pow-suc, pow-succ', pow-le-pow_right}
use mathlib.Core.Path.{◌≡◌, sym, ◌∙◌, ap, subst}
use mathlib.Core.Bool.{Bool, true, false}
use mathlib.Core.List.{List, [], ◌∷◌, ◌++◌, append_assoc, append-nil}
use lib.Arith.{digits_div, digits_mod}
use lib.Dec.{ltb}
use lib.ListN.{length}
use borrow.Author.Tests.{ltb-true, ltb-false, le-ltb}
use Rattle.keywords.proofs.Logic.{split, and_left, and_right, every}
use Rattle.words.specs.Bytes.{is, is_digit}
use Rattle.hexdigits.specs.Digits.{worth, digit}
use Rattle.hexdigits.proofs.DigitLaws.{worth-digit, digit-no-underscore, worth-most, worth-most-decimal, is_capital, digit-worth}
use Rattle.integers.specs.Numbers.{digits, number, value, padded, width}
use Rattle.integers.specs.Integers.{decimal}
use Rattle.integers.proofs.WritingLaws.{width_one}

-- a digit more
number_more : (base n : ℕ) (w : List ℕ) (d : ℕ) → d < 16 → number base n (digits (w ++ digit d ∷ [])) ≡ number base n (digits w) * base + d
unfolding digits number
number_more base n [] d h = rw (digit-no-underscore d h, worth-digit d h)
number_more base n (b ∷ w) d h = split (is "_" b) (λ e. rw e (number_more base n w d h)) (λ e. rw e (number_more base (n * base + worth b) w d h))

-- n in k digits, when it has no more, names n
pub value-padded : (base k n : ℕ) → 0 < base → base ≤ 16 → n < base ^ k → value base (padded base k n) ≡ n
unfolding padded digits number
value-padded base zero n p q h = omega (arith, pow-zero base)
value-padded base (suc k) n p q h =
    let low : n % base < base = mod-lt n p in
    let high : n / base < base ^ k = (div-lt_iff_lt-mul p).1 (rw pow-suc at h) in
    number_more base 0 (padded base k (n / base)) (n % base) (omega arith)
    ∙ ap (λ (m : ℕ). m * base + n % base) (value-padded base k (n / base) p q high)
    ∙ div-add-mod' n base

-- and it has no more than its width
pub width-bound : (k n : ℕ) → n < 10 ^ suc k → n < 10 ^ width k n
unfolding width
width-bound zero n h = h
width-bound (suc k) n h =
    split (ltb n 10)
    (λ e. rw e (ltb-true n 10 e))
    (λ e.
    let high : n / 10 < 10 ^ suc k = (div-lt_iff_lt-mul {k = 10} (omega arith)).1 (rw pow-suc at h) in
    rw (e, pow-suc) ((div-lt_iff_lt-mul {k = 10} (omega arith)).0 (width-bound k (n / 10) high)))

-- bytes as they are written: digits of the base, in capitals
pub record Plain (base : ℕ) (p : ℕ → Bool) : Type 0 where
  pub small : (b : ℕ) → p b ≡ true → worth b < base
  pub same : (b : ℕ) → p b ≡ true → digit (worth b) ≡ b

pub plain-decimal : Plain 10 is_digit
plain-decimal = record { small = worth-most-decimal; same = λ b e. digit-worth b (rw e) }

pub plain-hexadecimal : Plain 16 is_capital
plain-hexadecimal = record { small = λ b e. worth-most b; same = digit-worth }

module _ {base : ℕ} {p : ℕ → Bool} (ok : Plain base p) where
  plain-no-underscore : (b : ℕ) → p b ≡ true → is "_" b ≡ false
  plain-no-underscore b e = subst (λ (x : ℕ). is "_" x ≡ false) (ok.same b e) (digit-no-underscore (worth b) (worth-most b))

  -- they are the digits of the number that they name behind n, behind those of n
  padded-number : (j n : ℕ) (w : List ℕ) → every p w ≡ true → padded base (length w + j) (number base n (digits w)) ≡ padded base j n ++ w
  unfolding padded digits number
  padded-number j n [] e = rw (zero-add j) (sym (append-nil (padded base j n)))
  padded-number j n (b ∷ w) e =
      let here = and_left (p b) (every p w) e in
      let small = ok.small b here in
      let k : suc (length w) + j ≡ length w + suc j = omega arith in
      let behind = padded-number (suc j) (n * base + worth b) w (and_right (p b) (every p w) e) in
      rw (plain-no-underscore b here, k, behind, digits_div n small, digits_mod n small, ok.same b here)
      (append_assoc (padded base j n) (b ∷ []) w)

  pub padded-value : (w : List ℕ) → every p w ≡ true → padded base (length w) (value base w) ≡ w
  unfolding padded
  padded-value w e = ap (λ (k : ℕ). padded base k (value base w)) (sym (add-zero (length w))) ∙ padded-number 0 0 w e

  -- no fewer than n and so many digits more
  number-long : (n : ℕ) (w : List ℕ) → every p w ≡ true → n * base ^ length w ≤ number base n (digits w)
  unfolding digits number
  number-long n [] e = rw (pow-zero base) (omega (arith, mul-one n))
  number-long n (b ∷ w) e =
      let q = base ^ length w in
      let m : n * base * q ≤ (n * base + worth b) * q = mul-le-mul_right q (omega arith) in
      rw (plain-no-underscore b (and_left (p b) (every p w) e), pow-succ' base (length w))
      (le_trans (omega (arith, mul_assoc n base q)) (number-long (n * base + worth b) w (and_right (p b) (every p w) e)))

-- how many digits a number has: those of its first, and those behind them
width-number : (k n : ℕ) (w : List ℕ) → 0 < n → every is_digit w ≡ true → width (length w + k) (number 10 n (digits w)) ≡ length w + width k n
unfolding width digits number
width-number k n [] o e = rw (zero-add k) (omega arith)
width-number k n (b ∷ w) o e =
    let here = and_left (is_digit b) (every is_digit w) e in
    let m = n * 10 + worth b in
    let i : suc (length w) + k ≡ length w + suc k = omega arith in
    let d : m / 10 ≡ n = digits_div n (worth-most-decimal b here) in
    let behind = width-number (suc k) m w (omega arith) (and_right (is_digit b) (every is_digit w) e) in
    rw (plain-no-underscore plain-decimal b here, i, behind, le-ltb m 10 (omega arith), d) (omega arith)

-- a decimal number that does not begin with `0`, or is one digit, is written so
decimal-same : (w : List ℕ) → every is_digit w ≡ true → width 19 (value 10 w) ≡ length w → decimal (value 10 w) ≡ w
unfolding decimal
decimal-same w e l = rw l (padded-value plain-decimal w e)

pub one_again : (a : ℕ) → is_digit a ≡ true → decimal (value 10 (a ∷ [])) ≡ a ∷ []
unfolding digits number
one_again a e =
    let one = width_one 19 (0 * 10 + worth a) (omega (arith, worth-most-decimal a e)) in
    decimal-same (a ∷ []) (rw e) (rw (plain-no-underscore plain-decimal a e) one)

-- in a number below 10 ^ k fewer than k digits stand behind the first, which is no `0`
few-behind : (k n : ℕ) (w : List ℕ) → 0 < n → every is_digit w ≡ true → number 10 n (digits w) < 10 ^ k → length w < k
few-behind k n w o e h =
    split (ltb (length w) k)
    (λ f. ltb-true (length w) k f)
    (λ f.
    let q = 10 ^ length w in
    let m : 1 * q ≤ n * q = mul-le-mul_right q o in
    absurd (omega (arith, one-mul q, number-long plain-decimal n w e, pow-le-pow_right {n = 10} (omega arith) (ltb-false (length w) k f))))

pub more-again : (a : ℕ) (w : List ℕ) → every is_digit (a ∷ w) ≡ true → 0 < worth a → value 10 (a ∷ w) < 10 ^ 19 → decimal (value 10 (a ∷ w)) ≡ a ∷ w
unfolding digits number
more-again a w e o h =
    let here = and_left (is_digit a) (every is_digit w) e in
    let behind = and_right (is_digit a) (every is_digit w) e in
    let n = 0 * 10 + worth a in
    let v : value 10 (a ∷ w) ≡ number 10 n (digits w) = rw (plain-no-underscore plain-decimal a here) in
    let few : length w < 19 = few-behind 19 n w (omega arith) behind (omega arith) in
    let k = 19 - length w in
    let all : length w + k ≡ 19 = omega arith in
    let long : width (length w + k) (number 10 n (digits w)) ≡ suc (length w) =
    width-number k n w (omega arith) behind ∙ omega (arith, width_one k n (omega (arith, worth-most-decimal a here))) in
    decimal-same (a ∷ w) e (rw v (rw all at long))
