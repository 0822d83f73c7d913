-- How many bytes of a set a text has. Assumes nothing.
use Prim.Native.Nat.{ℕ, ◌+◌, ◌≤◌}
use native.Mathlib.Omega.{arith}
use mathlib.Core.Path.{◌≡◌, refl, sym}
use mathlib.Core.Bool.{true, false, true≢false}
use mathlib.Core.List.{List, [], ◌∷◌, ◌++◌}
use lib.ListN.{length, drop}
use borrow.Author.Tests.{not-true}
use Rattle.keywords.proofs.Logic.{split, and_left, and_right}
use Rattle.words.specs.Bytes.{is}
use Rattle.grammar.specs.Form.{Set, no, ◌or◌, one_of, holds}
use Rattle.grammar.specs.Answers.{count, is_hex}
use Rattle.grammar.specs.Runs.{char}
use Rattle.grammar.proofs.Seen.{inside, inside-holds}

pub count-append : (t : Set) (w v : List ℕ) → count t (w ++ v) ≡ count t w + count t v
count-append t [] v = omega arith
count-append t (x ∷ w) v = let h = count-append t w v in split (holds t x) (λ e. rw e (omega arith)) (λ e. rw e h)

-- of two sets that share no byte, no more than there are bytes
pub count-few : (t u : Set) → inside t (no u) ≡ true → (w : List ℕ) → count t w + count u w ≤ length w
count-few t u i [] = omega arith
count-few t u i (x ∷ w) =
    let h = count-few t u i w in
    split (holds t x)
    (λ e. rw (e, not-true (holds u x) (inside-holds t (no u) i x e)) (omega arith))
    (λ e. split (holds u x) (λ f. rw (e, f) (omega arith)) (λ f. rw (e, f) (omega arith)))

-- in `0x` is no underscore
pub none_before : (w : List ℕ) → is_hex w ≡ true → count (one_of "_") w ≡ count (one_of "_") (drop 2 w)
none_before [] e = absurd (true≢false (sym e))
none_before (a ∷ []) e = absurd (true≢false (sym e))
none_before (a ∷ b ∷ w) e =
    let zero_in = inside-holds (char "0") (no (one_of "_")) refl a (and_left (is "0" a) _ e) in
    let x-in = inside-holds (char "x" or char "X") (no (one_of "_")) refl b (and_right (is "0" a) _ e) in
    rw (not-true (holds (one_of "_") a) zero_in, not-true (holds (one_of "_") b) x-in)
