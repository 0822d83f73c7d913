-- A byte outside a set is none of the set's bytes: what starts no word is no `x`, and what is no digit is no `0`. Assumes nothing.
use Prim.Native.Nat.{ℕ}
use mathlib.Core.Path.{◌≡◌, sym, ◌∙◌, ap, refl}
use mathlib.Core.Bool.{true, false, true≢false}
use lib.Dec.{eqb}
use borrow.Author.Tests.{ne_eqb}
use Rattle.words.specs.Bytes.{is_digit, is_identifier_start}
use Rattle.grammar.specs.Form.{Set, D, S, ◌or◌, one_of, holds}
use Rattle.grammar.specs.Runs.{char}

none_of : (s : Set) (x b : ℕ) → holds s x ≡ true → holds s b ≡ false → eqb b x ≡ false
none_of s x b has no-b = ne_eqb b x (λ same. true≢false (sym has ∙ ap (holds s) (sym same) ∙ no-b))

pub no-x : (b : ℕ) → holds (S or char "#") b ≡ false → holds (one_of "xX") b ≡ false
unfolding is_identifier_start
no-x b h = rw (none_of (S or char "#") 0x78 b refl h, none_of (S or char "#") 0x58 b refl h)

pub no_zero : (b : ℕ) → holds D b ≡ false → holds (char "0") b ≡ false
unfolding is_digit
no_zero b h = none_of D 0x30 b refl h
