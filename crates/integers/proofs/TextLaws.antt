-- The tables of texts hold, and what is written is canonical. Assumes nothing.
use mathlib.Core.Path.{◌≡◌, refl}
use mathlib.Core.Bool.{true}
use mathlib.Core.List.{map}
use Rattle.keywords.proofs.Logic.{every}
use Rattle.words.specs.Bytes.{is_digit}
use Rattle.hexdigits.specs.Digits.{worth, digit}
use Rattle.integers.specs.Numbers.{digits, number, padded, width}
use Rattle.integers.specs.Integers.{signed, bits_of, up_to, integer_of, decimal, hexadecimal, integer_literal}
use Rattle.integers.specs.Texts.{ReadRow, WriteRow, reads, writes}
use Rattle.integers.proofs.Theorems.{canonical}

pub reads-hold : map (λ (r : ReadRow). integer_of r.text) reads ≡ map (λ (r : ReadRow). r.says) reads
unfolding is_digit worth digits number signed up_to integer_of
reads-hold = refl

pub writes-hold : map (λ (r : WriteRow). integer_literal r.value) writes ≡ map (λ (r : WriteRow). r.text) writes
unfolding digit padded width bits_of decimal hexadecimal integer_literal
writes-hold = refl

pub writes-canonical : every (λ (r : WriteRow). canonical r.text) writes ≡ true
unfolding is_digit worth digits number canonical
writes-canonical = refl
