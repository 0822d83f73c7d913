-- The tables of texts hold. Assumes nothing.
use mathlib.Core.Path.{◌≡◌, refl}
use mathlib.Core.List.{map}
use Rattle.strings.specs.Quotes.{undoubled, unquoted, doubled, quoted}
use Rattle.strings.specs.Texts.{Row, reads, Written, writes}

pub reads-hold : map (λ (r : Row). unquoted r.text) reads ≡ map (λ (r : Row). r.bytes) reads
unfolding undoubled unquoted
reads-hold = refl

pub writes-hold : map (λ (w : Written). quoted w.quote w.bytes) writes ≡ map (λ (w : Written). w.text) writes
unfolding doubled quoted
writes-hold = refl
