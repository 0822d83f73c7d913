-- The tables of blobs hold. Assumes nothing.
use mathlib.Core.Path.{◌≡◌, refl}
use mathlib.Core.List.{map}
use Rattle.words.specs.Bytes.{is_digit}
use Rattle.hexdigits.specs.Digits.{worth, digit}
use Rattle.blobs.specs.Blobs.{pairs, blob_bytes, hexed, blob_literal}
use Rattle.blobs.specs.Texts.{Row, reads, writes}

pub reads-hold : map (λ (r : Row). blob_bytes r.text) reads ≡ map (λ (r : Row). r.bytes) reads
unfolding is_digit worth pairs blob_bytes
reads-hold = refl

pub writes-hold : map (λ (r : Row). blob_literal r.bytes) writes ≡ map (λ (r : Row). r.text) writes
unfolding digit hexed blob_literal
writes-hold = refl
