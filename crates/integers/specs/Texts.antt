-- Integers with their values, and values with their literals: the limits, and some that are easy to get wrong. Assumes nothing.
use Rattle.std.specs.Prelude.{ℕ, List, [], ◌∷◌, ℤ, pos, negsuc}
use Prim.Native.String.{String}
use Rattle.keywords.specs.Text.{bytes}
use Rattle.buffers.specs.Buffers.{Said, valued, refused_as}

pub record ReadRow : Type 0 where
  pub text : List ℕ
  pub says : Said

abbrev pub read_row : String → Said → ReadRow
read_row t a = record { text = bytes t; says = a }

pub record WriteRow : Type 0 where
  pub value : ℤ
  pub text : List ℕ

abbrev pub write_row : ℤ → String → WriteRow
write_row v t = record { value = v; text = bytes t }

abbrev pub reads : List ReadRow
reads =
    -- decimal, its limit and one more; underscores; leading zeros
    read_row "0" (valued (pos 0)) ∷
    read_row "1_000" (valued (pos 1000)) ∷
    read_row "9223372036854775807" (valued (pos 9223372036854775807)) ∷
    read_row "9223372036854775808" (refused_as "OutOfRange") ∷
    read_row "9_223372036854775_808" (refused_as "OutOfRange") ∷
    read_row "999999999999999999" (valued (pos 999999999999999999)) ∷
    read_row "1000000000000000000" (valued (pos 1000000000000000000)) ∷
    read_row "10000000000000000000" (refused_as "OutOfRange") ∷
    read_row "00000000000000000000009" (valued (pos 9)) ∷
    -- hexadecimal: the page's examples; sixteen H and seventeen; two's complement
    read_row "0x1234" (valued (pos 4660)) ∷
    read_row "0x8000000000000000" (valued (negsuc 9223372036854775807)) ∷
    read_row "0x10" (valued (pos 16)) ∷
    read_row "0Xa_B" (valued (pos 171)) ∷
    read_row "0x7FFFFFFFFFFFFFFF" (valued (pos 9223372036854775807)) ∷
    read_row "0xFFFFFFFFFFFFFFFF" (valued (negsuc 0)) ∷
    read_row "0xffff_ffff_ffff_fffe" (valued (negsuc 1)) ∷
    read_row "0x10000000000000000" (refused_as "OutOfRange") ∷
    read_row "0x00000000000000001" (valued (pos 1)) ∷
    []

abbrev pub writes : List WriteRow
writes =
    write_row (pos 0) "0" ∷
    write_row (pos 9) "9" ∷
    write_row (pos 10) "10" ∷
    write_row (pos 9223372036854775807) "9223372036854775807" ∷
    write_row (negsuc 0) "0xFFFFFFFFFFFFFFFF" ∷
    write_row (negsuc 9223372036854775807) "0x8000000000000000" ∷
    write_row (negsuc 170) "0xFFFFFFFFFFFFFF55" ∷
    []
