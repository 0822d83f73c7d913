-- The value of an integer's bytes, and the integer literal of a value. Assumes nothing.
use Rattle.std.specs.Prelude.{ℕ, suc, ◌-◌, ◌^◌, cond, List, ◌++◌, leb, ltb, ℤ, pos, negsuc, drop}
use Rattle.keywords.specs.Text.{bytes}
use Rattle.grammar.specs.Answers.{is_hex}
use Rattle.buffers.specs.Buffers.{Said, valued, refused_as}
use Rattle.integers.specs.Numbers.{value, padded, width}

-- 64 bits taken as two's complement, so sixteen F's are -1 (`negsuc k` is -1 - k); and back
unfoldable pub signed : ℕ → ℤ
signed n = cond (ltb n (2 ^ 63)) (pos n) (negsuc (2 ^ 64 - suc n))

unfoldable pub bits_of : ℤ → ℕ
bits_of (pos n) = n
bits_of (negsuc k) = 2 ^ 64 - suc k

-- a number up to a limit
unfoldable pub up_to : ℕ → ℕ → Said
up_to limit n = cond (leb n limit) (valued (signed n)) (refused_as "OutOfRange")

-- decimal up to 9,223,372,036,854,775,807; hexadecimal up to 64 bits
unfoldable pub integer_of : List ℕ → Said
integer_of w = cond (is_hex w) (up_to 18446744073709551615 (value 16 (drop 2 w))) (up_to 9223372036854775807 (value 10 w))

-- an integer to decimal; a negative one to `0x` and sixteen H in capitals
unfoldable pub decimal : ℕ → List ℕ
decimal n = padded 10 (width 19 n) n

unfoldable pub hexadecimal : ℕ → List ℕ
hexadecimal n = bytes "0x" ++ padded 16 16 n

unfoldable pub integer_literal : ℤ → List ℕ
integer_literal (pos n) = decimal n
integer_literal (negsuc k) = hexadecimal (bits_of (negsuc k))
