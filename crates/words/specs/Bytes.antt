-- The byte classes of document 01, as tests that compute. Assumes nothing.
use Rattle.std.specs.Prelude.{ℕ, Bool, ◌&&◌, ◌||◌, eqb, leb, ltb}
use Prim.Native.Char.{Char, code}

abbrev pub is : Char → ℕ → Bool
is c b = eqb b (code c)

abbrev pub within : ℕ → ℕ → ℕ → Bool
within lo hi b = leb lo b && leb b hi

abbrev pub between : Char → Char → ℕ → Bool
between lo hi b = within (code lo) (code hi) b

-- D digit
unfoldable pub is_digit : ℕ → Bool
is_digit b = between "0" "9" b

-- H hexadecimal digit
unfoldable pub is_hexdigit : ℕ → Bool
is_hexdigit b = is_digit b || between "A" "F" b || between "a" "f" b

-- S identifier start: A-Z, a-z, `_`, above 0x7F
unfoldable pub is_identifier_start : ℕ → Bool
is_identifier_start b = between "A" "Z" b || between "a" "z" b || is "_" b || ltb 0x7F b

-- C identifier continue: those, digits, `$`
unfoldable pub is_identifier_continue : ℕ → Bool
is_identifier_continue b = is_identifier_start b || is_digit b || is "$" b

-- blank: 09, 0A, 0C, 0D, 20; not 0B
unfoldable pub is_blank : ℕ → Bool
is_blank b = eqb b 0x09 || eqb b 0x0A || eqb b 0x0C || eqb b 0x0D || eqb b 0x20
