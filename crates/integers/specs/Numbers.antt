-- The numbers that digits name. Assumes nothing.
use Rattle.std.specs.Prelude.{ℕ, zero, suc, ◌+◌, ◌*◌, ◌/◌, ◌%◌, cond, List, [], ◌∷◌, ◌++◌, ltb}
use Rattle.words.specs.Bytes.{is}
use Rattle.hexdigits.specs.Digits.{worth, digit}

-- what the digits of a text stand for; underscores skipped
unfoldable pub digits : List ℕ → List ℕ
digits [] = []
digits (b ∷ w) = cond (is "_" b) (digits w) (worth b ∷ digits w)

-- the number that digits name behind those of n: one digit more is the base times n, and that digit
unfoldable pub number : ℕ → ℕ → List ℕ → ℕ
number base n [] = n
number base n (d ∷ ds) = number base (n * base + d) ds

abbrev pub value : ℕ → List ℕ → ℕ
value base w = number base 0 (digits w)

-- n in so many digits of a base
unfoldable pub padded : ℕ → ℕ → ℕ → List ℕ
padded base zero n = []
padded base (suc k) n = padded base k (n / base) ++ digit (n % base) ∷ []

-- how many decimal digits n has: one, and one more for each time that ten goes into it; at most so many more
unfoldable pub width : ℕ → ℕ → ℕ
width zero n = 1
width (suc k) n = cond (ltb n 10) 1 (suc (width k (n / 10)))
