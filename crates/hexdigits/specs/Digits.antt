-- Digits of bases up to sixteen. Assumes nothing.
use Rattle.std.specs.Prelude.{ℕ, ◌+◌, ◌-◌, cond, ltb}
use Prim.Native.Char.{code}
use Rattle.words.specs.Bytes.{between, is_digit}

-- what an H stands for; 0 for any other byte
unfoldable pub worth : ℕ → ℕ
worth b = cond (is_digit b) (b - code "0") (cond (between "A" "F" b) (b - code "A" + 10) (cond (between "a" "f" b) (b - code "a" + 10) 0))

-- the H in capitals that stands for a number below sixteen; 0, which is no H, for any other
unfoldable pub digit : ℕ → ℕ
digit d = cond (ltb d 10) (code "0" + d) (cond (ltb d 16) (code "A" + (d - 10)) 0)
