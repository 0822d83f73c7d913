-- How the code reads a literal in quotes: by the byte that closes it. Assumes nothing.
use Rattle.std.specs.Prelude.{ℕ, ◌+◌, ◌-◌, ◌≤◌, ◌≡◌, false, cond, List, length, get_or}
use Prim.Native.Char.{code}
use Rattle.words.specs.Bytes.{is}
use Rattle.spans.specs.Spans.{span}
use Rattle.strings.specs.Quotes.{undoubled, unquoted}

abbrev pub closing_of : ℕ → ℕ
closing_of b = cond (is "[" b) (code "]") b

-- a span in quotes: the bytes between its first and its last, with the closing byte's doubled ones made single, are those of the literal;
-- in brackets too, where the closing byte stands nowhere
pub record IsQuoted (s : List ℕ) (start n : ℕ) : Type 0 where
  pub inside : start + n ≤ length s
  pub two : 2 ≤ n
  pub told : undoubled (closing_of (get_or s start 0)) false (span s (start + 1) (n - 2)) ≡ unquoted (span s start n)
