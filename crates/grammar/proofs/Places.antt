-- Places in a text, as the lexer's private functions ask for them; the contract of `next` does not rest on it. `Reads s start at (behind
-- "1e")` says that the lexeme of s from `start` on is found by going on from `at` as if `1e` had been read. Assumes nothing.
use Prim.Native.Nat.{ℕ, ◌+◌, ◌-◌, ◌≤◌, max}
use mathlib.Core.Path.{◌≡◌}
use mathlib.Core.Bool.{true, false}
use mathlib.Core.List.{List}
use lib.ListN.{drop}
use Rattle.keywords.proofs.Logic.{every}
use Rattle.grammar.specs.declared.profile.Profile.{Profile}
use Rattle.grammar.specs.Form.{Set, D, H, C, no, ◌or◌, one_of, holds}
use Rattle.grammar.specs.Answers.{after_last, count, is_hex}
use Rattle.grammar.specs.Runs.{char, sees, sees_pair, part, moved}
use Rattle.grammar.proofs.Reading.{Reads, ReadsUnder, behind, behind_under}

-- a byte of the set stands at the place
abbrev pub At : Set → ℕ → List ℕ → Type 0
At t at s = sees t (drop at s) ≡ true

-- only bytes of the set stand from a place to before another
abbrev pub Only : Set → List ℕ → ℕ → ℕ → Type 0
Only t s from to = every (holds t) (part s from to) ≡ true

-- Of a lexeme's digits before a place, the last group starts at g: behind the last byte that is no digit, or behind the first byte.
abbrev pub Group : Set → List ℕ → ℕ → ℕ → ℕ → Type 0
Group t s from g at = max 1 (after_last (no t) (part s from at)) ≡ g - from

-- of the bytes from a place to before another, so many are digits of the set, and so many underscores
pub record Counted (t : Set) (s : List ℕ) (from to n u : ℕ) : Type 0 where
  pub digits : count t (part s from to) ≡ n
  pub underscores : count (one_of "_") (part s from to) ≡ u

-- behind a number's first digit
pub record Decimal (π : Profile) (s : List ℕ) (start at : ℕ) : Type 0 where
  pub reads : ReadsUnder π s start at (behind_under π "1")
  pub digits : Only (D or one_of "_") s start at
  pub run : Group D s start at at
  pub counted : Counted D s start at 1 0

-- at the dot behind a number's digits
pub record Dot (π : Profile) (s : List ℕ) (start at : ℕ) : Type 0 where
  pub dot : At (char ".") at s
  pub reads : ReadsUnder π s start at (behind_under π "1")
  pub digits : Only (D or one_of "_") s start at

-- at the first digit behind a number's dot
pub record Fraction (π : Profile) (s : List ℕ) (start at dot : ℕ) : Type 0 where
  pub ordered : start ≤ dot
  pub next : at ≡ dot + 1
  pub seen : At (char ".") dot s
  pub reads : ReadsUnder π s start at (behind_under π "1.5")
  pub digits : Only (D or one_of "_") s start dot

-- at the `e` of a number
pub record Exponent (π : Profile) (s : List ℕ) (start at : ℕ) : Type 0 where
  pub ordered : start ≤ at
  pub e : At (char "e" or char "E") at s
  pub reads : ReadsUnder π s start (moved at s) (behind_under π "1e")
  pub digits : Only (D or one_of "_.") s start at

-- behind `0x`
pub record Hex (s : List ℕ) (start at : ℕ) : Type 0 where
  pub two : at ≡ start + 2
  pub begins : is_hex (drop start s) ≡ true
  pub reads : Reads s start at (behind "0x")
  pub run : Group H s start at at

-- behind the identifier bytes and pairs of a parameter's name
pub record Named (π : Profile) (s : List ℕ) (start at : ℕ) : Type 0 where
  pub reads : ReadsUnder π s start at (behind "$a")
  pub byte : sees C (drop at s) ≡ false
  pub pair : sees_pair (drop at s) ≡ false
