-- What a text begins with, and its parts: for the lexer's private contracts and the proofs; `Gives` does not rest on it. Assumes nothing.
use Rattle.std.specs.Prelude.{ℕ, suc, ◌+◌, ◌-◌, Bool, false, cond, ◌&&◌, List, [], ◌∷◌, length, take, drop}
use Prim.Native.Char.{Char, code}
use Rattle.grammar.specs.Form.{Set, byte, holds}

-- it begins with a byte of the set
unfoldable pub sees : Set → List ℕ → Bool
sees t [] = false
sees t (b ∷ s) = holds t b

-- with so many bytes of the set
unfoldable pub run_length : Set → List ℕ → ℕ
run_length t [] = 0
run_length t (b ∷ s) = cond (holds t b) (suc (run_length t s)) 0

-- a byte by its character
abbrev pub char : Char → Set
char c = byte (code c)

-- with a `::` pair
unfoldable pub sees_pair : List ℕ → Bool
sees_pair s = sees (char ":") s && sees (char ":") (drop 1 s)

-- its bytes from a place to before another
abbrev pub part : List ℕ → ℕ → ℕ → List ℕ
part s from to = take (to - from) (drop from s)

-- the place behind the byte at `at`, if there is one; behind the one there if it is in the set; and behind the run of the set
unfoldable pub moved : ℕ → List ℕ → ℕ
moved at s = at + length (take 1 (drop at s))

unfoldable pub optional : Set → ℕ → List ℕ → ℕ
optional t at s = cond (sees t (drop at s)) (at + 1) at

unfoldable pub over : Set → ℕ → List ℕ → ℕ
over t at s = at + run_length t (drop at s)
