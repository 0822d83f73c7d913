-- Strings and quoted names: the bytes of a literal, and the literal of bytes. Assumes nothing.
use Rattle.std.specs.Prelude.{ℕ, ◌-◌, Bool, false, cond, List, [], ◌∷◌, ◌++◌, eqb, length, get_or, take, drop}
use Rattle.words.specs.Bytes.{is}

-- doubled quotes made single: a byte is left out (the flag) behind a quote that stayed
unfoldable pub undoubled : ℕ → Bool → List ℕ → List ℕ
undoubled q out [] = []
undoubled q out (b ∷ w) = cond out (undoubled q false w) (b ∷ undoubled q (eqb b q) w)

-- between the first byte and the last
abbrev pub inner : List ℕ → List ℕ
inner w = take (length w - 2) (drop 1 w)

abbrev pub opening : List ℕ → ℕ
opening w = get_or w 0 0

-- the bytes of a literal: those between its quotes, doubled ones made single; of `[name]` (request 7) the inner bytes
unfoldable pub unquoted : List ℕ → List ℕ
unquoted w = cond (is "[" (opening w)) (inner w) (undoubled (opening w) false (inner w))

-- each quote twice; between two of them
unfoldable pub doubled : ℕ → List ℕ → List ℕ
doubled q [] = []
doubled q (b ∷ v) = b ∷ cond (eqb b q) (b ∷ doubled q v) (doubled q v)

unfoldable pub quoted : ℕ → List ℕ → List ℕ
quoted q v = q ∷ doubled q v ++ q ∷ []
