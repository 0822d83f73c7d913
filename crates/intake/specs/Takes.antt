-- How many bytes of a part a stream takes, and what it holds then. Assumes nothing.
use Rattle.std.specs.Prelude.{ℕ, suc, ◌+◌, ◌≡◌, Bool, true, false, cond, ◌||◌, List, [], ◌∷◌, ◌++◌, leb, ltb, eqb, length, take, drop, get_or, set}
use Rattle.grammar.specs.declared.profile.Profile.{Profile}
use Rattle.readings.specs.declared.reading.Reading.{Reading}
use Rattle.readings.specs.Arrows.{onward, onwards, is_lexeme, is_settled}
use Rattle.intake.specs.declared.state.Stream.{Stream}
use Rattle.intake.specs.declared.taking.Taken.{Taken}

-- the longest lexeme that a stream gives
abbrev pub limit : ℕ
limit = 2048

-- how many bytes a row has: a lexeme and two more
abbrev pub room : ℕ
room = limit + 2

-- h bytes were read: they are a lexeme over the limit
unfoldable pub is_over : Reading → ℕ → Bool
is_over r h = cond (leb h limit) false (is_lexeme r)

-- no byte more is wanted: nothing longer is a lexeme, or what was read is one over the limit; and a row of so many bytes holds no more
unfoldable pub is_ready : ℕ → Reading → ℕ → Bool
is_ready full r h = is_settled r || is_over r h || leb full h

-- how many bytes of a part are taken, behind h bytes that were read: up to where no byte more is wanted
unfoldable pub takes : ℕ → Profile → Reading → ℕ → List ℕ → ℕ
takes full p r h [] = 0
takes full p r h (b ∷ s) = let more = suc (takes full p (onward p r b) (suc h) s) in cond (is_ready full r h) 0 more

-- of a row that holds h bytes those behind the first n
abbrev pub behind : ℕ → ℕ → List ℕ → List ℕ
behind n h row = drop n (take h row)

-- a row with a text at its front, behind it what was there
abbrev pub front : List ℕ → List ℕ → List ℕ
front text row = text ++ drop (length text) row

-- what is held for the next lexeme: the bytes behind the token given last
abbrev pub waiting : Stream → List ℕ → List ℕ
waiting s row = behind s.given s.held row

-- their reading: behind a token they have still to be read
abbrev pub read_now : Stream → List ℕ → Reading
read_now s row = cond (eqb s.given 0) s.reading (onwards s.profile s.reading (waiting s row))

-- how many bytes of a part are taken; what is held then, its reading, and whether no byte more is wanted
abbrev pub taken_of : Stream → List ℕ → List ℕ → ℕ
taken_of s row part = takes (length row) s.profile (read_now s row) (length (waiting s row)) part

abbrev pub text_of : Stream → List ℕ → List ℕ → List ℕ
text_of s row part = waiting s row ++ take (taken_of s row part) part

abbrev pub read_then : Stream → List ℕ → List ℕ → Reading
read_then s row part = onwards s.profile (read_now s row) (take (taken_of s row part) part)

abbrev pub ready_then : Stream → List ℕ → List ℕ → Bool
ready_then s row part = is_ready (length row) (read_then s row part) (length (text_of s row part))

-- what `take_in` owes: these, and the row with the text at its front
abbrev pub TakesIn : Stream → List ℕ → List ℕ → Taken → List ℕ → Type 0
TakesIn s row part t new =
    (t.reading ≡ read_then s row part) ×
    (t.held ≡ length (text_of s row part)) ×
    (t.taken ≡ taken_of s row part) ×
    (t.ready ≡ ready_then s row part) ×
    (new ≡ front (text_of s row part) row)

-- For private functions: how many of h bytes were read; whether a byte is to be read; whether one comes from the part, and the row then.
unfoldable pub read_so_far : ℕ → ℕ → ℕ
read_so_far given h = cond (eqb given 0) h 0

unfoldable pub is_wanted : ℕ → Reading → ℕ → ℕ → ℕ → ℕ → Bool
is_wanted full r read h taken part = cond (ltb read h) true (cond (is_ready full r h) false (ltb taken part))

unfoldable pub filled : ℕ → ℕ → ℕ
filled read h = cond (ltb read h) 0 1

unfoldable pub filling : List ℕ → ℕ → ℕ → List ℕ → ℕ → List ℕ
filling row read h part taken = cond (ltb read h) row (set row h (get_or part taken 0))
