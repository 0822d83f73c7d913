-- Refusals by number and name, and those of Next with document 01's numbers. A crate above that refuses for reasons of its own has a list
-- of its own. Assumes nothing.
use Rattle.std.specs.Prelude.{ℕ, cond, List, [], ◌∷◌}
use Prim.Native.String.{String}
use lib.Text.{eqt}

pub record Named : Type 0 where
  pub number : ℕ
  pub name : String

abbrev pub named : ℕ → String → Named
named k n = record { number = k; name = n }

-- the number of a name on such a list; 0, which is no refusal's, where it is not there
abbrev pub number_in : List Named → String → ℕ
number_in [] n = 0
number_in (r ∷ rs) n = cond (eqt n r.name) r.number (number_in rs n)

abbrev pub refusals : List Named
refusals =
    named 1 "UnrecognizedToken" ∷
    named 2 "UnterminatedLiteral" ∷
    named 3 "BadNumber" ∷
    named 4 "BadFractionalPart" ∷
    named 5 "BadExponentPart" ∷
    named 6 "MalformedHexInteger" ∷
    named 7 "ExpectedEqualsSign" ∷
    named 8 "OffsetPastEnd" ∷
    []

abbrev pub refusal_number : String → ℕ
refusal_number n = number_in refusals n
