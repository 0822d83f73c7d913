-- The refusals of the pairing of brackets, with document 01's and the requests' numbers. Assumes nothing.
use Rattle.std.specs.Prelude.{ℕ, List, [], ◌∷◌}
use Prim.Native.String.{String}
use Rattle.grammar.specs.Refusals.{Named, named, number_in}

abbrev pub pair_refusals : List Named
pair_refusals =
    named 9 "TooLong" ∷
    named 13 "NoRoom" ∷
    named 17 "NotRecords" ∷
    named 18 "TooDeep" ∷
    named 19 "WrongCloser" ∷
    named 20 "LeftOpen" ∷
    []

abbrev pub pair_refusal : String → ℕ
pair_refusal n = number_in pair_refusals n
