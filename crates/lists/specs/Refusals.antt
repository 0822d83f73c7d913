-- The refusals that List adds to Next's, with document 01's numbers. Assumes nothing.
use Rattle.std.specs.Prelude.{ℕ, List, [], ◌∷◌}
use Prim.Native.String.{String}
use Rattle.grammar.specs.Refusals.{Named, named, number_in}

abbrev pub list_refusals : List Named
list_refusals =
    named 9 "TooLong" ∷
    named 10 "ListFull" ∷
    []

abbrev pub list_refusal : String → ℕ
list_refusal n = number_in list_refusals n
