-- The refusals of the check of a list, with document 01's and request 11's numbers. Assumes nothing.
use Rattle.std.specs.Prelude.{ℕ, List, [], ◌∷◌}
use Prim.Native.String.{String}
use Rattle.grammar.specs.Refusals.{Named, named, number_in}

abbrev pub check_refusals : List Named
check_refusals =
    named 9 "TooLong" ∷
    named 16 "ListDiffers" ∷
    []

abbrev pub check_refusal : String → ℕ
check_refusal n = number_in check_refusals n
