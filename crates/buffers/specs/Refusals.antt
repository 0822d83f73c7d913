-- The refusals of the calls that read and write literals, with request 2's numbers. Assumes nothing.
use Rattle.std.specs.Prelude.{ℕ, List, [], ◌∷◌}
use Prim.Native.String.{String}
use Rattle.grammar.specs.Refusals.{Named, named, number_in}

abbrev pub literal_refusals : List Named
literal_refusals =
    named 11 "NotThatLiteral" ∷
    named 12 "OutOfRange" ∷
    named 13 "NoRoom" ∷
    []

abbrev pub literal_refusal : String → ℕ
literal_refusal n = number_in literal_refusals n
