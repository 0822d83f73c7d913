-- The refusals of a stream, with document 01's and request 9's numbers. Assumes nothing.
use Rattle.std.specs.Prelude.{ℕ, List, [], ◌∷◌}
use Prim.Native.String.{String}
use Rattle.grammar.specs.Refusals.{Named, named, number_in}
use Rattle.grammar.specs.Answers.{Answer, refusal}

abbrev pub stream_refusals : List Named
stream_refusals =
    named 9 "TooLong" ∷
    named 14 "LexemeTooLong" ∷
    named 15 "Closed" ∷
    []

abbrev pub stream_refusal : String → ℕ
stream_refusal n = number_in stream_refusals n

-- each has the end of the token given last as its offset and the empty span there
abbrev pub own : String → ℕ → Answer
own name last = refusal (stream_refusal name) last 0 last
