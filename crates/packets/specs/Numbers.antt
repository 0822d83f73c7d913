-- A stream's answers as C gets them. Assumes nothing.
use Rattle.std.specs.Prelude.{ℕ, List, [], ◌∷◌}
use Rattle.codes.specs.declared.answers.Numbers.{Numbers}
use Rattle.codes.specs.Numbers.{five, of_answer, kind_given}
use Rattle.stream.specs.declared.stream.Answer as A
use Rattle.stream.specs.Calls.{Told, more, tells, values_of}

-- that more is wanted has status 103 and zeros; of any other answer the value is the kind, 0 where there is no token
abbrev pub of_told : Told → Numbers
of_told more = five 103 0 0 0 0
of_told (tells a) = of_answer (kind_given a) a

abbrev pub of_stream : A.Answer → Numbers
of_stream a = of_told (values_of a)

-- the seven that are written: the last is how many bytes were taken (of a slice of List's, in `capi`, how many lexemes were spent)
abbrev pub seven : Numbers → ℕ → List ℕ
seven r taken = r.value ∷ r.start ∷ r.length ∷ r.next ∷ r.digits ∷ r.underscores ∷ taken ∷ []
