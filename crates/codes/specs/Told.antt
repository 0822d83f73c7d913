-- The answers of Next, List, its slices and the cut as C gets them. Assumes nothing.
use Rattle.std.specs.Prelude.{ℕ, cond, List, [], ◌∷◌}
use Rattle.lexer.specs.declared.lexed.Lexed.{Lexed}
use Rattle.lexer.specs.Values.{values_of}
use Rattle.cuts.specs.declared.Statement.{Statement}
use Rattle.cuts.specs.Cuts.{CutAnswer, cut, opened, ended, refused}
use Rattle.cuts.specs.Cuts as Cuts
use Rattle.lists.specs.declared.list.Listed.{Listed}
use Rattle.lists.specs.declared.part.Part.{Part}
use Rattle.lists.specs.Lists.{answer_of, records_in}
use Rattle.lists.specs.Parts.{PartAnswer, given, paused}
use Rattle.lists.specs.Parts as Parts
use Rattle.codes.specs.declared.answers.Numbers.{Numbers}
use Rattle.codes.specs.Numbers.{five, of_answer, kind_given}

-- of Next the value is the kind, 0 where there is no token
abbrev pub of_next : Lexed → Numbers
of_next r = of_answer (kind_given (values_of r)) (values_of r)

-- of List the number of records
abbrev pub of_list : Listed → Numbers
of_list r = of_answer (records_in r) (answer_of r)

-- of a slice of List's the same; Paused has status 105
abbrev pub of_part_answer : ℕ → PartAnswer → Numbers
of_part_answer value (given a) = of_answer value a
of_part_answer value (paused start n offset) = five 105 value start n offset

abbrev pub of_part : Part → Numbers
of_part r = of_part_answer (Parts.records_in r) (Parts.answer_of r)

-- of the cut 1 where a token that is not TK_NONE came before the semicolon or the end, else 0, and 0 for a refusal; a cut has status 101,
-- Open 102
abbrev pub of_cut_answer : CutAnswer → Numbers
of_cut_answer (cut start n any offset) = five 101 (cond any 1 0) start n offset
of_cut_answer (opened start n offset) = five 102 1 start n offset
of_cut_answer (ended start n offset) = five 0 0 start n offset
of_cut_answer (refused number start n offset) = five number 0 start n offset

abbrev pub of_cut : Statement → Numbers
of_cut r = of_cut_answer (Cuts.values_of r)

-- the six that are written
abbrev pub written : Numbers → List ℕ
written r = r.value ∷ r.start ∷ r.length ∷ r.next ∷ r.digits ∷ r.underscores ∷ []
