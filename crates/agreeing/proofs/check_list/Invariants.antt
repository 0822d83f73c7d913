-- The loop stands at an index and a place, up to which all records agree with the text. Assumes nothing.
use Rattle.grammar.specs.Longest.{source}
use Rattle.agreeing.proofs.AgreeLaws.{Upto}
use Rattle.agreeing.proofs.check_list.Given as goal

abbrev pub invariant-loop-index : goal.invariant-loop-index
invariant-loop-index l = Upto (source l.profile l.text) l.records l.index l.place
