-- `strings::writing::put_quoted` meets its contract: what is put and what is left make the whole. Assumes nothing.
use Rattle.strings.proofs.LoopLaws.{Quoting}
use Rattle.strings.proofs.writing.put_quoted.Given as goal

abbrev pub invariant-loop-b : goal.invariant-loop-b
invariant-loop-b l = Quoting l.quote l.bytes l.initial.buffer l.buffer l.n l.b-index
