-- `strings::reading::put_undoubled` meets its contract: what is put and what is left make the whole. Assumes nothing.
use Rattle.strings.proofs.LoopLaws.{Undoubling}
use Rattle.strings.proofs.reading.put_undoubled.Given as goal

abbrev pub invariant-loop-b : goal.invariant-loop-b
invariant-loop-b l = Undoubling l.quote l.body l.initial.buffer l.buffer l.n l.out l.b-index
