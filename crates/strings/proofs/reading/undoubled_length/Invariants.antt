-- `strings::reading::undoubled_length` meets its contract: what is counted and what is left make the whole. Assumes nothing.
use Rattle.strings.proofs.LoopLaws.{Counting}
use Rattle.strings.proofs.reading.undoubled_length.Given as goal

abbrev pub invariant-loop-b : goal.invariant-loop-b
invariant-loop-b l = Counting l.quote l.body l.n l.skipped l.b-index
