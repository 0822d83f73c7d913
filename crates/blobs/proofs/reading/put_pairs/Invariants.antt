-- `blobs::reading::put_pairs` meets its contract: what is put and what is left make the whole. Assumes nothing.
use Rattle.blobs.proofs.LoopLaws.{Pairing}
use Rattle.blobs.proofs.reading.put_pairs.Given as goal

abbrev pub invariant-loop-n : goal.invariant-loop-n
invariant-loop-n l = Pairing l.digits l.initial.buffer l.buffer l.n
