-- `blobs::writing::put_blob` meets its contract: what is put and what is left make the whole. Assumes nothing.
use Rattle.blobs.proofs.LoopLaws.{Hexing}
use Rattle.blobs.proofs.writing.put_blob.Given as goal

abbrev pub invariant-loop-b : goal.invariant-loop-b
invariant-loop-b l = Hexing l.bytes l.initial.buffer l.buffer l.n l.b-index
