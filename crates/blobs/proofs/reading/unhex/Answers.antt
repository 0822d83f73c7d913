-- `blobs::reading::unhex` meets its contract: the bytes are half as many as the digits. Assumes nothing.
use native.Mathlib.Omega.{arith}
use mathlib.Core.Path.{sym}
use Rattle.buffers.proofs.FillLaws.{fills, no_room}
use Rattle.blobs.proofs.BlobLaws.{pairs-long}
use Rattle.blobs.proofs.reading.unhex.Goals as goal

pub returns-then-buffer-n : goal.returns-then-buffer-n
returns-then-buffer-n c = no_room (omega (arith, pairs-long c.args.digits.now))

pub put_pairs-requires : goal.put_pairs-requires
put_pairs-requires c = omega (arith, pairs-long c.args.digits.now)

pub returns : goal.returns
returns c =
    let l = pairs-long c.args.digits.now in
    fills (omega (arith, c.if-buffer-n.false)) (sym l) c.put_pairs.ensures
