-- `blobs::writing::write_blob` meets its contract: the blob has twice as many bytes, and three. Assumes nothing.
use native.Mathlib.Omega.{arith}
use mathlib.Core.Path.{sym}
use Rattle.buffers.proofs.FillLaws.{fills, no_room}
use Rattle.blobs.specs.Calls.{WritesBlob}
use Rattle.blobs.proofs.BlobLaws.{blob-long}
use Rattle.blobs.proofs.writing.write_blob.Goals as goal
use Rattle.blobs.proofs.writing.write_blob.Goals.{then-room-lt3-via-then-room-lt3, then-room-lt3-via-else-room-lt3+then-room-n}

pub returns-then-room-lt3 : goal.returns-then-room-lt3
unfolding WritesBlob
returns-then-room-lt3 c =
    elim c.then-room-lt3.branch [
      | then-room-lt3-via-then-room-lt3 w ↦ no_room (omega (arith, w.if-room-lt3.true, blob-long c.args.bytes.now))
      | then-room-lt3-via-else-room-lt3+then-room-n w ↦ no_room (omega (arith, w.if-room-lt3.false, w.if-room-n.true, blob-long c.args.bytes.now))
    ]

pub put_blob-requires : goal.put_blob-requires
put_blob-requires c = omega (arith, c.if-room-lt3.false, c.if-room-n.false, blob-long c.args.bytes.now)

pub returns : goal.returns
unfolding WritesBlob
returns c =
    let l = blob-long c.args.bytes.now in
    fills (omega (arith, c.if-room-lt3.false, c.if-room-n.false)) (sym l) c.put_blob.ensures
