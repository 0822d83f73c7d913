-- `blobs::reading::read_blob` meets its contract: the span is a blob, and its bytes fill the buffer. Assumes nothing.
use Prim.Native.Nat.{◌+◌, ◌≤◌}
use native.Mathlib.Omega.{arith}
use mathlib.Core.Logic.{inr}
use lib.ListN.{length}
use Rattle.keywords.specs.Kinds.{kind}
use Rattle.spans.specs.Spans.{IsToken}
use Rattle.spans.proofs.TokenLaws.{inside, some-digits}
use Rattle.spans.proofs.ReadingLaws.{no_bytes, goes-on, no-such, handed-out}
use Rattle.blobs.specs.Calls.{ReadsBlob}
use Rattle.blobs.proofs.LexemeLaws.{blob-three, blob-part}
use Rattle.blobs.proofs.reading.read_blob.Goals as goal
use Rattle.blobs.proofs.reading.read_blob.Goals.{In_ok-ok_or}

pub returns-in_err-ok_or : goal.returns-in_err-ok_or
unfolding ReadsBlob
returns-in_err-ok_or c =
    rw (handed-out _ c.ok_or.ensures.value c.in_err-ok_or.was c.from_residual.ensures.1)
    (no_bytes (no-such c.ok_or.ensures.ok_part _ _ _ _ _ c.find.ensures c.in_err-ok_or.was))

-- it is a blob
there : (c : In_ok-ok_or) → IsToken c.args.profile c.args.text.now c.args.start c.args.length (kind "TK_BLOB")
there c = some-digits _ _ _ _ _ _ (goes-on c.ok_or.ensures.ok_part _ _ _ _ _ c.find.ensures c.in_ok-ok_or.was)

-- that lies in the text, and has three bytes
lies : (c : In_ok-ok_or) → (c.args.start + c.args.length ≤ length c.args.text.now) × (3 ≤ c.args.length)
lies c = ((inside _ _ _ _ _ (there c)).0, blob-three _ _ _ _ (there c))

pub overflow_add-from : goal.overflow_add-from
overflow_add-from c = omega (arith, lies (goal.at.overflow_add-from c).In_ok-ok_or)

pub overflow_add-to : goal.overflow_add-to
overflow_add-to c = omega (arith, lies (goal.at.overflow_add-to c).In_ok-ok_or)

pub overflow_sub-to : goal.overflow_sub-to
overflow_sub-to c = omega (arith, lies (goal.at.overflow_sub-to c).In_ok-ok_or)

pub slice_bounds-unhex-count : goal.slice_bounds-unhex-count
slice_bounds-unhex-count c = omega (arith, lies (goal.at.slice_bounds-unhex-count c).In_ok-ok_or)

pub slice_bounds-unhex-start : goal.slice_bounds-unhex-start
slice_bounds-unhex-start c = omega (arith, lies (goal.at.slice_bounds-unhex-start c).In_ok-ok_or)

pub slice_bounds-unhex-end : goal.slice_bounds-unhex-end
slice_bounds-unhex-end c = omega (arith, lies (goal.at.slice_bounds-unhex-end c).In_ok-ok_or)

pub returns : goal.returns
unfolding ReadsBlob
returns c =
    let it = there (goal.at.returns c).In_ok-ok_or in
    inr (it, rw (← blob-part _ _ _ _ it) c.unhex.ensures)
