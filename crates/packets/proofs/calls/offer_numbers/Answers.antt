-- `packets::calls::offer_numbers` meets its contract. Assumes nothing.
use Prim.Native.Nat.{◌≤◌}
use native.Mathlib.Omega.{arith}
use lib.ListN.{length}
use Rattle.stream.specs.Calls.{most}
use Rattle.stream.proofs.HeldLaws.{offered-within}
use Rattle.packets.proofs.calls.offer_numbers.Goals as goal

pub tell-requires : goal.tell-requires
tell-requires c =
    let row = c.args.row.now in
    let long : length row ≤ most = omega arith in
    let (e, counted) = c.in-Some.ensures in
    offered-within _ row _ _ most long counted _ c.offer.ensures
