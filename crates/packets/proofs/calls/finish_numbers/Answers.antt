-- `packets::calls::finish_numbers` meets its contract. Assumes nothing.
use Prim.Native.Nat.{◌≤◌}
use native.Mathlib.Omega.{arith}
use lib.ListN.{length}
use Rattle.stream.specs.Calls.{most}
use Rattle.stream.proofs.HeldLaws.{finished-within}
use Rattle.packets.proofs.calls.finish_numbers.Goals as goal

pub tell-requires : goal.tell-requires
tell-requires c =
    let row = c.args.row.now in
    let long : length row ≤ most = omega arith in
    let (e, counted) = c.in-Some.ensures in
    finished-within _ row _ _ most long counted c.finish.ensures
