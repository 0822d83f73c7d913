-- `records::put` meets its contract. Assumes nothing.
use native.Mathlib.Omega.{arith}
use Rattle.records.proofs.RecordLaws.{set-numbers, set-none}
use Rattle.records.proofs.put.Goals as goal
use Rattle.records.proofs.put.Goals.{then-room-lt-WIDTH-via-then-room-lt-WIDTH, then-room-lt-WIDTH-via-else-room-lt-WIDTH+then-room-at}

pub returns-then-room-lt-WIDTH : goal.returns-then-room-lt-WIDTH
returns-then-room-lt-WIDTH c =
    set-none _ _ _
    (elim c.then-room-lt-WIDTH.branch [
      | then-room-lt-WIDTH-via-then-room-lt-WIDTH w ↦ omega (arith, w.if-room-lt-WIDTH.true)
      | then-room-lt-WIDTH-via-else-room-lt-WIDTH+then-room-at w ↦ omega (arith, w.if-room-at.true)
    ])

pub returns : goal.returns
returns c = set-numbers _ _ _ (omega (arith, c.if-room-at.false))
