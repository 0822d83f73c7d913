-- The measure goes by the depth: a group reads its items one level deeper, and items read groups at their own level. It begins at 35 and is
-- never below 2, so that no more than 17 calls of each are ever open; within `items` the records that remain fall from turn to turn. Assumes
-- nothing.
use Prim.Native.Nat.{◌+◌, ◌-◌, ◌*◌, ◌≤◌}
use lib.ListN.{length}
use Rattle.brackets.specs.Numbers.{kinds_of}
use Rattle.std.specs.Prelude.{Ok}
use Rattle.pairs.specs.Parts.{Reads}
use Rattle.pairs.proofs.reading.+group_items.Given as goal

abbrev pub decreases-group : goal.decreases-group
decreases-group l = 2 * (17 - l.depth)

abbrev pub decreases-items : goal.decreases-items
decreases-items l = 2 * (17 - l.depth) + 1

abbrev pub invariant-items-loop-read : goal.invariant-items-loop-read
invariant-items-loop-read l =
    (l.from ≤ l.read.at) × (l.read.at ≤ length (kinds_of l.numbers)) × Reads (kinds_of l.numbers) l.from l.depth l.deepest (Ok l.read)

abbrev pub decreases-items-loop-read : goal.decreases-items-loop-read
decreases-items-loop-read l = length (kinds_of l.numbers) - l.read.at
