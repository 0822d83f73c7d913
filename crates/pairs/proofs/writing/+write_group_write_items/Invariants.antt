-- The measure goes by the depth, as that of the first pass: no more than 17 calls of each are ever open. Assumes nothing.
use Prim.Native.Nat.{◌+◌, ◌-◌, ◌*◌, ◌≤◌}
use lib.ListN.{length}
use Rattle.brackets.specs.Numbers.{kinds_of}
use Rattle.pairs.specs.Parts.{Sound, Writes}
use Rattle.pairs.proofs.writing.+write_group_write_items.Given as goal

abbrev pub decreases-write_group : goal.decreases-write_group
decreases-write_group l = 2 * (17 - l.depth)

abbrev pub decreases-write_items : goal.decreases-write_items
decreases-write_items l = 2 * (17 - l.depth) + 1

abbrev pub invariant-write_items-loop-at : goal.invariant-write_items-loop-at
invariant-write_items-loop-at l =
    (l.from ≤ l.at) × (l.at ≤ length (kinds_of l.numbers)) × Sound (kinds_of l.numbers) l.at l.depth
    × Writes (kinds_of l.numbers) l.from l.depth l.initial.partners l.at l.partners

abbrev pub decreases-write_items-loop-at : goal.decreases-write_items-loop-at
decreases-write_items-loop-at l = length (kinds_of l.numbers) - l.at
