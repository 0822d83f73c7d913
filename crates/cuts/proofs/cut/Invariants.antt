-- `cuts::cut` meets its contract. The loop's invariant: none of the tokens up to here ends the statement. Assumes nothing.
use Prim.Native.Nat.{◌-◌}
use lib.ListN.{length}
use Rattle.grammar.specs.Longest.{source}
use Rattle.cuts.proofs.CutLaws.{Uncut}
use Rattle.cuts.proofs.cut.Given as goal

abbrev pub invariant-loop-kind : goal.invariant-loop-kind
invariant-loop-kind l = Uncut (source l.profile l.text) l.cursor.at l.at.at l.any l.seen

abbrev pub decreases-loop-kind : goal.decreases-loop-kind
decreases-loop-kind l = length l.text - l.at.at
