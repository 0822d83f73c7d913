-- `lexer::digits::Tally::eat_groups` meets its contract. The loop's invariant: from this group, with what was counted before it, the run
-- answers as from the first; and no more was counted than there are bytes before it. Assumes nothing.
use Prim.Native.Nat.{◌+◌, ◌-◌, ◌≤◌}
use mathlib.Core.Path.{◌≡◌}
use lib.ListN.{drop, length}
use Rattle.lexer.specs.Eaten.{groups}
use Rattle.lexer.proofs.digits.Tally.eat_groups.Given as goal

abbrev pub invariant-loop-set : goal.invariant-loop-set
invariant-loop-set g l =
    let t = g.K.ByteSet.set l.set in
    (groups t l.initial.start.at l.initial.start.at l.initial.digits l.initial.underscores (drop l.initial.start.at l.text) ≡ groups t l.start.at l.start.at l.digits l.underscores (drop l.start.at l.text))
    × (l.digits + l.underscores ≤ l.start.at)

abbrev pub decreases-loop-set : goal.decreases-loop-set
decreases-loop-set g l = length l.text - l.start.at
