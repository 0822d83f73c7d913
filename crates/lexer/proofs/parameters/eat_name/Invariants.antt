-- `lexer::parameters::eat_name` meets its contract. The loop's invariant: under a profile under which the text
-- read like a name before the loop, it does so up to here. Assumes nothing.
use Prim.Native.Nat.{◌-◌, ◌≤◌}
use lib.ListN.{length}
use Rattle.grammar.specs.declared.profile.Profile.{Profile}
use Rattle.grammar.proofs.Reading.{ReadsUnder, behind}
use Rattle.lexer.proofs.parameters.eat_name.Given as goal

abbrev pub invariant-loop-start : goal.invariant-loop-start
invariant-loop-start l =
    (l.start.at ≤ l.name.at) × ((π : Profile) → ReadsUnder π l.text l.start.at l.initial.name.at (behind "$a") → ReadsUnder π l.text l.start.at l.name.at (behind "$a"))

abbrev pub decreases-loop-start : goal.decreases-loop-start
decreases-loop-start l = length l.text - l.name.at
