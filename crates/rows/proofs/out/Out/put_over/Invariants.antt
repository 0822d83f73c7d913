-- What is still to be put gives the same row.
use Rattle.std.proofs.Common.{drop, ◌≡◌}
use Rattle.rows.specs.Out.{more}
use Rattle.rows.proofs.out.Out.put_over.Given as goal

abbrev pub invariant-loop-b : goal.invariant-loop-b
invariant-loop-b g l =
    (more l.self.row.now l.self.filled (drop l.b-index l.text) ≡ more l.initial.self.row.now l.initial.self.filled l.text)
    × (l.self.row.ghost_name ≡ l.initial.self.row.ghost_name)
