-- `keywords::table::kind_at` meets its contract: antt finds the list of the code's table. Assumes nothing.
use mathlib.Core.Path.{◌∙◌}
use Rattle.keywords.proofs.PlaceLaws.{kinds-are}
use Rattle.keywords.proofs.table.kind_at.Goals as goal

pub returns : goal.returns
returns c = c.from.ensures ∙ kinds-are c.args.k
