-- `keywords::table::start_of` meets its contract: antt finds the list of the code's table. Assumes nothing.
use mathlib.Core.Path.{◌∙◌}
use Rattle.keywords.proofs.PlaceLaws.{starts-are}
use Rattle.keywords.proofs.table.start_of.Goals as goal

pub returns : goal.returns
returns c = c.from.ensures ∙ starts-are c.args.x c.requires
