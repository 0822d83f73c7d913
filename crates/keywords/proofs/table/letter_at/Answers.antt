-- `keywords::table::letter_at` meets its contract: antt finds the list of the code's table. Assumes nothing.
use Rattle.keywords.proofs.PlaceLaws.{letters-are}
use Rattle.keywords.proofs.table.letter_at.Goals as goal

pub returns : goal.returns
returns c = letters-are c.args.p
