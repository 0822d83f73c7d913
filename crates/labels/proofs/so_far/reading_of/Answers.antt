-- `labels::so_far::reading_of` meets its contract. Assumes nothing.
use Rattle.std.proofs.Common.{rules}
use Rattle.labels.proofs.Theorems.{looked-up}
use Rattle.labels.proofs.so_far.reading_of.Goals as goal

pub returns : goal.returns
returns c = looked-up c.args.number _ (search rules)
