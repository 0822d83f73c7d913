-- `strings::writing::write_name` meets its contract: it is `write_quoted`'s. Assumes nothing.
use Rattle.strings.specs.Calls.{WritesName}
use Rattle.strings.proofs.writing.write_name.Goals as goal

pub returns : goal.returns
unfolding WritesName
returns c = c.write_quoted.ensures
