-- `strings::writing::write_string` meets its contract: it is `write_quoted`'s. Assumes nothing.
use Rattle.strings.specs.Calls.{WritesString}
use Rattle.strings.proofs.writing.write_string.Goals as goal

pub returns : goal.returns
unfolding WritesString
returns c = c.write_quoted.ensures
