-- `lexer::numbers::begins_exponent` meets its contract. Assumes nothing.
use mathlib.Core.Path.{◌∙◌}
use Rattle.lexer.proofs.ExponentLaws.{begins-turso}
use Rattle.lexer.proofs.numbers.begins_exponent.Goals as goal

pub returns-in-Turso : goal.returns-in-Turso
returns-in-Turso c = c.sees.ensures ∙ begins-turso c.in-Turso.is _
