-- `lexer::digits::Tally::eat_while_number_hexdigit` meets its contract. Assumes nothing.
use mathlib.Core.Path.{◌∙◌, sym}
use Rattle.lexer.proofs.GroupLaws.{hex-empty, hex-groups}
use Rattle.lexer.proofs.digits.Tally.eat_while_number_hexdigit.Goals as goal

pub returns-then-sees : goal.returns-then-sees
returns-then-sees c = sym (hex-empty _ _ _ _ (sym c.sees.ensures ∙ c.if-sees.true))

pub returns : goal.returns
returns c = c.eat_groups.ensures ∙ sym (hex-groups _ _ _ _ (sym c.sees.ensures ∙ c.if-sees.false))
