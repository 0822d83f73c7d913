-- `lexer::cursor::Cursor::eat_if` meets its contract. Assumes nothing.
use mathlib.Core.Path.{◌∙◌, sym}
use Rattle.grammar.proofs.Seen.{optional-none}
use Rattle.lexer.proofs.EatLaws.{optional-taken}
use Rattle.lexer.proofs.cursor.Cursor.eat_if.Goals as goal

pub returns-then-sees-clause-place : goal.returns-then-sees-clause-place
returns-then-sees-clause-place g c = optional-taken _ _ _ _ (sym c.sees.ensures ∙ c.if-sees.true) c.eat.ensures.place

pub returns-else-sees-clause-place : goal.returns-else-sees-clause-place
returns-else-sees-clause-place g c = sym (optional-none _ _ _ (sym c.sees.ensures ∙ c.if-sees.false))
