-- `lexer::cursor::Cursor::sees_pair` meets its contract. Assumes nothing.
use mathlib.Core.Path.{◌∙◌, sym}
use Rattle.lexer.proofs.EatLaws.{pair-first, pair-second}
use Rattle.lexer.proofs.cursor.Cursor.sees_pair.Goals as goal

pub returns-then-sees : goal.returns-then-sees
returns-then-sees c = pair-second _ _ _ _ (sym c.if-sees.true ∙ c.sees.ensures) c.eat.ensures.place c.sees-then-sees.ensures

pub returns-else-sees : goal.returns-else-sees
returns-else-sees c = c.if-sees.false ∙ pair-first _ (sym c.if-sees.false ∙ c.sees.ensures)
