-- `lexer::cursor::Cursor::eat_past` meets its contract. Assumes nothing.
use mathlib.Core.Path.{◌∙◌, sym}
use Rattle.lexer.proofs.EatLaws.{past-found, past-missed}
use Rattle.lexer.proofs.cursor.Cursor.eat_past.Goals as goal

pub returns-then-sees : goal.returns-then-sees
returns-then-sees c = past-found _ _ _ _ c.eat_while-stop.ensures.place _ (sym c.sees.ensures ∙ c.if-sees.true) c.eat.ensures.place

pub returns-else-sees : goal.returns-else-sees
returns-else-sees c = past-missed _ _ _ _ c.eat_while-stop.ensures.place (sym c.sees.ensures ∙ c.if-sees.false)
