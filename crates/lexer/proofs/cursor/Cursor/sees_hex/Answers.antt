-- `lexer::cursor::Cursor::sees_hex` meets its contract. Assumes nothing.
use mathlib.Core.Path.{◌∙◌, refl, sym}
use Rattle.lexer.proofs.EatLaws.{hex-no-zero, hex-then}
use Rattle.lexer.proofs.cursor.Cursor.sees_hex.Goals as goal

pub returns-then-sees : goal.returns-then-sees
returns-then-sees c = c.sees-then-sees.ensures ∙ hex-then _ _ _ (sym c.sees.ensures ∙ c.if-sees.true) c.eat.ensures.place refl

pub returns-else-sees : goal.returns-else-sees
returns-else-sees c = c.if-sees.false ∙ hex-no-zero _ (sym c.if-sees.false ∙ c.sees.ensures)
