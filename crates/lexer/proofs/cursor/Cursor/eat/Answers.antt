-- `lexer::cursor::Cursor::eat` meets its contract. Assumes nothing.
use Rattle.lexer.proofs.EatLaws.{moved-not, moved_on}
use Rattle.lexer.proofs.cursor.Cursor.eat.Goals as goal

pub returns-then-at-text-clause-place : goal.returns-then-at-text-clause-place
returns-then-at-text-clause-place c = moved_on _ _ c.if-at-text.true

pub returns-else-at-text-clause-place : goal.returns-else-at-text-clause-place
returns-else-at-text-clause-place c = moved-not _ _ c.if-at-text.false
