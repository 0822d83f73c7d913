-- `lexer::cursor::Cursor::peek` meets its contract. Assumes nothing.
use Rattle.lexer.proofs.EatLaws.{head-none, head-some}
use Rattle.lexer.proofs.cursor.Cursor.peek.Goals as goal

pub returns-then-text-at : goal.returns-then-text-at
returns-then-text-at c = head-none _ _ c.if-text-at.true

pub returns : goal.returns
returns c = head-some _ _ c.if-text-at.false
