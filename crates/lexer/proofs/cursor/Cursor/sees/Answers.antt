-- `lexer::cursor::Cursor::sees` meets its contract. Assumes nothing.
use Rattle.std.proofs.Common.{rules}
use Rattle.lexer.proofs.EatLaws.{head-tested}
use Rattle.lexer.proofs.cursor.Cursor.sees.Goals as goal

pub returns : goal.returns
returns g c = head-tested _ _ _ _ _ c.peek.ensures c.is_some_and.ensures (λ x p. search rules)
