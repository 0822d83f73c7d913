-- `lexer::operators::eat_white_space` meets its contract. Assumes nothing.
use Rattle.lexer.proofs.OperatorLaws.{blanks-lexed}
use Rattle.lexer.proofs.operators.eat_white_space.Goals as goal

pub returns : goal.returns
returns c =
    blanks-lexed _ _ _ _ c.requires c.eat.ensures.place c.eat_while.ensures.place _ c.token.ensures
