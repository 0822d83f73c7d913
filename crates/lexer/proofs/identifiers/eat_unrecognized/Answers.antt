-- `lexer::identifiers::eat_unrecognized` meets its contract. Assumes nothing.
use Rattle.lexer.proofs.IdentifierLaws.{unrecognized-lexed}
use Rattle.lexer.proofs.identifiers.eat_unrecognized.Goals as goal

pub returns : goal.returns
returns c =
    unrecognized-lexed _ _ _ c.requires c.eat_while-end.ensures.place _ c.refused.ensures
