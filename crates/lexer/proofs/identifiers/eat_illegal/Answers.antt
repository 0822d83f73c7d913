-- `lexer::identifiers::eat_illegal` meets its contract. Assumes nothing.
use Rattle.grammar.proofs.Reading.{spelled-first}
use Rattle.lexer.proofs.IdentifierLaws.{illegal-lexed}
use Rattle.lexer.proofs.identifiers.eat_illegal.Goals as goal

pub returns : goal.returns
returns c =
    illegal-lexed (spelled-first 35 _ _ c.requires c.eat.ensures.place) c.eat_while.ensures.place _ c.token.ensures
