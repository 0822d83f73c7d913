-- `lexer::parameters::eat_numbered_var` meets its contract. Assumes nothing.
use Rattle.grammar.proofs.Reading.{spelled-first}
use Rattle.lexer.proofs.ParameterLaws.{numbered-ends, variable-lexed}
use Rattle.lexer.proofs.parameters.eat_numbered_var.Goals as goal

pub returns : goal.returns
returns c =
    variable-lexed _ (numbered-ends (spelled-first 63 _ _ c.requires c.eat.ensures.place) c.eat_while.ensures.place) c.token.ensures
