-- `lexer::operators::eat_one_token` meets its contract. Assumes nothing.
use mathlib.Core.Path.{◌∙◌, sym}
use Rattle.lexer.proofs.AnswerLaws.{one_token}
use Rattle.lexer.proofs.EatLaws.{moved_on}
use Rattle.lexer.proofs.operators.eat_one_token.Goals as goal

pub returns : goal.returns
returns c =
    let next = c.eat.ensures.place ∙ sym (moved_on _ _ c.requires) in
    c.token.ensures ∙ one_token _ _ _ next
