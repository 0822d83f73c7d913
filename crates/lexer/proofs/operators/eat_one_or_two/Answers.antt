-- `lexer::operators::eat_one_or_two` meets its contract. Assumes nothing.
use mathlib.Core.Path.{◌∙◌, sym}
use Rattle.lexer.proofs.AnswerLaws.{first_token, two_token}
use Rattle.lexer.proofs.EatLaws.{moved_on}
use Rattle.lexer.proofs.operators.eat_one_or_two.Goals as goal

pub returns-then-sees : goal.returns-then-sees
returns-then-sees c =
    let behind = c.eat-sign.ensures.place ∙ sym (moved_on _ _ c.requires) in
    c.token.ensures ∙ two_token _ _ _ _ _ behind (sym c.sees.ensures ∙ c.if-sees.true) c.eat.ensures.place

pub returns-else-sees : goal.returns-else-sees
returns-else-sees c =
    let behind = c.eat-sign.ensures.place ∙ sym (moved_on _ _ c.requires) in
    c.token-else-sees.ensures ∙ first_token _ _ _ _ _ behind (sym c.sees.ensures ∙ c.if-sees.false)
