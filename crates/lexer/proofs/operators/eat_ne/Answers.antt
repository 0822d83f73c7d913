-- `lexer::operators::eat_ne` meets its contract. Assumes nothing.
use mathlib.Core.Path.{◌∙◌, refl, sym}
use Rattle.grammar.specs.Classes.{operators}
use Rattle.grammar.proofs.Reading.{spelled-first}
use Rattle.lexer.proofs.OperatorLaws.{bang-lexed, follow, is_operator, two-lexed}
use Rattle.lexer.proofs.operators.eat_ne.Goals as goal

pub returns-then-sees : goal.returns-then-sees
unfolding follow is_operator operators
returns-then-sees c =
    two-lexed 33 _ _ c.requires c.eat-bang.ensures.place 61 (sym c.sees.ensures ∙ c.if-sees.true) c.eat.ensures.place refl refl refl _ c.token.ensures

pub returns : goal.returns
returns c =
    let one = spelled-first 33 _ _ c.requires c.eat-bang.ensures.place in
    bang-lexed one (sym c.sees.ensures ∙ c.if-sees.false) _ c.refused.ensures
