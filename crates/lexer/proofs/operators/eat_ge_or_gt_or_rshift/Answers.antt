-- `lexer::operators::eat_ge_or_gt_or_rshift` meets its contract. Assumes nothing.
use mathlib.Core.Path.{◌∙◌, refl, sym}
use Rattle.grammar.specs.Classes.{operators}
use Rattle.grammar.proofs.Seen.{misses-or}
use Rattle.lexer.proofs.OperatorLaws.{follow, is_operator, one-lexed, two-lexed}
use Rattle.lexer.proofs.operators.eat_ge_or_gt_or_rshift.Goals as goal

pub returns-then-sees : goal.returns-then-sees
unfolding follow is_operator operators
returns-then-sees c =
    two-lexed 62 _ _ c.requires c.eat-gt.ensures.place 61 (sym c.sees.ensures ∙ c.if-sees.true) c.eat.ensures.place refl refl refl _ c.token.ensures

pub returns-then-sees-2 : goal.returns-then-sees-2
unfolding follow is_operator operators
returns-then-sees-2 c =
    two-lexed 62 _ _ c.requires c.eat-gt.ensures.place 62 (sym c.sees-2.ensures ∙ c.if-sees-2.true) c.eat-then-sees-2.ensures.place refl refl refl _ c.token-then-sees-2.ensures

pub returns : goal.returns
unfolding follow is_operator operators
returns c =
    let missed = misses-or _ _ _ (sym c.sees.ensures ∙ c.if-sees.false) (sym c.sees-2.ensures ∙ c.if-sees-2.false) in
    one-lexed 62 _ _ c.requires c.eat-gt.ensures.place refl refl missed _ c.token-2.ensures
