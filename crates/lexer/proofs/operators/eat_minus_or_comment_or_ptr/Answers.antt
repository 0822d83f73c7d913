-- `lexer::operators::eat_minus_or_comment_or_ptr` meets its contract. Assumes nothing.
use mathlib.Core.Path.{◌∙◌, refl, sym}
use Rattle.grammar.specs.Classes.{operators}
use Rattle.grammar.proofs.Seen.{misses-none, misses-or}
use Rattle.grammar.proofs.Reading.{spelled-first, spelled-more}
use Rattle.lexer.proofs.OperatorLaws.{follow, is_operator, line-lexed, one-lexed, operator-lexed}
use Rattle.lexer.proofs.operators.eat_minus_or_comment_or_ptr.Goals as goal

pub returns-then-sees : goal.returns-then-sees
returns-then-sees c =
    let one = spelled-first 45 _ _ c.requires c.eat-minus.ensures.place in
    let two = spelled-more one 45 (sym c.sees.ensures ∙ c.if-sees.true) c.eat.ensures.place in
    line-lexed two c.eat_while.ensures.place c.eat-then-sees.ensures.place _ c.token.ensures

pub returns-then-sees-3 : goal.returns-then-sees-3
unfolding follow is_operator operators
returns-then-sees-3 c =
    let one = spelled-first 45 _ _ c.requires c.eat-minus.ensures.place in
    let two = spelled-more one 62 (sym c.sees-2.ensures ∙ c.if-sees-2.true) c.eat-ptr.ensures.place in
    let three = spelled-more two 62 (sym c.sees-then-sees-2.ensures ∙ c.if-sees-3.true) c.eat-then-sees-3.ensures.place in
    operator-lexed three refl refl (misses-none _) _ c.token-then-sees-3.ensures

pub returns-then-sees-2 : goal.returns-then-sees-2
unfolding follow is_operator operators
returns-then-sees-2 c =
    let one = spelled-first 45 _ _ c.requires c.eat-minus.ensures.place in
    let two = spelled-more one 62 (sym c.sees-2.ensures ∙ c.if-sees-2.true) c.eat-ptr.ensures.place in
    operator-lexed two refl refl (sym c.sees-then-sees-2.ensures ∙ c.if-sees-3.false) _ c.token-then-sees-2.ensures

pub returns : goal.returns
unfolding follow is_operator operators
returns c =
    let missed = misses-or _ _ _ (sym c.sees.ensures ∙ c.if-sees.false) (sym c.sees-2.ensures ∙ c.if-sees-2.false) in
    one-lexed 45 _ _ c.requires c.eat-minus.ensures.place refl refl missed _ c.token-2.ensures
