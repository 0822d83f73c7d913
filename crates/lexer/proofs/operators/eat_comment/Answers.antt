-- `lexer::operators::eat_comment` meets its contract. The loop's invariant: the text up to here reads like `/*`. Assumes nothing.
use native.Mathlib.Omega.{arith}
use mathlib.Core.Logic.{inl, inr}
use mathlib.Core.Path.{◌∙◌, sym}
use Rattle.lexer.proofs.EatLaws.{found-past, missed-past, reached-on}
use Rattle.lexer.proofs.OperatorLaws.{comment-closed, comment-ends, comment-lexed, comment-more, comment-star}
use Rattle.lexer.proofs.operators.eat_comment.Goals as goal

pub token-requires : goal.token-requires
token-requires c =
    let missed = missed-past _ _ _ _ c.in-Err.ensures in
    (comment-ends c.loop-end.invariant missed.0 missed.1).ordered

pub returns-in-Err : goal.returns-in-Err
returns-in-Err c =
    let missed = missed-past _ _ _ _ c.in-Err.ensures in
    comment-lexed (inr (comment-ends c.loop-end.invariant missed.0 missed.1)) _ c.token.ensures

pub token-requires-then-sees : goal.token-requires-then-sees
token-requires-then-sees c =
    let starred = comment-star c.loop-end.invariant (found-past _ _ _ _ c.in-Ok.ensures) in
    (comment-closed starred (sym c.sees.ensures ∙ c.if-sees.true) c.eat.ensures.place).ordered

pub returns-then-sees : goal.returns-then-sees
returns-then-sees c =
    let starred = comment-star c.loop-end.invariant (found-past _ _ _ _ c.in-Ok.ensures) in
    comment-lexed (inl (comment-closed starred (sym c.sees.ensures ∙ c.if-sees.true) c.eat.ensures.place)) _ c.token-then-sees.ensures

pub loop-end-smaller : goal.loop-end-smaller
loop-end-smaller c =
    let on = reached-on _ _ _ _ (found-past _ _ _ _ c.in-Ok.ensures) in
    omega arith

pub loop-end-preserved : goal.loop-end-preserved
loop-end-preserved c =
    comment-more (comment-star c.loop-end.invariant (found-past _ _ _ _ c.in-Ok.ensures)) (sym c.sees.ensures ∙ c.if-sees.false)
