-- `lexer::cursor::Cursor::eat_while` meets its contract. Assumes nothing.
use native.Mathlib.Omega.{arith}
use mathlib.Core.Path.{sym, ◌∙◌}
use Rattle.lexer.proofs.EatLaws.{over-end, over-more, over-stop}
use Rattle.lexer.proofs.cursor.Cursor.eat_while.Goals as goal

pub loop-at-preserved : goal.loop-at-preserved
loop-at-preserved g c = (
  c.loop-at.invariant.0 ∙ over-more (g.K.ByteSet.set c.args.set) _ c.loop-at.at c.loop-at-test.true (sym c.has.ensures ∙ c.if-has.true),
  omega (arith, c.loop-at.invariant.1),
)

pub returns-else-has-clause-place : goal.returns-else-has-clause-place
returns-else-has-clause-place g c =
    sym (c.loop-at.invariant.0 ∙ over-stop (g.K.ByteSet.set c.args.set) _ c.loop-at.at c.loop-at-test.true (sym c.has.ensures ∙ c.if-has.false))

pub returns-after-loop-at-clause-place : goal.returns-after-loop-at-clause-place
returns-after-loop-at-clause-place g c = sym (c.loop-at.invariant.0 ∙ over-end _ _ c.loop-at.at c.loop-at-test.false)
