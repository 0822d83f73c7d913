-- `lexer::parameters::eat_named_var` meets its contract. The loop's invariant: under a profile under which the
-- text read like `$` before the loop, it does so up to here. Assumes nothing.
use native.Mathlib.Omega.{arith}
use mathlib.Core.Path.{◌∙◌, sym}
use Rattle.lexer.proofs.EatLaws.{pair-on}
use Rattle.lexer.proofs.ParameterLaws.{name-reads, nameless-ends, nameless-lexed, nameless-more}
use Rattle.lexer.proofs.parameters.eat_named_var.Goals as goal

pub returns-then-sees : goal.returns-then-sees
returns-then-sees c =
    λ π reads. c.eat_name.ensures π (name-reads (c.loop-start.invariant.1 π reads) (sym c.sees.ensures ∙ c.if-sees.true))

pub returns-then-not-sees_pair : goal.returns-then-not-sees_pair
returns-then-not-sees_pair c =
    let no_name = sym c.sees.ensures ∙ c.if-sees.false in
    let no-pair = sym c.sees_pair.ensures ∙ c.if-not-sees_pair.true in
    λ π reads. nameless-lexed _ (nameless-ends (c.loop-start.invariant.1 π reads) no_name no-pair) c.refused.ensures

pub loop-start-smaller : goal.loop-start-smaller
loop-start-smaller c =
    let on = pair-on _ _ (sym c.sees_pair.ensures ∙ c.if-not-sees_pair.false) c.eat.ensures.place c.eat-name.ensures.place in
    omega arith

pub loop-start-preserved : goal.loop-start-preserved
loop-start-preserved c =
    let pair = sym c.sees_pair.ensures ∙ c.if-not-sees_pair.false in
    let ordered = c.loop-start.invariant.0 in (
      omega (arith, c.eat.ensures.onward, c.eat-name.ensures.onward),
      λ π reads. nameless-more (c.loop-start.invariant.1 π reads) pair c.eat.ensures.place c.eat-name.ensures.place,
    )
