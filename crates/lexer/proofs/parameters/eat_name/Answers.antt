-- `lexer::parameters::eat_name` meets its contract. The loop's invariant: under a profile under which the text
-- read like a name before the loop, it does so up to here. Assumes nothing.
use native.Mathlib.Omega.{arith}
use mathlib.Core.Path.{◌∙◌, sym}
use Rattle.grammar.proofs.Seen.{over-stops}
use Rattle.lexer.proofs.EatLaws.{pair-on}
use Rattle.lexer.proofs.ParameterLaws.{name-more, name-while}
use Rattle.lexer.proofs.parameters.eat_name.Goals as goal

pub returns-then-not-sees_pair : goal.returns-then-not-sees_pair
returns-then-not-sees_pair c =
    let misses = over-stops _ _ _ _ c.eat_while-end.ensures.place in
    let no-pair = sym c.sees_pair.ensures ∙ c.if-not-sees_pair.true in
    λ π reads.
    c.eat_suffix.ensures π (record { reads = name-while (c.loop-start.invariant.1 π reads) c.eat_while-end.ensures.place; byte = misses; pair = no-pair })

pub loop-start-smaller : goal.loop-start-smaller
loop-start-smaller c =
    let on = pair-on _ _ (sym c.sees_pair.ensures ∙ c.if-not-sees_pair.false) c.eat.ensures.place c.eat-name.ensures.place in
    omega (arith, c.eat_while-end.ensures.onward)

pub loop-start-preserved : goal.loop-start-preserved
loop-start-preserved c =
    let pair = sym c.sees_pair.ensures ∙ c.if-not-sees_pair.false in
    let ordered = c.loop-start.invariant.0 in (
      omega (arith, c.eat_while-end.ensures.onward, c.eat.ensures.onward, c.eat-name.ensures.onward),
      λ π reads. name-more (name-while (c.loop-start.invariant.1 π reads) c.eat_while-end.ensures.place) pair c.eat.ensures.place c.eat-name.ensures.place,
    )
