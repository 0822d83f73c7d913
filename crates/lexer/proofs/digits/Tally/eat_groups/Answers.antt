-- `lexer::digits::Tally::eat_groups` meets its contract. Assumes nothing.
use native.Mathlib.Omega.{arith}
use mathlib.Core.Path.{◌∙◌, sym}
use Rattle.grammar.proofs.Seen.{moved-one, seen-in}
use Rattle.lexer.proofs.GroupLaws.{group-bad, group-more, group-read}
use Rattle.lexer.proofs.digits.Tally.eat_groups.Goals as goal

pub returns-then-not-sees : goal.returns-then-not-sees
returns-then-not-sees g c =
    let unseen = sym c.sees.ensures ∙ c.if-not-sees.true in
    sym (c.loop-set.invariant.0 ∙ group-read _ _ c.loop-set.start.at _ _ _ c.eat_while-end.ensures.place unseen)

pub returns-then-not-sees-2 : goal.returns-then-not-sees-2
returns-then-not-sees-2 g c =
    let seen = sym c.sees.ensures ∙ c.if-not-sees.false in
    let one_on = c.eat-next.ensures.place ∙ moved-one _ _ _ seen in
    let missed = sym c.sees-in-loop-set.ensures ∙ c.if-not-sees-2.true in
    sym (c.loop-set.invariant.0 ∙ group-bad _ _ c.loop-set.start.at _ _ _ c.eat_while-end.ensures.place seen _ one_on missed)

pub overflow_add-underscores : goal.overflow_add-underscores
overflow_add-underscores g c =
    let end = c.eat_while-end in
    let one_on = c.eat-next.ensures.place ∙ moved-one _ _ _ (sym c.sees.ensures ∙ c.if-not-sees.false) in
    omega (arith, c.loop-set.invariant.1, end.ensures.onward, one_on, c.eat-next.type_inv)

pub loop-set-smaller : goal.loop-set-smaller
loop-set-smaller g c =
    let end = c.eat_while-end in
    let seen = sym c.sees.ensures ∙ c.if-not-sees.false in
    let one_on = c.eat-next.ensures.place ∙ moved-one _ _ _ seen in
    omega (arith, one_on, end.ensures.onward, seen-in _ c.args.text.now end.result.at seen)

pub loop-set-preserved : goal.loop-set-preserved
loop-set-preserved g c =
    let loop = c.loop-set in
    let end = c.eat_while-end in
    let seen = sym c.sees.ensures ∙ c.if-not-sees.false in
    let one_on = c.eat-next.ensures.place ∙ moved-one _ _ _ seen in
    let more = sym c.sees-in-loop-set.ensures ∙ c.if-not-sees-2.false in (
      loop.invariant.0 ∙ group-more _ _ loop.start.at _ _ _ end.ensures.place seen _ one_on more,
      omega (arith, loop.invariant.1, end.ensures.onward, one_on),
    )
