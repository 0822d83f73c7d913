-- `lexer::numbers::eat_expo` meets its contract. Assumes nothing.
use native.Mathlib.Omega.{arith}
use mathlib.Core.Path.{◌∙◌, sym}
use Rattle.lexer.proofs.CountLaws.{counted-few, counted-run, decimal-apart}
use Rattle.lexer.proofs.NumberLaws.{float-lexed, stuck-lexed}
use Rattle.lexer.proofs.ExponentLaws.{exponent-after, exponent-counted, exponent-ends, exponent-missing-lexed, exponent-stuck, exponent-up, exponent-word-lexed, sign-up}
use Rattle.lexer.proofs.numbers.eat_expo.Goals as goal

pub refused-requires : goal.refused-requires
refused-requires c = sign-up c.requires.exponent c.eat.ensures.place c.eat_if-first.ensures.place

pub returns-then-not-begins_exponent : goal.returns-then-not-begins_exponent
returns-then-not-begins_exponent c =
    let none = sym c.begins_exponent.ensures ∙ c.if-not-begins_exponent.true in
    exponent-missing-lexed c.requires.exponent c.eat.ensures.place c.eat_if-first.ensures.place none _ c.refused.ensures

pub eat_while_number_digit-requires : goal.eat_while_number_digit-requires
eat_while_number_digit-requires c =
    counted-few decimal-apart (exponent-counted c.requires.exponent c.eat.ensures.place c.eat_if-first.ensures.place c.requires.counted)

pub refused-requires-in-Err : goal.refused-requires-in-Err
refused-requires-in-Err c =
    let begun = sym c.begins_exponent.ensures ∙ c.if-not-begins_exponent.false in
    let stuck = exponent-stuck c.requires.exponent c.eat.ensures.place c.eat_if-first.ensures.place begun _ _ c.in-Err.ensures in
    omega (arith, stuck.inside, stuck.last)

pub returns-in-Err : goal.returns-in-Err
returns-in-Err c =
    let begun = sym c.begins_exponent.ensures ∙ c.if-not-begins_exponent.false in
    stuck-lexed _ c.refused-in-Err.ensures (exponent-stuck c.requires.exponent c.eat.ensures.place c.eat_if-first.ensures.place begun _ _ c.in-Err.ensures)

pub refused-requires-then-sees : goal.refused-requires-then-sees
refused-requires-then-sees c =
    let begun = sym c.begins_exponent.ensures ∙ c.if-not-begins_exponent.false in
    let after = exponent-after c.requires.exponent c.eat.ensures.place c.eat_if-first.ensures.place begun _ _ c.in-Ok.ensures in
    omega (arith, after.up, c.eat.ensures.onward, c.eat_if-first.ensures.onward)

pub returns-then-sees : goal.returns-then-sees
returns-then-sees c =
    let begun = sym c.begins_exponent.ensures ∙ c.if-not-begins_exponent.false in
    let after = exponent-after c.requires.exponent c.eat.ensures.place c.eat_if-first.ensures.place begun _ _ c.in-Ok.ensures in
    let seen = sym c.sees.ensures ∙ c.if-sees.true in
    exponent-word-lexed c.requires.exponent c.eat.ensures.place c.eat_if-first.ensures.place after seen _ c.refused-then-sees.ensures

pub number-requires : goal.number-requires
number-requires c =
    let begun = sym c.begins_exponent.ensures ∙ c.if-not-begins_exponent.false in
    (exponent-after c.requires.exponent c.eat.ensures.place c.eat_if-first.ensures.place begun _ _ c.in-Ok.ensures).reads.ordered

pub returns : goal.returns
returns c =
    let begun = sym c.begins_exponent.ensures ∙ c.if-not-begins_exponent.false in
    let after = exponent-after c.requires.exponent c.eat.ensures.place c.eat_if-first.ensures.place begun _ _ c.in-Ok.ensures in
    let first = exponent-counted c.requires.exponent c.eat.ensures.place c.eat_if-first.ensures.place c.requires.counted in
    let up = exponent-up c.requires.exponent c.eat.ensures.place c.eat_if-first.ensures.place in
    let counted = counted-run decimal-apart _ _ _ _ _ up first c.in-Ok.ensures in
    float-lexed _ (exponent-ends after (sym c.sees.ensures ∙ c.if-sees.false)) counted c.number.ensures
