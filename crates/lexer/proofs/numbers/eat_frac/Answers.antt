-- `lexer::numbers::eat_frac` meets its contract. Assumes nothing.
use native.Mathlib.Omega.{arith}
use mathlib.Core.Path.{◌∙◌, sym}
use Rattle.lexer.proofs.CountLaws.{counted-few, counted-run, decimal-apart}
use Rattle.lexer.proofs.NumberLaws.{float-lexed, stuck-lexed}
use Rattle.lexer.proofs.FractionLaws.{fraction-after, fraction-e, fraction-ends, fraction-stuck, fraction-word-lexed}
use Rattle.lexer.proofs.numbers.eat_frac.Goals as goal

pub eat_while_number_digit-requires : goal.eat_while_number_digit-requires
eat_while_number_digit-requires c = counted-few decimal-apart c.requires.counted

pub refused-requires : goal.refused-requires
refused-requires c =
    let pre = c.requires.fraction in
    let stuck = fraction-stuck pre _ _ c.in-Err.ensures in
    omega (arith, stuck.inside, stuck.last)

pub returns-in-Err : goal.returns-in-Err
returns-in-Err c = stuck-lexed _ c.refused.ensures (fraction-stuck c.requires.fraction _ _ c.in-Err.ensures)

pub eat_expo-requires : goal.eat_expo-requires
eat_expo-requires c = record {
  exponent = fraction-e (fraction-after c.requires.fraction _ _ c.in-Ok.ensures) (sym c.sees.ensures ∙ c.if-sees.true);
  counted = counted-run decimal-apart _ _ _ _ _ c.requires.fraction.reads.ordered c.requires.counted c.in-Ok.ensures;
}

pub refused-requires-then-sees-2 : goal.refused-requires-then-sees-2
refused-requires-then-sees-2 c =
    omega (arith, (fraction-after c.requires.fraction _ _ c.in-Ok.ensures).up, c.requires.fraction.next)

pub returns-then-sees-2 : goal.returns-then-sees-2
returns-then-sees-2 c =
    let after = fraction-after c.requires.fraction _ _ c.in-Ok.ensures in
    fraction-word-lexed c.requires.fraction after (sym c.sees.ensures ∙ c.if-sees.false) (sym c.sees-2.ensures ∙ c.if-sees-2.true) _ c.refused-then-sees-2.ensures

pub number-requires : goal.number-requires
number-requires c = (fraction-after c.requires.fraction _ _ c.in-Ok.ensures).reads.ordered

pub returns : goal.returns
returns c =
    let after = fraction-after c.requires.fraction _ _ c.in-Ok.ensures in
    let counted = counted-run decimal-apart _ _ _ _ _ c.requires.fraction.reads.ordered c.requires.counted c.in-Ok.ensures in
    float-lexed _ (fraction-ends after (sym c.sees-2.ensures ∙ c.if-sees-2.false)) counted c.number.ensures
