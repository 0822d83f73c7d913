-- `lexer::numbers::eat_decimal` meets its contract. Assumes nothing.
use native.Mathlib.Omega.{arith}
use mathlib.Core.Path.{◌∙◌, sym}
use Rattle.lexer.proofs.CountLaws.{counted-run, decimal-apart, decimal-digits}
use Rattle.lexer.proofs.NumberLaws.{integer-lexed, stuck-lexed}
use Rattle.lexer.proofs.IntegerLaws.{decimal-after, decimal-stuck, integer-dot, integer-e, integer-ends, integer-word-lexed}
use Rattle.lexer.proofs.numbers.eat_decimal.Goals as goal

pub refused-requires : goal.refused-requires
refused-requires c =
    let pre = c.requires in
    let stuck = decimal-stuck pre _ _ c.in-Err.ensures in
    omega (arith, stuck.inside, stuck.last)

pub returns-in-Err : goal.returns-in-Err
returns-in-Err c = stuck-lexed _ c.refused.ensures (decimal-stuck c.requires _ _ c.in-Err.ensures)

pub eat_dot_after_digits-requires : goal.eat_dot_after_digits-requires
eat_dot_after_digits-requires c = record {
  dot = integer-dot (decimal-after c.requires _ _ c.in-Ok.ensures) (sym c.sees.ensures ∙ c.if-sees.true);
  counted = counted-run decimal-apart _ _ _ _ _ c.requires.reads.ordered c.requires.counted c.in-Ok.ensures;
}

pub eat_expo-requires : goal.eat_expo-requires
eat_expo-requires c = record {
  exponent = integer-e (decimal-after c.requires _ _ c.in-Ok.ensures) (sym c.sees-2.ensures ∙ c.if-sees-2.true);
  counted = counted-run decimal-apart _ _ _ _ _ c.requires.reads.ordered c.requires.counted c.in-Ok.ensures;
}

pub refused-requires-then-sees-3 : goal.refused-requires-then-sees-3
refused-requires-then-sees-3 c = (decimal-after c.requires _ _ c.in-Ok.ensures).reads.ordered

pub returns-then-sees-3 : goal.returns-then-sees-3
returns-then-sees-3 c =
    let after = decimal-after c.requires _ _ c.in-Ok.ensures in
    let no-dot = sym c.sees.ensures ∙ c.if-sees.false in
    integer-word-lexed after no-dot (sym c.sees-2.ensures ∙ c.if-sees-2.false) (sym c.sees-3.ensures ∙ c.if-sees-3.true) _ c.refused-then-sees-3.ensures

pub number-requires : goal.number-requires
number-requires c = (decimal-after c.requires _ _ c.in-Ok.ensures).reads.ordered

pub returns : goal.returns
returns c =
    let after = decimal-after c.requires _ _ c.in-Ok.ensures in
    let counted = counted-run decimal-apart _ _ _ _ _ c.requires.reads.ordered c.requires.counted c.in-Ok.ensures in
    let no-dot = sym c.sees.ensures ∙ c.if-sees.false in
    let ends = integer-ends after no-dot (sym c.sees-2.ensures ∙ c.if-sees-2.false) (sym c.sees-3.ensures ∙ c.if-sees-3.false) in
    integer-lexed _ ends (decimal-digits after.only counted) counted.underscores c.number.ensures
