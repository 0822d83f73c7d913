-- `lexer::numbers::eat_dot_after_digits` meets its contract. Assumes nothing.
use mathlib.Core.Path.{◌∙◌, sym}
use Rattle.lexer.proofs.NumberLaws.{float-lexed}
use Rattle.lexer.proofs.FractionLaws.{dot-counted, dot-e, dot-ends, dot-fraction}
use Rattle.lexer.proofs.numbers.eat_dot_after_digits.Goals as goal

pub eat_frac-requires : goal.eat_frac-requires
eat_frac-requires c = record {
  fraction = dot-fraction c.requires.dot c.eat-rest.ensures.place (sym c.sees.ensures ∙ c.if-sees.true);
  counted = dot-counted c.requires.dot c.eat-rest.ensures.place c.requires.counted;
}

pub eat_expo-requires : goal.eat_expo-requires
eat_expo-requires c = record {
  exponent = dot-e c.requires.dot c.eat-rest.ensures.place (sym c.sees-2.ensures ∙ c.if-sees-2.true);
  counted = dot-counted c.requires.dot c.eat-rest.ensures.place c.requires.counted;
}

pub number-requires : goal.number-requires
number-requires c =
    (dot-ends c.requires.dot c.eat-rest.ensures.place (sym c.sees.ensures ∙ c.if-sees.false) (sym c.sees-2.ensures ∙ c.if-sees-2.false)).ordered

pub returns : goal.returns
returns c =
    let ends = dot-ends c.requires.dot c.eat-rest.ensures.place (sym c.sees.ensures ∙ c.if-sees.false) (sym c.sees-2.ensures ∙ c.if-sees-2.false) in
    float-lexed _ ends (dot-counted c.requires.dot c.eat-rest.ensures.place c.requires.counted) c.number.ensures
