-- `lexer::numbers::eat_dot_or_frac` meets its contract. Assumes nothing.
use mathlib.Core.Path.{◌∙◌, sym}
use Rattle.grammar.proofs.Reading.{spelled-first}
use Rattle.lexer.proofs.FractionLaws.{dot-lexed, first_counted, first-fraction}
use Rattle.lexer.proofs.numbers.eat_dot_or_frac.Goals as goal

pub eat_frac-requires : goal.eat_frac-requires
eat_frac-requires c = record {
  fraction = rw c.begin.ensures (first-fraction _ _ _ _ c.requires c.eat-rest.ensures.place (sym c.sees.ensures ∙ c.if-sees.true));
  counted = rw c.begin.ensures (first_counted _ _ _ c.requires c.eat-rest.ensures.place);
}

pub returns-else-sees : goal.returns-else-sees
returns-else-sees c =
    dot-lexed _ (spelled-first 46 _ _ c.requires c.eat-rest.ensures.place) (sym c.sees.ensures ∙ c.if-sees.false) _ c.token.ensures
