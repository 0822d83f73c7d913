-- `lexer::operators::eat_array_contains_or_var` meets its contract. Assumes nothing.
use mathlib.Core.Path.{◌∙◌, refl, sym}
use Rattle.grammar.specs.declared.profile.Profile.TheVariants.{Turso}
use Rattle.grammar.specs.Classes.{operators}
use Rattle.grammar.proofs.Reading.{spelled-first}
use Rattle.lexer.proofs.OperatorLaws.{follow, is_operator, two-lexed}
use Rattle.lexer.proofs.ParameterLaws.{at_reads}
use Rattle.lexer.proofs.operators.eat_array_contains_or_var.Goals as goal

pub returns-then-sees : goal.returns-then-sees
unfolding follow is_operator operators
returns-then-sees c =
    two-lexed 64 _ _ c.requires c.eat-sign.ensures.place 62 (sym c.sees.ensures ∙ c.if-sees.true) c.eat.ensures.place refl refl refl _ c.token.ensures

pub returns : goal.returns
returns c =
    c.eat_named_var.ensures Turso (at_reads (spelled-first 64 _ _ c.requires c.eat-sign.ensures.place) (sym c.sees.ensures ∙ c.if-sees.false))
