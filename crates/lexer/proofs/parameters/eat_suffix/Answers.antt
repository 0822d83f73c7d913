-- `lexer::parameters::eat_suffix` meets its contract. Assumes nothing.
use mathlib.Core.Path.{◌∙◌, sym}
use Rattle.lexer.proofs.ParameterLaws.{name-ends, suffix-closed, suffix-open, unclosed-lexed, variable-lexed}
use Rattle.lexer.proofs.parameters.eat_suffix.Goals as goal

pub returns-then-not-sees : goal.returns-then-not-sees
returns-then-not-sees c = λ π named. variable-lexed _ (name-ends named (sym c.sees.ensures ∙ c.if-not-sees.true)) c.token.ensures

pub returns-then-not-sees-2 : goal.returns-then-not-sees-2
returns-then-not-sees-2 c =
    let seen = sym c.sees.ensures ∙ c.if-not-sees.false in
    let unseen = sym c.sees-2.ensures ∙ c.if-not-sees-2.true in
    λ π named. unclosed-lexed _ (suffix-open named seen c.eat.ensures.place c.eat_while-end.ensures.place unseen) c.refused.ensures

pub returns : goal.returns
returns c =
    let seen = sym c.sees.ensures ∙ c.if-not-sees.false in
    let closes = sym c.sees-2.ensures ∙ c.if-not-sees-2.false in
    λ π named. variable-lexed _ (suffix-closed named seen c.eat.ensures.place c.eat_while-end.ensures.place closes c.eat-2.ensures.place) c.token-2.ensures
