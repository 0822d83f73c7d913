-- `lexer::parameters::eat_colon_or_var` meets its contract. Assumes nothing.
use mathlib.Core.Bool.{true≢false}
use mathlib.Core.Path.{◌∙◌, sym}
use Rattle.grammar.specs.declared.profile.Profile.TheVariants.{Turso}
use Rattle.grammar.proofs.Reading.{spelled-first}
use Rattle.lexer.proofs.ParameterLaws.{colon-lexed, colon-pair, colon-start}
use Rattle.lexer.proofs.parameters.eat_colon_or_var.Goals.{then-sees, else-sees}
use Rattle.lexer.proofs.parameters.eat_colon_or_var.Goals as goal

pub returns-then-sees_pair : goal.returns-then-sees_pair
returns-then-sees_pair c =
    let one = spelled-first 58 _ _ c.requires c.eat-colon.ensures.place in
    elim c.if-sees.branch [
      | then-sees w ↦ c.eat_named_var.ensures Turso (colon-start one (sym c.sees.ensures ∙ w.if-sees.true))
      | else-sees w ↦ c.eat_named_var.ensures Turso (colon-pair one (sym w.sees_pair.ensures ∙ sym w.value-is ∙ c.if-sees_pair.true))
    ]

pub returns-else-sees_pair : goal.returns-else-sees_pair
returns-else-sees_pair c =
    let one = spelled-first 58 _ _ c.requires c.eat-colon.ensures.place in
    elim c.if-sees.branch [
      | then-sees w ↦ absurd (true≢false (sym w.if-sees.true ∙ sym w.value-is ∙ c.if-sees_pair.false))
      | else-sees w ↦
          colon-lexed one (sym c.sees.ensures ∙ w.if-sees.false) (sym w.sees_pair.ensures ∙ sym w.value-is ∙ c.if-sees_pair.false) _ c.token.ensures
    ]
