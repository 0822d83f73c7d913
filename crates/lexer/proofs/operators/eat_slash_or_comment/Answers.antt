-- `lexer::operators::eat_slash_or_comment` meets its contract. Assumes nothing.
use mathlib.Core.Path.{◌∙◌, refl, sym}
use Rattle.grammar.specs.Classes.{operators}
use Rattle.grammar.proofs.Reading.{spelled-first, spelled-more}
use Rattle.lexer.proofs.OperatorLaws.{comment-opens, follow, is_operator, one-lexed}
use Rattle.lexer.proofs.operators.eat_slash_or_comment.Goals as goal

pub eat_comment-requires : goal.eat_comment-requires
eat_comment-requires c =
    let one = spelled-first 47 _ _ c.requires c.eat-slash.ensures.place in
    comment-opens (spelled-more one 42 (sym c.sees.ensures ∙ c.if-sees.true) c.eat.ensures.place)

pub returns : goal.returns
unfolding follow is_operator operators
returns c =
    one-lexed 47 _ _ c.requires c.eat-slash.ensures.place refl refl (sym c.sees.ensures ∙ c.if-sees.false) _ c.token.ensures
