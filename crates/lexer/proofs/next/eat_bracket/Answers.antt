-- `lexer::next::eat_bracket` meets its contract. Assumes nothing.
use mathlib.Core.Path.{◌∙◌, refl, sym}
use Rattle.grammar.specs.Classes.{operators}
use Rattle.grammar.proofs.Seen.{misses-none, moved-one, seen-in}
use Rattle.lexer.proofs.AnswerLaws.{one_token}
use Rattle.lexer.proofs.NextLaws.{under}
use Rattle.lexer.proofs.OperatorLaws.{follow, is_operator, one-lexed}
use Rattle.lexer.proofs.next.eat_bracket.Goals as goal

pub eat_one_token-requires : goal.eat_one_token-requires
eat_one_token-requires c = seen-in _ _ _ c.requires

pub returns-in-Turso : goal.returns-in-Turso
unfolding follow is_operator operators
returns-in-Turso c =
    let lexed = one-lexed 91 _ _ c.requires (sym (moved-one _ _ _ c.requires)) refl refl (misses-none _) _ (c.eat_one_token.ensures ∙ sym (one_token _ _ _ refl)) in
    under c.in-Turso.is _ _ _ lexed
