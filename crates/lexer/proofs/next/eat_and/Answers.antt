-- `lexer::next::eat_and` meets its contract. Assumes nothing.
use mathlib.Core.Path.{◌∙◌, refl, sym}
use Rattle.grammar.proofs.Seen.{moved-one, seen-in}
use Rattle.grammar.proofs.Reading.{spelled-first}
use Rattle.lexer.proofs.AnswerLaws.{one_token}
use Rattle.lexer.proofs.NextLaws.{under}
use Rattle.grammar.specs.Classes.{operators}
use Rattle.lexer.proofs.OperatorLaws.{and-lexed, follow, is_operator, one_or_two-lexed}
use Rattle.lexer.proofs.next.eat_and.Goals as goal

pub eat_one_token-requires : goal.eat_one_token-requires
eat_one_token-requires c = seen-in _ _ _ c.requires

pub eat_one_or_two-requires : goal.eat_one_or_two-requires
eat_one_or_two-requires c = seen-in _ _ _ c.requires

pub returns-in-Turso : goal.returns-in-Turso
unfolding follow is_operator operators
returns-in-Turso c = under c.in-Turso.is _ _ _ (one_or_two-lexed 38 38 _ _ c.requires refl refl refl refl refl refl _ c.eat_one_or_two.ensures)

pub returns-in-Sqlite : goal.returns-in-Sqlite
returns-in-Sqlite c =
    let one = spelled-first 38 _ _ c.requires (sym (moved-one _ _ _ c.requires)) in
    under c.in-Sqlite.is _ _ _ (and-lexed one _ (c.eat_one_token.ensures ∙ sym (one_token _ _ _ refl)))
