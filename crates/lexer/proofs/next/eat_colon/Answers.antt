-- `lexer::next::eat_colon` meets its contract. Assumes nothing.
use Rattle.grammar.specs.declared.profile.Profile.TheVariants.{Sqlite}
use Rattle.grammar.proofs.Reading.{spelled-first}
use Rattle.lexer.proofs.NextLaws.{under}
use Rattle.lexer.proofs.ParameterLaws.{sqlite-colon}
use Rattle.lexer.proofs.next.eat_colon.Goals as goal

pub returns-in-Sqlite : goal.returns-in-Sqlite
returns-in-Sqlite c =
    under c.in-Sqlite.is _ _ _ (c.eat_named_var.ensures Sqlite (sqlite-colon (spelled-first 58 _ _ c.requires c.eat.ensures.place)))
