-- `lexer::next::eat_at` meets its contract. Assumes nothing.
use Rattle.grammar.specs.declared.profile.Profile.TheVariants.{Sqlite}
use Rattle.grammar.proofs.Reading.{spelled-first}
use Rattle.lexer.proofs.NextLaws.{under}
use Rattle.lexer.proofs.ParameterLaws.{sqlite-at}
use Rattle.lexer.proofs.next.eat_at.Goals as goal

pub returns-in-Sqlite : goal.returns-in-Sqlite
returns-in-Sqlite c =
    under c.in-Sqlite.is _ _ _ (c.eat_named_var.ensures Sqlite (sqlite-at (spelled-first 64 _ _ c.requires c.eat.ensures.place)))
