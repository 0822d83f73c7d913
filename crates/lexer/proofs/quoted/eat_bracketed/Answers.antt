-- `lexer::quoted::eat_bracketed` meets its contract. Assumes nothing.
use Rattle.grammar.proofs.Reading.{spelled-first}
use Rattle.lexer.proofs.EatLaws.{found-past, missed-past}
use Rattle.lexer.proofs.QuotedLaws.{bracket-closed, bracket-lexed, bracket-open, open-lexed}
use Rattle.lexer.proofs.quoted.eat_bracketed.Goals as goal

pub refused-requires : goal.refused-requires
refused-requires c =
    let missed = missed-past _ _ _ _ c.in-Err.ensures in
    let one = spelled-first 91 _ _ c.requires c.eat.ensures.place in
    (bracket-open one missed.0 missed.1).ordered

pub token-requires : goal.token-requires
token-requires c =
    let found = found-past _ _ _ _ c.in-Ok.ensures in
    let one = spelled-first 91 _ _ c.requires c.eat.ensures.place in
    (bracket-closed one found).ordered

pub returns-in-Err : goal.returns-in-Err
returns-in-Err c =
    let missed = missed-past _ _ _ _ c.in-Err.ensures in
    let one = spelled-first 91 _ _ c.requires c.eat.ensures.place in
    open-lexed (bracket-open one missed.0 missed.1) _ c.refused.ensures

pub returns-in-Ok : goal.returns-in-Ok
returns-in-Ok c =
    let found = found-past _ _ _ _ c.in-Ok.ensures in
    let one = spelled-first 91 _ _ c.requires c.eat.ensures.place in
    bracket-lexed (bracket-closed one found) _ c.token.ensures
