-- `lexer::identifiers::eat_id` meets its contract. Assumes nothing.
use Rattle.grammar.proofs.Reading.{ends-in}
use Rattle.lexer.proofs.IdentifierLaws.{word-ends, word-lexed}
use Rattle.lexer.proofs.identifiers.eat_id.Goals as goal

pub slice_bounds-keyword_or_id_token-count : goal.slice_bounds-keyword_or_id_token-count
slice_bounds-keyword_or_id_token-count c = (word-ends c.requires c.eat_while-end.ensures.place).ordered

pub slice_bounds-keyword_or_id_token-start : goal.slice_bounds-keyword_or_id_token-start
slice_bounds-keyword_or_id_token-start c = (word-ends c.requires c.eat_while-end.ensures.place).ordered

pub slice_bounds-keyword_or_id_token-end : goal.slice_bounds-keyword_or_id_token-end
slice_bounds-keyword_or_id_token-end c = ends-in (word-ends c.requires c.eat_while-end.ensures.place)

pub token-requires : goal.token-requires
token-requires c = (word-ends c.requires c.eat_while-end.ensures.place).ordered

pub returns : goal.returns
returns c =
    word-lexed c.requires c.eat_while-end.ensures.place _ c.keyword_or_id_token.ensures _ c.token.ensures
