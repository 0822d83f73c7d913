-- `lexer::next::eat_lexeme` meets its contract, arm by arm. Assumes nothing.
use mathlib.Core.Path.{refl}
use Rattle.words.specs.Bytes.{is_digit}
use Rattle.grammar.specs.Classes.{U, operators}
use Rattle.grammar.specs.Form.{D, S, one_of, ◌or◌}
use Rattle.grammar.proofs.Reading.{spelled-first}
use Rattle.lexer.proofs.NextLaws.{byte-in, key-lexed, key-lift, key-seen, key-two-lexed, later, lift, quote-in}
use Rattle.lexer.proofs.OperatorLaws.{follow, is_operator}
use Rattle.lexer.proofs.ParameterLaws.{dollar-reads}
use borrow.Author.Rules.{rules}
use Rattle.lexer.proofs.next.eat_lexeme.Goals as goal

pub eat_number_or_name-requires : goal.eat_number_or_name-requires
eat_number_or_name-requires c = byte-in (D or S or U) _ _ c.requires.0 (later _ c.requires.1 (search rules))

pub returns-in-45 : goal.returns-in-45
unfolding is_digit
returns-in-45 c = key-lift 45 _ _ _ _ c.requires.0 c.in-45.is refl _ c.eat_minus_or_comment_or_ptr.ensures

pub returns-in-40 : goal.returns-in-40
unfolding follow is_operator operators is_digit
returns-in-40 c = key-lexed 40 _ _ _ _ c.requires.0 c.in-40.is refl refl refl refl _ c.eat_one_token.ensures

pub returns-in-41 : goal.returns-in-41
unfolding follow is_operator operators is_digit
returns-in-41 c = key-lexed 41 _ _ _ _ c.requires.0 c.in-41.is refl refl refl refl _ c.eat_one_token-in-41.ensures

pub returns-in-59 : goal.returns-in-59
unfolding follow is_operator operators is_digit
returns-in-59 c = key-lexed 59 _ _ _ _ c.requires.0 c.in-59.is refl refl refl refl _ c.eat_one_token-in-59.ensures

pub returns-in-43 : goal.returns-in-43
unfolding follow is_operator operators is_digit
returns-in-43 c = key-lexed 43 _ _ _ _ c.requires.0 c.in-43.is refl refl refl refl _ c.eat_one_token-in-43.ensures

pub returns-in-42 : goal.returns-in-42
unfolding follow is_operator operators is_digit
returns-in-42 c = key-lexed 42 _ _ _ _ c.requires.0 c.in-42.is refl refl refl refl _ c.eat_one_token-in-42.ensures

pub returns-in-47 : goal.returns-in-47
unfolding is_digit
returns-in-47 c = key-lift 47 _ _ _ _ c.requires.0 c.in-47.is refl _ c.eat_slash_or_comment.ensures

pub returns-in-37 : goal.returns-in-37
unfolding follow is_operator operators is_digit
returns-in-37 c = key-lexed 37 _ _ _ _ c.requires.0 c.in-37.is refl refl refl refl _ c.eat_one_token-in-37.ensures

pub returns-in-61 : goal.returns-in-61
unfolding follow is_operator operators is_digit
returns-in-61 c = key-two-lexed 61 61 _ _ _ _ c.requires.0 c.in-61.is refl refl refl refl refl refl refl _ c.eat_one_or_two.ensures

pub returns-in-60 : goal.returns-in-60
unfolding is_digit
returns-in-60 c = key-lift 60 _ _ _ _ c.requires.0 c.in-60.is refl _ c.eat_le_or_ne_or_lshift_or_lt.ensures

pub returns-in-62 : goal.returns-in-62
unfolding is_digit
returns-in-62 c = key-lift 62 _ _ _ _ c.requires.0 c.in-62.is refl _ c.eat_ge_or_gt_or_rshift.ensures

pub returns-in-33 : goal.returns-in-33
unfolding is_digit
returns-in-33 c = key-lift 33 _ _ _ _ c.requires.0 c.in-33.is refl _ c.eat_ne.ensures

pub returns-in-124 : goal.returns-in-124
unfolding follow is_operator operators is_digit
returns-in-124 c = key-two-lexed 124 124 _ _ _ _ c.requires.0 c.in-124.is refl refl refl refl refl refl refl _ c.eat_one_or_two-in-124.ensures

pub returns-in-44 : goal.returns-in-44
unfolding follow is_operator operators is_digit
returns-in-44 c = key-lexed 44 _ _ _ _ c.requires.0 c.in-44.is refl refl refl refl _ c.eat_one_token-in-44.ensures

pub returns-in-126 : goal.returns-in-126
unfolding follow is_operator operators is_digit
returns-in-126 c = key-lexed 126 _ _ _ _ c.requires.0 c.in-126.is refl refl refl refl _ c.eat_one_token-in-126.ensures

pub returns-in-39 : goal.returns-in-39
unfolding is_digit
returns-in-39 c =
    let quotes = one_of "'\"`" in
    lift quotes refl _ _ _ (byte-in quotes _ _ c.requires.0 (quote-in _ c.in-39.is)) _ c.eat_lit_or_id.ensures

pub returns-in-93 : goal.returns-in-93
unfolding follow is_operator operators is_digit
returns-in-93 c = key-lexed 93 _ _ _ _ c.requires.0 c.in-93.is refl refl refl refl _ c.eat_one_token-in-93.ensures

pub returns-in-63 : goal.returns-in-63
unfolding is_digit
returns-in-63 c = key-lift 63 _ _ _ _ c.requires.0 c.in-63.is refl _ c.eat_numbered_var.ensures

pub returns-in-36 : goal.returns-in-36
returns-in-36 c =
    let seen = key-seen 36 _ _ c.requires.0 c.in-36.is in
    c.eat_named_var.ensures _ (dollar-reads _ (spelled-first 36 _ _ seen c.eat.ensures.place))

pub returns-in-35 : goal.returns-in-35
unfolding is_digit
returns-in-35 c = key-lift 35 _ _ _ _ c.requires.0 c.in-35.is refl _ c.eat_illegal.ensures
