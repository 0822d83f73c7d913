-- `lexer::next::next` meets its contract. Assumes nothing.
use mathlib.Core.Path.{◌∙◌, refl, sym}
use Rattle.words.specs.Bytes.{is_blank, is_digit}
use Rattle.grammar.specs.Form.{blank}
use Rattle.grammar.proofs.Seen.{seen-in}
use Rattle.lexer.proofs.EatLaws.{head-sees}
use Rattle.lexer.proofs.NextLaws.{byte-seen, end-lexed, lift, past-lexed}
use Rattle.lexer.proofs.next.next.Goals as goal

pub returns-then-text-at : goal.returns-then-text-at
returns-then-text-at c = past-lexed _ _ _ c.if-text-at.true

pub returns-in_default : goal.returns-in_default
returns-in_default c = end-lexed _ _ _ c.if-text-at.false c.in_default.ensures

pub eat_white_space-requires : goal.eat_white_space-requires
eat_white_space-requires c = sym (head-sees blank _ _ c.in-Some.ensures) ∙ sym c.is_blank.ensures ∙ c.if-is_blank.true

pub returns-then-is_blank : goal.returns-then-is_blank
unfolding is_blank is_digit
returns-then-is_blank c =
    let seen = sym (head-sees blank _ _ c.in-Some.ensures) ∙ sym c.is_blank.ensures ∙ c.if-is_blank.true in
    lift blank refl _ _ _ seen _ c.eat_white_space.ensures

pub eat_lexeme-requires : goal.eat_lexeme-requires
eat_lexeme-requires c =
    let seen = byte-seen _ _ c.in-Some.ensures in
    (seen, sym c.is_blank.ensures ∙ c.if-is_blank.false, seen-in _ _ _ seen)
