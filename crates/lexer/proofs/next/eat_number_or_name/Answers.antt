-- `lexer::next::eat_number_or_name` meets its contract. Assumes nothing.
use mathlib.Core.Path.{◌∙◌, refl, sym}
use Rattle.words.specs.Bytes.{is_digit, is_identifier_start, is_blank}
use Rattle.grammar.specs.Classes.{U}
use Rattle.grammar.specs.Form.{D, S, ◌or◌}
use Rattle.grammar.proofs.Seen.{or-other}
use Rattle.lexer.proofs.NextLaws.{lift}
use Rattle.lexer.proofs.next.eat_number_or_name.Goals as goal

pub returns-then-sees-2 : goal.returns-then-sees-2
unfolding is_digit is_identifier_start
returns-then-sees-2 c = lift S refl _ _ _ (sym c.sees-2.ensures ∙ c.if-sees-2.true) _ c.eat_blob_or_id.ensures

pub eat_unrecognized-requires : goal.eat_unrecognized-requires
eat_unrecognized-requires c =
    let other = or-other D (S or U) _ c.requires (sym c.sees.ensures ∙ c.if-sees.false) in
    or-other S U _ other (sym c.sees-2.ensures ∙ c.if-sees-2.false)

pub returns : goal.returns
unfolding is_digit is_blank
returns c =
    let other = or-other D (S or U) _ c.requires (sym c.sees.ensures ∙ c.if-sees.false) in
    lift U refl _ _ _ (or-other S U _ other (sym c.sees-2.ensures ∙ c.if-sees-2.false)) _ c.eat_unrecognized.ensures
