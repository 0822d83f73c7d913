-- `lexer::numbers::eat_number` meets its contract. Assumes nothing.
use mathlib.Core.Path.{◌∙◌, sym}
use Rattle.lexer.proofs.IntegerLaws.{decimal-begins, hex-alike, hex-begins}
use Rattle.lexer.proofs.numbers.eat_number.Goals as goal

pub eat_hex-requires : goal.eat_hex-requires
eat_hex-requires c = hex-begins _ _ _ c.requires c.eat-rest.ensures.place (sym c.sees_hex.ensures ∙ c.if-sees_hex.true) c.eat.ensures.place

pub returns-then-sees_hex : goal.returns-then-sees_hex
returns-then-sees_hex c =
    hex-alike _ _ _ c.requires c.eat-rest.ensures.place (sym c.sees_hex.ensures ∙ c.if-sees_hex.true) c.eat.ensures.place _ _ c.eat_hex.ensures

pub eat_decimal-requires : goal.eat_decimal-requires
eat_decimal-requires c = decimal-begins _ _ _ _ c.requires c.eat-rest.ensures.place (sym c.sees_hex.ensures ∙ c.if-sees_hex.false)
