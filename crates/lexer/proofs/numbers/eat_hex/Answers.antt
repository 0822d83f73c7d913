-- `lexer::numbers::eat_hex` meets its contract. Assumes nothing.
use mathlib.Core.Path.{◌∙◌, sym}
use Rattle.lexer.proofs.CountLaws.{hex-digits, hex-underscores}
use Rattle.lexer.proofs.NumberLaws.{integer-lexed}
use Rattle.lexer.proofs.HexLaws.{hex-after, hex-bad-lexed, hex-counted, hex-ends, hex-missing-lexed, hex-span, hex-word-lexed}
use Rattle.lexer.proofs.numbers.eat_hex.Goals as goal

pub refused-requires : goal.refused-requires
refused-requires c = hex-span c.requires _ _ (rw c.begin.ensures at c.in-Err.ensures)

pub returns-in-Err : goal.returns-in-Err
returns-in-Err c = hex-bad-lexed c.requires _ _ (rw c.begin.ensures at c.in-Err.ensures) _ c.refused.ensures

pub returns-then-at-end : goal.returns-then-at-end
returns-then-at-end c = hex-missing-lexed c.requires _ _ (rw c.begin.ensures at c.in-Ok.ensures) c.if-at-end.true _ c.refused-then-at-end.ensures

pub refused-requires-then-sees : goal.refused-requires-then-sees
refused-requires-then-sees c = (hex-after c.requires _ _ (rw c.begin.ensures at c.in-Ok.ensures) c.if-at-end.false).reads.ordered

pub returns-then-sees : goal.returns-then-sees
returns-then-sees c =
    let after = hex-after c.requires _ _ (rw c.begin.ensures at c.in-Ok.ensures) c.if-at-end.false in
    hex-word-lexed after (sym c.sees.ensures ∙ c.if-sees.true) _ c.refused-then-sees.ensures

pub number-requires : goal.number-requires
number-requires c = (hex-after c.requires _ _ (rw c.begin.ensures at c.in-Ok.ensures) c.if-at-end.false).reads.ordered

pub returns : goal.returns
returns c =
    let after = hex-after c.requires _ _ (rw c.begin.ensures at c.in-Ok.ensures) c.if-at-end.false in
    let counted = hex-counted c.requires (rw c.begin.ensures at c.in-Ok.ensures) in
    let ends = hex-ends after (sym c.sees.ensures ∙ c.if-sees.false) in
    integer-lexed _ ends (hex-digits c.requires after.up counted) (hex-underscores c.requires after.up counted) c.number.ensures
