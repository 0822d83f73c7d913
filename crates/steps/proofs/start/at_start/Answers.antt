-- `steps::start::at_start` meets its contract. Assumes nothing.
use mathlib.Core.Path.{sym, ◌∙◌}
use Rattle.steps.proofs.StartLaws.{no-x, no_zero}
use Rattle.steps.proofs.start.at_start.Goals as goal

pub returns-then-is_digit : goal.returns-then-is_digit
returns-then-is_digit c =
    let blank = sym c.is_blank.ensures ∙ c.if-is_blank.false in
    let word = sym c.is_word_start.ensures ∙ c.if-is_word_start.false in
    let digit = sym c.is_digit.ensures ∙ c.if-is_digit.true in
    rw (c.at_digit.ensures, blank, no-x _ word, word, digit)

pub returns-else-is_digit : goal.returns-else-is_digit
returns-else-is_digit c =
    let blank = sym c.is_blank.ensures ∙ c.if-is_blank.false in
    let word = sym c.is_word_start.ensures ∙ c.if-is_word_start.false in
    let digit = sym c.is_digit.ensures ∙ c.if-is_digit.false in
    rw (c.at_mark.ensures, blank, no-x _ word, word, no_zero _ digit, digit)
