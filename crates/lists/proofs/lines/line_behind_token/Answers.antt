-- `lists::lines::line_behind_token` meets its contract. Assumes nothing.
use mathlib.Core.Path.{sym, ◌∙◌}
use Rattle.lists.proofs.LinesLaws.{one-clear, one-newline, more-clear, more_bytes}
use Rattle.lists.proofs.lines.line_behind_token.Goals as goal

pub returns-then-text-start-ne-NEWLINE : goal.returns-then-text-start-ne-NEWLINE
returns-then-text-start-ne-NEWLINE c = one-clear _ _ _ _ _ c.if-length-eq1.true c.if-text-start-ne-NEWLINE.true

pub returns-then-length-eq1 : goal.returns-then-length-eq1
returns-then-length-eq1 c = one-newline _ _ _ _ _ _ c.line_behind.ensures c.if-length-eq1.true c.if-text-start-ne-NEWLINE.false

pub returns-then-has_no_newline : goal.returns-then-has_no_newline
returns-then-has_no_newline c =
    let test = sym c.has_no_newline.ensures ∙ c.if-has_no_newline.true in
    more-clear _ _ _ _ _ c.if-length-eq1.false test

pub returns : goal.returns
returns c =
    let test = sym c.has_no_newline.ensures ∙ c.if-has_no_newline.false in
    more_bytes _ _ _ _ _ _ c.line_behind-2.ensures c.if-length-eq1.false test
