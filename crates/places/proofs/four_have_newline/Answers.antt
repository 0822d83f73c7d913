-- `places::four_have_newline` meets its contract. Assumes nothing.
use mathlib.Core.Path.{◌∙◌, ap}
use Rattle.places.specs.Lines.{has_newline}
use Rattle.places.proofs.LineLaws.{has_first, has-later, has-single, four_bytes}
use Rattle.places.proofs.four_have_newline.Goals as goal

pub returns-then-text-at-eq-NEWLINE : goal.returns-then-text-at-eq-NEWLINE
returns-then-text-at-eq-NEWLINE c = has_first _ _ c.if-text-at-eq-NEWLINE.true ∙ ap has_newline (four_bytes _ _ c.requires)

pub returns-then-text-at-eq-NEWLINE-2 : goal.returns-then-text-at-eq-NEWLINE-2
returns-then-text-at-eq-NEWLINE-2 c =
    let if1 = c.if-text-at-eq-NEWLINE in
    has_first _ _ c.if-text-at-eq-NEWLINE-2.true ∙ has-later _ _ if1.false ∙ ap has_newline (four_bytes _ _ c.requires)

pub returns-then-text-at-eq-NEWLINE-3 : goal.returns-then-text-at-eq-NEWLINE-3
returns-then-text-at-eq-NEWLINE-3 c =
    let if2 = c.if-text-at-eq-NEWLINE-2 in
    let if1 = c.if-text-at-eq-NEWLINE in
    has_first _ _ c.if-text-at-eq-NEWLINE-3.true ∙ has-later _ _ if2.false ∙ has-later _ _ if1.false ∙
    ap has_newline (four_bytes _ _ c.requires)

pub returns : goal.returns
returns c =
    let if3 = c.if-text-at-eq-NEWLINE-3 in
    let if2 = c.if-text-at-eq-NEWLINE-2 in
    let if1 = c.if-text-at-eq-NEWLINE in
    has-single _ ∙ has-later _ _ if3.false ∙ has-later _ _ if2.false ∙ has-later _ _ if1.false ∙
    ap has_newline (four_bytes _ _ c.requires)
