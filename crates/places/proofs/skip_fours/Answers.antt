-- `places::skip_fours` meets its contract. Assumes nothing.
use native.Mathlib.Omega.{arith}
use mathlib.Core.Path.{sym, ◌∙◌, subst}
use Rattle.places.specs.Lines.{Clear}
use Rattle.places.proofs.LineLaws.{clear-begins, clear-four}
use Rattle.places.proofs.skip_fours.Goals as goal

pub loop-k-init : goal.loop-k-init
loop-k-init c = subst (Clear c.args.text.now c.args.from c.args.to) (omega arith) (clear-begins _ _ _ c.requires)

pub loop-k-preserved : goal.loop-k-preserved
loop-k-preserved c =
    let loop = c.loop-k in
    let four = clear-four loop.invariant (omega (arith, c.loop-k-test.true)) (sym c.if-four_have_newline.false ∙ c.four_have_newline.ensures) in
    subst (Clear c.args.text.now c.args.from c.args.to) (omega arith) four
