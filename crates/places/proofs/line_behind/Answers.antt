-- `places::line_behind` meets its contract. Assumes nothing.
use native.Mathlib.Omega.{arith}
use Rattle.places.proofs.LineLaws.{along-begins, along-none, along-ends, along-on}
use Rattle.places.proofs.line_behind.Goals as goal

pub returns-then-end-from : goal.returns-then-end-from
returns-then-end-from c = along-none _ _ _ _ _ c.min-end.ensures c.if-end-from.true

pub loop-here-init : goal.loop-here-init
loop-here-init c = along-begins _ _ _ _ _ c.min-end.ensures c.if-end-from.false

pub next_newline-stop-requires : goal.next_newline-stop-requires
next_newline-stop-requires c = (c.loop-here.invariant.left, c.loop-here.invariant.inside)

pub returns-then-stop-end : goal.returns-then-stop-end
returns-then-stop-end c =
    let next-newline = c.next_newline-stop in
    along-ends c.loop-here.invariant next-newline.ensures (omega (arith, c.if-stop-end.true, next-newline.ensures.0.inside)) _ c.min-end.ensures

pub loop-here-preserved : goal.loop-here-preserved
loop-here-preserved c =
    let next-newline = c.next_newline-stop in
    let behind = c.if-stop-end.false in
    along-on c.loop-here.invariant next-newline.ensures (λ e. omega (arith, behind, e)) _ c.saturating_add.ensures
