-- `cuts::cut` meets its contract. The loop's invariant: none of the tokens up to here ends the statement. Assumes nothing.
use native.Mathlib.Omega.{arith}
use mathlib.Core.Path.{refl}
use Rattle.std.proofs.Common.{rules}
use Rattle.lexer.proofs.Moves.{moves}
use Rattle.cuts.proofs.CutLaws.{begins, ahead, onward, semi-cuts, refusal-cuts, end-cuts, only_end}
use Rattle.cuts.proofs.cut.Goals as goal

pub loop-kind-init : goal.loop-kind-init
loop-kind-init c = begins _ _

pub at_end-requires : goal.at_end-requires
at_end-requires c =
    let e = only_end _ _ _ c.next-answer.ensures c.in_default.not-Token c.in_default-answer.not-Refused in
    let h = ahead c.loop-kind.invariant in
    omega (arith, e.0)

pub returns-in_default-answer : goal.returns-in_default-answer
returns-in_default-answer c =
    let e = only_end _ _ _ c.next-answer.ensures c.in_default.not-Token c.in_default-answer.not-Refused in
    end-cuts c.loop-kind.invariant _ e.0 e.1 c.at_end.ensures

pub returns-in_default : goal.returns-in_default
returns-in_default c = refusal-cuts c.loop-kind.invariant _ _ _ _ _ refl c.in-Refused.ensures

pub overflow_sub-result : goal.overflow_sub-result
overflow_sub-result c =
    let h = ahead c.loop-kind.invariant in
    let t = moves _ _ _ _ _ _ _ _ _ c.in-Token.ensures in
    omega arith

pub returns-then-ends : goal.returns-then-ends
returns-then-ends c = semi-cuts c.loop-kind.invariant _ _ _ _ _ _ c.in-Token.ensures _ c.ends.ensures c.if-ends.true

pub loop-kind-smaller : goal.loop-kind-smaller
loop-kind-smaller c =
    let t = moves _ _ _ _ _ _ _ _ _ c.in-Token.ensures in
    omega arith

pub loop-kind-preserved : goal.loop-kind-preserved
loop-kind-preserved c =
    onward c.loop-kind.invariant _ _ _ _ _ _ c.in-Token.ensures _ c.ends.ensures c.if-ends.false _ (search rules) _ c.follow-seen.ensures
