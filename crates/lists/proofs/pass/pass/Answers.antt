-- `lists::pass::pass` meets its contract. The loop's invariant: the records so far stand at the front of the list, each lexeme passed has cost
-- one of the allowance, and the line is that of the place reached. Assumes nothing.
use native.Mathlib.Omega.{arith}
use mathlib.Core.Path.{refl, ◌∙◌, ap}
use Rattle.records.specs.Records.{with_record}
use Rattle.lexer.proofs.Moves.{moves}
use Rattle.walks.proofs.WalkLaws.{token-told}
use Rattle.lists.proofs.PassLaws.{begins, asked, record-on, blank-on, full-passing}
use Rattle.lists.proofs.PassLaws.{spent-passing, end-passing, refusal-passing}
use Rattle.lists.proofs.pass.pass.Goals as goal
use Rattle.lists.proofs.pass.pass.Goals.{then-least-kind+else-not-put, else-least-kind}

pub loop-kind-init : goal.loop-kind-init
loop-kind-init c =
    let short = c.requires in
    (begins _ _ _ _ _ _ short c.line_behind-line.ensures, short)

pub returns-then-left-eq0 : goal.returns-then-left-eq0
returns-then-left-eq0 c =
    let loop = c.loop-kind in
    let token = c.in-Token.ensures in
    spent-passing loop.invariant.0 _ _ _ _ _ _ token _ refl c.if-left-eq0.true _ c.stopped.ensures

pub record_of-requires : goal.record_of-requires
record_of-requires c =
    let loop = c.loop-kind in
    asked loop.invariant.0 _ _ _ _ _ _ c.in-Token.ensures loop.invariant.1

pub returns-then-not-put : goal.returns-then-not-put
returns-then-not-put c =
    let if3 = c.if-not-put in
    let put = c.put in
    let record_of = c.record_of in
    let if2 = c.if-least-kind in
    let loop = c.loop-kind in
    let token = c.in-Token.ensures in
    let written = put.ensures.1 ∙ ap (with_record _ _) record_of.ensures in
    full-passing loop.invariant.0 _ _ _ _ _ _ token if2.true _ _ put.ensures.0 written if3.true _ refl _ c.stopped-then-not-put.ensures

pub line_behind_token-line-requires : goal.line_behind_token-line-requires
line_behind_token-line-requires c =
    let t = token-told _ _ _ _ _ _ _ _ c.in-Token.ensures in
    (t.some, omega (arith, t.goes, t.inside))

pub loop-kind-smaller : goal.loop-kind-smaller
loop-kind-smaller c =
    let t = moves _ _ _ _ _ _ _ _ _ c.in-Token.ensures in
    omega arith

pub loop-kind-preserved : goal.loop-kind-preserved
loop-kind-preserved c =
    let if1 = c.if-left-eq0 in
    let loop = c.loop-kind in
    let token = c.in-Token.ensures in
    let line = c.line_behind_token-line.ensures in (
      elim c.if-least-kind.branch [
        | then-least-kind+else-not-put w ↦
            record-on loop.invariant.0 _ _ _ _ _ _ token loop.invariant.1 if1.false _ line w.if-least-kind.true _ _ w.put.ensures.0
            (w.numbers-is ∙ w.put.ensures.1 ∙ ap (with_record _ _) w.record_of.ensures) w.if-not-put.false _ w.filled-is
        | else-least-kind w ↦
            blank-on loop.invariant.0 _ _ _ _ _ _ token loop.invariant.1 if1.false _ line w.if-least-kind.false _ _ w.numbers-is w.filled-is
      ],
      loop.invariant.1,
    )

pub returns-in-End : goal.returns-in-End
returns-in-End c =
    let loop = c.loop-kind in
    end-passing loop.invariant.0 _ c.in-End.ensures _ c.stopped-in-End.ensures

pub returns-in-Refused : goal.returns-in-Refused
returns-in-Refused c =
    let loop = c.loop-kind in
    refusal-passing loop.invariant.0 _ _ _ _ c.in-Refused.ensures _ c.stopped-in-Refused.ensures
