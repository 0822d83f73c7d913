-- `agreeing::check_list` meets its contract. Assumes nothing.
use native.Mathlib.Nat.{le_of_eq}
use native.Mathlib.Omega.{arith}
use mathlib.Core.Path.{◌≡◌, subst}
use lib.ListN.{length, get_or}
use Rattle.std.proofs.lemmas.Result.{err_from_is_err_and}
use Rattle.grammar.specs.Longest.{source}
use Rattle.agreeing.specs.Steps.{Steps, Finishes}
use Rattle.agreeing.proofs.AgreeLaws.{none, begins, goes_on, stops-by, ends, too-long-checks}
use Rattle.agreeing.proofs.check_list.Goals as goal

pub returns-then-text-gt-LONGEST_TEXT : goal.returns-then-text-gt-LONGEST_TEXT
returns-then-text-gt-LONGEST_TEXT c = too-long-checks (source c.args.profile c.args.text.now) c.args.records.now c.if-text-gt-LONGEST_TEXT.true

pub loop-index-init : goal.loop-index-init
loop-index-init c = begins (source c.args.profile c.args.text.now) c.args.records.now c.if-text-gt-LONGEST_TEXT.false

pub returns-in_err-place : goal.returns-in_err-place
returns-in_err-place c =
    let l = c.loop-index in
    let (e, is, same) = err_from_is_err_and c.from_residual.result c.from_residual.ensures.1 in
    rw is (stops-by l.invariant c.agree.result _ e c.in_err-place.ensures.value same c.loop-index-test.true c.agree.ensures)

pub loop-index-preserved : goal.loop-index-preserved
loop-index-preserved c =
    let l = c.loop-index in
    goes_on l.invariant c.in_ok-place.place c.loop-index-test.true
    (subst (Steps (source c.args.profile c.args.text.now) l.place (get_or c.args.records.now l.index none)) c.in_ok-place.ensures.ok_part c.agree.ensures)

pub returns : goal.returns
returns c =
    let l = c.loop-index in
    let s = source c.args.profile c.args.text.now in
    let all : length c.args.records.now ≡ l.index = omega (arith, c.loop-index-test.false, l.auto.index-end) in
    ends l.invariant (le_of_eq all) c.finish.result (subst (λ n. Finishes s l.place.next.at n c.finish.result) all c.finish.ensures)
