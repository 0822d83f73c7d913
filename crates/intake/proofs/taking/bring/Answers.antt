-- `intake::taking::bring` meets its contract: so many bytes lie at the row's front. Assumes nothing.
use Prim.Native.Nat.{ℕ, ◌+◌, ◌-◌, ◌<◌}
use native.Mathlib.Omega.{arith}
use native.Mathlib.Numerals.{add-one}
use mathlib.Core.Path.{◌≡◌, sym, ◌∙◌, ap, subst}
use mathlib.Core.List.{List}
use lib.ListN.{length, get_or, set}
use Rattle.intake.specs.Takes.{behind, read_so_far}
use Rattle.intake.proofs.TakeLaws.{laid, behind-length, bring-start, read-inside, bring-more}
use Rattle.intake.proofs.taking.bring.Goals as goal

pub loop-at-init : goal.loop-at-init
loop-at-init c =
    let row = c.args.row.now in
    let given = c.args.given in
    let held = c.args.held in
    let w = behind given held row in
    let back : c.saturating_sub-back.result ≡ length w = c.saturating_sub-back.ensures ∙ ap (λ (k : ℕ). k - given) c.min.ensures ∙ sym (behind-length row given held) in
    let read : c.read_so_far-at.result ≡ read_so_far given (length w) = c.read_so_far-at.ensures ∙ ap (read_so_far given) back in
    (back, omega (arith, read, back, read-inside row given held), bring-start row given held ∙ ap (λ (k : ℕ). laid w k row) (sym read))

pub loop-at-preserved : goal.loop-at-preserved
loop-at-preserved c =
    let loop = c.loop-at in
    let a = c.args in
    let l = subst (λ (k : ℕ). loop.at < k) loop.invariant.0 c.loop-at-test.true in
    let e = bring-more a.row.now a.given a.held loop.at l in (
      loop.invariant.0,
      omega (arith, c.loop-at-test.true),
      ap (λ (r : List ℕ). set r loop.at (get_or r (a.given + loop.at) 0)) loop.invariant.2 ∙ e ∙ ap (λ (k : ℕ). laid (behind a.given a.held a.row.now) k a.row.now) (sym (add-one loop.at)),
    )
