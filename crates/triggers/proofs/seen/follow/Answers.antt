-- `triggers::seen::follow` meets its contract: a case for each line of its table. Assumes nothing.
use mathlib.Core.Path.{refl}
use Rattle.triggers.specs.declared.seen.Seen.TheVariants.{Nothing, Explain, Query, Plan, Create, Temp, Body, Semi, End, Other}
use Rattle.triggers.proofs.EndLaws.{apart}
use Rattle.triggers.proofs.SeenLaws.{goes_on, body-goes-on, stays, last-trigger, last-end, last-end-alone}
use Rattle.triggers.proofs.seen.follow.Goals as goal

pub returns-then-kind-eq-TK_NONE : goal.returns-then-kind-eq-TK_NONE
returns-then-kind-eq-TK_NONE c = stays _ _ c.if-kind-eq-TK_NONE.true

pub returns-in-85 : goal.returns-in-85
returns-in-85 c =
    goes_on c.if-kind-eq-TK_NONE.false Nothing Explain c.in-Nothing.is
    (λ more. rw c.in-85.is refl) (λ kinds h. tt)

pub returns-in-63 : goal.returns-in-63
returns-in-63 c =
    goes_on c.if-kind-eq-TK_NONE.false Nothing Create c.in-Nothing.is
    (λ more. rw c.in-63.is refl) (λ kinds h. tt)

pub returns-in_default : goal.returns-in_default
returns-in_default c =
    goes_on c.if-kind-eq-TK_NONE.false Nothing Other c.in-Nothing.is
    (λ more. rw (apart _ _ c.in_default.in_default-own.rest.0.1) (rw (apart _ _ c.in_default.in_default-own.rest.1) refl)) (λ kinds h. tt)

pub returns-in-136 : goal.returns-in-136
returns-in-136 c =
    goes_on c.if-kind-eq-TK_NONE.false Explain Query c.in-Explain.is
    (λ more. rw c.in-136.is refl) (λ kinds h. tt)

pub returns-in-63-kind : goal.returns-in-63-kind
returns-in-63-kind c =
    goes_on c.if-kind-eq-TK_NONE.false Explain Create c.in-Explain.is
    (λ more. rw c.in-63-kind.is refl) (λ kinds h. tt)

pub returns-in_default-kind : goal.returns-in_default-kind
returns-in_default-kind c =
    goes_on c.if-kind-eq-TK_NONE.false Explain Other c.in-Explain.is
    (λ more. rw (apart _ _ c.in_default-kind.in_default-kind-own.rest.0.1) (rw (apart _ _ c.in_default-kind.in_default-kind-own.rest.1) refl)) (λ kinds h. tt)

pub returns-in-132 : goal.returns-in-132
returns-in-132 c =
    goes_on c.if-kind-eq-TK_NONE.false Query Plan c.in-Query.is
    (λ more. rw c.in-132.is refl) (λ kinds h. tt)

pub returns-in_default-kind-2 : goal.returns-in_default-kind-2
returns-in_default-kind-2 c =
    goes_on c.if-kind-eq-TK_NONE.false Query Other c.in-Query.is
    (λ more. rw (apart _ _ c.in_default-kind-2.in_default-kind-2-own.rest.1) refl) (λ kinds h. tt)

pub returns-in-63-kind-2 : goal.returns-in-63-kind-2
returns-in-63-kind-2 c =
    goes_on c.if-kind-eq-TK_NONE.false Plan Create c.in-Plan.is
    (λ more. rw c.in-63-kind-2.is refl) (λ kinds h. tt)

pub returns-in_default-kind-3 : goal.returns-in_default-kind-3
returns-in_default-kind-3 c =
    goes_on c.if-kind-eq-TK_NONE.false Plan Other c.in-Plan.is
    (λ more. rw (apart _ _ c.in_default-kind-3.in_default-kind-3-own.rest.1) refl) (λ kinds h. tt)

pub returns-in-154 : goal.returns-in-154
returns-in-154 c =
    goes_on c.if-kind-eq-TK_NONE.false Create Temp c.in-Create.is
    (λ more. rw c.in-154.is refl) (λ kinds h. tt)

pub returns-in-159 : goal.returns-in-159
returns-in-159 c =
    goes_on c.if-kind-eq-TK_NONE.false Create Body c.in-Create.is
    (λ more. rw c.in-159.is refl) (λ kinds h. last-trigger c.in-159.is kinds)

pub returns-in_default-kind-4 : goal.returns-in_default-kind-4
returns-in_default-kind-4 c =
    goes_on c.if-kind-eq-TK_NONE.false Create Other c.in-Create.is
    (λ more. rw (apart _ _ c.in_default-kind-4.in_default-kind-4-own.rest.0.1) (rw (apart _ _ c.in_default-kind-4.in_default-kind-4-own.rest.1) refl)) (λ kinds h. tt)

pub returns-in-159-kind : goal.returns-in-159-kind
returns-in-159-kind c =
    goes_on c.if-kind-eq-TK_NONE.false Temp Body c.in-Temp.is
    (λ more. rw c.in-159-kind.is refl) (λ kinds h. last-trigger c.in-159-kind.is kinds)

pub returns-in_default-kind-5 : goal.returns-in_default-kind-5
returns-in_default-kind-5 c =
    goes_on c.if-kind-eq-TK_NONE.false Temp Other c.in-Temp.is
    (λ more. rw (apart _ _ c.in_default-kind-5.in_default-kind-5-own.rest.1) refl) (λ kinds h. tt)

pub returns-in-Body : goal.returns-in-Body
returns-in-Body c =
    body-goes-on c.if-kind-eq-TK_NONE.false Body Body _ c.in-Body.is
    (λ more. refl) (λ more. refl) (λ e kinds h. last-end-alone e kinds h.0) c.in_body.ensures

pub returns-in-Semi : goal.returns-in-Semi
returns-in-Semi c =
    body-goes-on c.if-kind-eq-TK_NONE.false Semi End _ c.in-Semi.is
    (λ more. refl) (λ more. refl) last-end c.in_body-in-Semi.ensures

pub returns-in-End : goal.returns-in-End
returns-in-End c =
    body-goes-on c.if-kind-eq-TK_NONE.false End Body _ c.in-End.is
    (λ more. refl) (λ more. refl) (λ e kinds h. last-end-alone e kinds h.0) c.in_body-in-End.ensures

pub returns-in-Other : goal.returns-in-Other
returns-in-Other c = goes_on c.if-kind-eq-TK_NONE.false Other Other c.in-Other.is (λ more. refl) (λ kinds h. tt)
