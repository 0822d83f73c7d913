-- `triggers::seen::ends` meets its contract. Assumes nothing.
use mathlib.Core.Path.{ap}
use Rattle.triggers.proofs.SeenLaws.{ends_in, not-semi, says-end, ends-others}
use Rattle.triggers.proofs.seen.ends.Goals as goal

pub returns-then-kind-ne-TK_SEMI : goal.returns-then-kind-ne-TK_SEMI
returns-then-kind-ne-TK_SEMI c = not-semi _ _ c.if-kind-ne-TK_SEMI.true

pub returns-in-Body : goal.returns-in-Body
returns-in-Body c = says-end _ _ c.if-kind-ne-TK_SEMI.false _ (ap ends_in c.in-Body.is)

pub returns-in-Semi : goal.returns-in-Semi
returns-in-Semi c = says-end _ _ c.if-kind-ne-TK_SEMI.false _ (ap ends_in c.in-Semi.is)

pub returns-in_default : goal.returns-in_default
returns-in_default c = says-end _ _ c.if-kind-ne-TK_SEMI.false _ (ends-others c.args.seen c.in_default.not-Body c.in_default.not-Semi)
