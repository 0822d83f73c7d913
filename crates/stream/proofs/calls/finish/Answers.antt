-- `stream::calls::finish` meets its contract. Assumes nothing.
use mathlib.Core.Path.{◌≡◌, refl, ap}
use Rattle.stream.proofs.CallLaws.{finished-closed, finished-lexed, not-closed, refuses}
use Rattle.std.proofs.Common.{rules}
use Rattle.stream.specs.Calls.{is_closed, last_end}
use Rattle.stream.specs.declared.stream.Answer.TheVariants.{Closed}
use Rattle.stream.proofs.calls.finish.Goals as goal

pub returns-in-Closed : goal.returns-in-Closed
returns-in-Closed c =
    let a = c.args in
    let told : c.refuse.result.answer ≡ Closed (last_end a.stream) = search rules in
    finished-closed a.stream a.row.now _ (ap is_closed c.in-Closed.is)
    (refuses _ _ "Closed" _ _ refl c.refuse.ensures.left c.refuse.ensures.taken told)

pub returns : goal.returns
returns c =
    let a = c.args in
    let (long, row) = c.bring-held.ensures in
    let still = not-closed _ c.in_default.not-Closed in
    finished-lexed a.stream a.row.now _ _ _ long row c.end.ensures _ still c.answer.ensures
