-- `strings::reading::undouble` meets its contract: what is not counted is short enough. Assumes nothing.
use native.Mathlib.Omega.{arith}
use mathlib.Core.Bool.{false}
use Rattle.strings.proofs.QuoteLaws.{undoubled-short}
use Rattle.strings.proofs.reading.undouble.Goals as goal
use Rattle.strings.proofs.reading.undouble.Goals.{else-buffer-body-via-then-buffer-body+else-buffer-undoubled_length, else-buffer-body-via-else-buffer-body}

pub put_undoubled-requires : goal.put_undoubled-requires
put_undoubled-requires c =
    elim c.else-buffer-body.branch [
      | else-buffer-body-via-then-buffer-body+else-buffer-undoubled_length w ↦ omega (arith, w.undoubled_length.ensures, w.if-buffer-undoubled_length.false)
      | else-buffer-body-via-else-buffer-body w ↦ omega (arith, w.if-buffer-body.false, undoubled-short c.args.quote false c.args.body.now)
    ]
