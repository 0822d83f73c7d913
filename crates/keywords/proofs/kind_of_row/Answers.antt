-- `keywords::kind_of_row` meets its contract: a row of too many bytes, or one that begins with no letter from A to Z, is no word's; any
-- other can only be that of a word of its group. Assumes nothing.
use Prim.Native.Nat.{◌-◌}
use native.Mathlib.Omega.{arith}
use mathlib.Core.Path.{sym, ◌∙◌}
use lib.ListN.{get_or}
use Rattle.keywords.proofs.RowLaws.{left_out, below-letters, above-letters}
use Rattle.keywords.proofs.StoredLaws.{group-decides}
use Rattle.keywords.proofs.kind_of_row.Goals as goal
use Rattle.keywords.proofs.kind_of_row.Goals.{then-first-lt65-via-then-first-lt65, then-first-lt65-via-else-first-lt65+then-first-gt90}

pub returns-then-n-gt17 : goal.returns-then-n-gt17
returns-then-n-gt17 c = sym (left_out c.args.n c.args.row c.if-n-gt17.true)

pub returns-then-first-lt65 : goal.returns-then-first-lt65
returns-then-first-lt65 c =
    let a = c.args in
    sym
    (elim c.then-first-lt65.branch [
      | then-first-lt65-via-then-first-lt65 w ↦ below-letters a.n a.row w.if-first-lt65.true
      | then-first-lt65-via-else-first-lt65+then-first-gt90 w ↦ above-letters a.n a.row w.if-first-gt90.true
    ])

pub returns : goal.returns
returns c =
    let a = c.args in
    c.find.ensures ∙ rw c.from.ensures (sym (group-decides a.n (get_or a.row 0 0 - 65) a.row (omega arith) (omega arith)))
