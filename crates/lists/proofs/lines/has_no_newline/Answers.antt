-- `lists::lines::has_no_newline` meets its contract. Assumes nothing.
use borrow.Author.Tests.{lt-ltb, le-ltb, ne_eqb}
use Rattle.lists.proofs.lines.has_no_newline.Goals as goal

pub returns-then-kind-gt-TK_ID : goal.returns-then-kind-gt-TK_ID
returns-then-kind-gt-TK_ID c = rw (lt-ltb _ _ c.if-kind-gt-TK_ID.true)

pub returns-then-kind-eq-TK_ID : goal.returns-then-kind-eq-TK_ID
returns-then-kind-eq-TK_ID c = rw c.if-kind-eq-TK_ID.true

pub returns : goal.returns
returns c = rw (le-ltb _ _ c.if-kind-gt-TK_ID.false, ne_eqb _ _ c.if-kind-eq-TK_ID.false)
