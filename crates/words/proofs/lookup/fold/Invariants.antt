-- `words::lookup::fold` meets its contract. The loop's invariant: the row holds the first i bytes, folded. Assumes nothing.
use mathlib.Core.Path.{◌≡◌}
use lib.ListN.{take}
use Rattle.keywords.specs.Rows.{row_of}
use Rattle.words.specs.Word.{fold}
use Rattle.words.proofs.lookup.fold.Given as goal

abbrev pub invariant-loop-i : goal.invariant-loop-i
invariant-loop-i l = l.row ≡ row_of 17 (take l.i (fold l.word))
