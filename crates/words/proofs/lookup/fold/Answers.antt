-- `words::lookup::fold` meets its contract. The loop's invariant: the row holds the first i bytes, folded. Assumes nothing.
use native.Mathlib.Omega.{arith}
use mathlib.Core.Path.{◌∙◌}
use Rattle.words.proofs.FoldLaws.{upper_is, row_more, row-whole}
use Rattle.words.proofs.lookup.fold.Goals as goal

pub loop-i-preserved : goal.loop-i-preserved
loop-i-preserved c =
    let l = c.loop-i in
    let w = c.args.word.now in
    rw l.invariant (row_more w l.i _ (omega (arith, c.requires)) (omega arith) (upper_is _ _ c.to_ascii_uppercase.ensures.value))

pub returns : goal.returns
returns c = c.loop-i.invariant ∙ row-whole c.args.word.now c.loop-i.i (omega arith)
