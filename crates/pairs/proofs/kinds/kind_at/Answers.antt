-- `pairs::kinds::kind_at` meets its contract. Assumes nothing.
use borrow.Author.Rules.{rules}
use Rattle.brackets.proofs.NumberLaws.{kind-here}
use Rattle.pairs.proofs.kinds.kind_at.Goals as goal

pub overflow_mul-result : goal.overflow_mul-result
overflow_mul-result c = let (inside, kind) = kind-here c.args.numbers.now c.args.index c.requires in search rules

pub offset_bounds-numbers-index : goal.offset_bounds-numbers-index
offset_bounds-numbers-index c = let (inside, kind) = kind-here c.args.numbers.now c.args.index c.requires in search rules

pub bounds-numbers-index : goal.bounds-numbers-index
bounds-numbers-index c = (kind-here c.args.numbers.now c.args.index c.requires).0

pub returns : goal.returns
returns c = (kind-here c.args.numbers.now c.args.index c.requires).1
