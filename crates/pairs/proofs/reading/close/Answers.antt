-- `pairs::reading::close` meets its contract. Assumes nothing.
use mathlib.Core.Path.{◌∙◌, ap}
use borrow.Author.Rules.{rules}
use Rattle.brackets.specs.Brackets.{closer_of}
use Rattle.brackets.specs.Numbers.{kinds_of}
use Rattle.brackets.proofs.NumberLaws.{records-count, index-at-end, index-before}
use Rattle.pairs.proofs.ReadLaws.{closed-not, closed-wrong, closed-right}
use Rattle.pairs.proofs.reading.close.Goals as goal

pub overflow_mul-at : goal.overflow_mul-at
overflow_mul-at c = let e = records-count c.args.numbers.now c.requires.0 in search rules

pub returns-then-at-numbers : goal.returns-then-at-numbers
returns-then-at-numbers c =
    let a = c.args in
    closed-not (kinds_of a.numbers.now) a.from a.at a.deepest (index-at-end a.numbers.now a.at c.requires.0 c.if-at-numbers.true)

-- where the items do not end with the list, a record stands
pub kind_at-requires : goal.kind_at-requires
kind_at-requires c = index-before c.args.numbers.now c.args.at c.requires.0 c.requires.2 c.if-at-numbers.false

pub returns-then-kind_at-closer_of : goal.returns-then-kind_at-closer_of
returns-then-kind_at-closer_of c =
    let a = c.args in
    closed-wrong (kinds_of a.numbers.now) a.from a.at a.deepest (index-before a.numbers.now a.at c.requires.0 c.requires.2 c.if-at-numbers.false)
    c.kind_at.result c.closer_of.result c.kind_at.ensures (c.closer_of.ensures ∙ ap closer_of c.kind_at-opener.ensures) c.if-kind_at-closer_of.true

pub overflow_add-result : goal.overflow_add-result
overflow_add-result c = let e = records-count c.args.numbers.now c.requires.0 in search rules

pub returns : goal.returns
returns c =
    let a = c.args in
    closed-right (kinds_of a.numbers.now) a.from a.at a.deepest (index-before a.numbers.now a.at c.requires.0 c.requires.2 c.if-at-numbers.false)
    c.kind_at.result c.closer_of.result c.kind_at.ensures (c.closer_of.ensures ∙ ap closer_of c.kind_at-opener.ensures) c.if-kind_at-closer_of.false
