-- `pairs::reading::nested` meets its contract. Assumes nothing.
use mathlib.Core.Path.{◌∙◌, ap}
use native.Mathlib.Omega.{arith}
use borrow.Author.Rules.{rules}
use Rattle.std.proofs.lemmas.Result.{err_from_is_err_and}
use Rattle.brackets.specs.Numbers.{kinds_of}
use Rattle.brackets.proofs.NumberLaws.{records-count, index-inside, index-past}
use Rattle.pairs.specs.Pairs.{refusal_of, outcome_of}
use Rattle.pairs.proofs.ReadLaws.{all_read, closer-left, all-faulty}
use Rattle.pairs.proofs.reading.nested.Goals as goal

pub returns-in_err-all : goal.returns-in_err-all
returns-in_err-all c =
    let (e, is, same) = err_from_is_err_and c.from_residual.result c.from_residual.ensures.1 in
    ap outcome_of is ∙ ap refusal_of same ∙ all-faulty (kinds_of c.args.numbers.now) _ c.in_err-all.ensures.0

pub overflow_mul-all : goal.overflow_mul-all
overflow_mul-all c =
    let e = records-count c.args.numbers.now c.requires in
    let ends = c.in_ok-all.ensures.1 in
    search rules

pub returns-then-all-numbers : goal.returns-then-all-numbers
returns-then-all-numbers c =
    let ns = c.args.numbers.now in
    let ends = c.in_ok-all.ensures.1 in
    closer-left (kinds_of ns) _ _ (index-inside ns _ c.requires c.if-all-numbers.true) ends c.in_ok-all.ensures.0

pub returns : goal.returns
returns c =
    let ns = c.args.numbers.now in
    let past = index-past ns _ c.requires c.if-all-numbers.false in
    all_read (kinds_of ns) _ _ (omega (arith, past, c.in_ok-all.ensures.1.1)) c.in_ok-all.ensures.0
