-- `pairs::pair` meets its contract. Assumes nothing.
use Prim.Native.Nat.{◌≤◌}
use native.Mathlib.Omega.{arith}
use mathlib.Core.Path.{sym}
use lib.ListN.{length}
use Rattle.std.proofs.lemmas.Result.{err_from_is_err_and}
use Rattle.brackets.specs.Numbers.{kinds_of, most_records}
use Rattle.pairs.proofs.WriteLaws.{sound-whole, whole-written}
use Rattle.pairs.proofs.PairLaws.{not-records, are-records, count, too_long, no_room, faulty, paired}
use Rattle.pairs.proofs.pair.Goals as goal

pub returns-then-numbers-ne0 : goal.returns-then-numbers-ne0
returns-then-numbers-ne0 c = not-records c.args.numbers.now c.args.partners.now c.if-numbers-ne0.true

pub returns-then-count-gt-MOST_RECORDS : goal.returns-then-count-gt-MOST_RECORDS
returns-then-count-gt-MOST_RECORDS c = too_long c.args.numbers.now c.args.partners.now c.if-numbers-ne0.false c.if-count-gt-MOST_RECORDS.true

pub returns-then-partners-count : goal.returns-then-partners-count
returns-then-partners-count c =
    no_room c.args.numbers.now c.args.partners.now c.if-numbers-ne0.false c.if-count-gt-MOST_RECORDS.false c.if-partners-count.true

pub returns-in_err-deepest : goal.returns-in_err-deepest
returns-in_err-deepest c =
    let (e, is, same) = err_from_is_err_and c.from_residual.result c.from_residual.ensures.1 in
    rw (is, same)
    (faulty c.args.numbers.now c.args.partners.now c.if-numbers-ne0.false c.if-count-gt-MOST_RECORDS.false c.if-partners-count.false _ c.in_err-deepest.ensures)

pub write_items-requires : goal.write_items-requires
write_items-requires c =
    let a = c.args in
    let five = c.if-numbers-ne0.false in
    let e = count a.numbers.now a.partners.now five in
    let room : length (kinds_of a.numbers.now) ≤ length a.partners.now = omega (arith, e, c.if-partners-count.false) in
    let few : length (kinds_of a.numbers.now) ≤ most_records = omega (arith, e, c.if-count-gt-MOST_RECORDS.false) in
    let sound = sound-whole (kinds_of a.numbers.now) a.partners.now c.in_ok-deepest.deepest (sym (c.in_ok-deepest.ensures)) in
    (are-records a.numbers.now a.partners.now five, (room, few, omega arith, sound), omega arith)

pub returns : goal.returns
returns c =
    let a = c.args in
    let w = c.write_items in
    paired a.numbers.now a.partners.now c.if-numbers-ne0.false c.if-count-gt-MOST_RECORDS.false c.if-partners-count.false
    c.in_ok-deepest.deepest w.new.partners (c.in_ok-deepest.ensures)
    (whole-written (kinds_of a.numbers.now) a.partners.now w.result w.new.partners w.ensures.0 w.ensures.1 w.ensures.2)
