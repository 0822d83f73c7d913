-- `pairs::reading::group` and `pairs::reading::items`, which call each other, meet their contracts. Assumes nothing.
use native.Mathlib.Nat.{le_refl, not-le_of_lt}
use native.Mathlib.Omega.{arith}
use borrow.Author.Rules.{rules}
use Rattle.std.proofs.lemmas.Result.{err_from_is_err_and}
use Rattle.brackets.specs.Brackets.{is_opener, is_closer}
use Rattle.brackets.specs.Numbers.{kinds_of}
use Rattle.brackets.proofs.NumberLaws.{records-count, index-inside, index-past}
use Rattle.pairs.proofs.StepLaws.{told}
use Rattle.pairs.proofs.ReadLaws.{none_read, then-plain, then-group, group-too-deep, group-faulty, group-upto}
use Rattle.pairs.proofs.reading.+group_items.Goals as goal

pub group-returns-then-depth-eq-LEVELS : goal.group-returns-then-depth-eq-LEVELS
group-returns-then-depth-eq-LEVELS t c =
    let a = c.args in
    (group-too-deep (kinds_of a.numbers.now) a.from a.depth a.deepest c.requires.1.0 c.requires.1.1 c.if-depth-eq-LEVELS.true, tt)

pub group-overflow_add-from : goal.group-overflow_add-from
group-overflow_add-from t c = let e = records-count c.args.numbers.now c.requires.0 in search rules

pub group-returns-in_err-inner : goal.group-returns-in_err-inner
group-returns-in_err-inner t c =
    let a = c.args in
    let (e, is, same) = err_from_is_err_and c.from_residual.result c.from_residual.ensures.1 in
    rw (is, same)
    (group-faulty (kinds_of a.numbers.now) a.from a.depth a.deepest c.requires.1.0 c.requires.1.1
    (omega (arith, c.requires.2, c.if-depth-eq-LEVELS.false)) c.max.result _ (c.max.ensures, c.in_err-inner.ensures.0, c.in_err-inner.ensures.1))

pub group-returns : goal.group-returns
group-returns t c =
    let a = c.args in
    group-upto (kinds_of a.numbers.now) a.from a.depth a.deepest c.requires.1.0 c.requires.1.1
    (omega (arith, c.requires.2, c.if-depth-eq-LEVELS.false)) c.max.result _ _ (c.max.ensures, c.in_ok-inner.ensures.0, c.in_ok-inner.ensures.1)
    c.close.result c.close.ensures

pub items-loop-read-init : goal.items-loop-read-init
items-loop-read-init t c =
    let a = c.args in
    (le_refl _, c.requires.1, none_read (kinds_of a.numbers.now) a.from a.depth a.deepest)

pub items-overflow_mul-read : goal.items-overflow_mul-read
items-overflow_mul-read t c = let e = records-count c.args.numbers.now c.requires.0 in search rules

pub items-kind_at-kind-requires : goal.items-kind_at-kind-requires
items-kind_at-kind-requires t c = index-inside c.args.numbers.now c.loop-read.read.at c.requires.0 c.loop-read-test.true

pub items-returns-in_err-read : goal.items-returns-in_err-read
items-returns-in_err-read t c =
    let a = c.args in
    let l = c.loop-read in
    let (e, is, same) = err_from_is_err_and c.from_residual.result c.from_residual.ensures.1 in
    rw (is, same)
    (then-group (kinds_of a.numbers.now) a.from a.depth a.deepest l.read.at l.read.deepest _ l.invariant.2 c.in_err-read.ensures.0, tt)

pub items-loop-read-preserved-then-is_opener : goal.items-loop-read-preserved-then-is_opener
items-loop-read-preserved-then-is_opener t c =
    let a = c.args in
    let l = c.loop-read in
    let ends = c.in_ok-read.ensures.1 in (
      omega (arith, l.invariant.0, ends.0),
      ends.1,
      then-group (kinds_of a.numbers.now) a.from a.depth a.deepest l.read.at l.read.deepest _ l.invariant.2 c.in_ok-read.ensures.0,
    )

pub items-loop-read-smaller : goal.items-loop-read-smaller
items-loop-read-smaller t c =
    let h = index-inside c.args.numbers.now c.loop-read.read.at c.requires.0 c.loop-read-test.true in
    omega (arith, h)

pub items-loop-read-preserved : goal.items-loop-read-preserved
items-loop-read-preserved t c =
    let a = c.args in
    let l = c.loop-read in
    let h = index-inside a.numbers.now l.read.at c.requires.0 c.loop-read-test.true in (
      omega (arith, l.invariant.0),
      omega (arith, h),
      then-plain (kinds_of a.numbers.now) a.from a.depth a.deepest l.read.at l.read.deepest h
          (told is_opener _ _ _ _ c.kind_at-kind.ensures c.is_opener.ensures c.if-is_opener.false)
          (told is_closer _ _ _ _ c.kind_at-kind.ensures c.is_closer.ensures c.if-is_closer.false) l.invariant.2,
    )

pub items-returns-after-loop-read : goal.items-returns-after-loop-read
items-returns-after-loop-read t c =
    let l = c.loop-read in
    (l.invariant.2, (l.invariant.0, l.invariant.1, λ h. absurd (not-le_of_lt h (index-past c.args.numbers.now l.read.at c.requires.0 c.loop-read-test.false))))
