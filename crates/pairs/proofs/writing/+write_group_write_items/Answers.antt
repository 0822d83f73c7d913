-- `pairs::writing::write_group` and `pairs::writing::write_items`, which call each other, meet their contracts. Assumes nothing.
use Prim.Native.Nat.{◌<◌}
use native.Mathlib.Nat.{le_refl, not-le_of_lt}
use native.Mathlib.Omega.{arith}
use lib.ListN.{length-set}
use Rattle.brackets.specs.Brackets.{is_opener, is_closer}
use Rattle.brackets.specs.Numbers.{kinds_of}
use Rattle.brackets.proofs.NumberLaws.{index-inside, index-past}
use Rattle.pairs.proofs.StepLaws.{told}
use Rattle.pairs.proofs.WriteLaws.{sound-plain, sound-level, sound-opener, sound_more, sound-closer, none_written, then-own, then-both, group-written}
use Rattle.pairs.proofs.writing.+write_group_write_items.Goals as goal

-- an opener of a list without a fault has a level left, and its items end at its closer
pub write_group-write_items-end-requires : goal.write_group-write_items-end-requires
write_group-write_items-end-requires t c =
    let a = c.args in
    let (l, o) = c.requires.1 in
    let (room, few, here, sound) = c.requires.2 in
    let level : a.depth < 16 = sound-level (kinds_of a.numbers.now) a.from a.depth l o sound c.requires.3 in
    let inner = sound-opener (kinds_of a.numbers.now) a.from a.depth l o level sound in
    (omega (arith, c.decreases, level), (c.requires.0, (room, few, omega (arith, l), inner), omega (arith, level)))

pub write_group-bounds-partners-end : goal.write_group-bounds-partners-end
write_group-bounds-partners-end t c =
    let w = c.write_items-end in
    let h = sound_more (kinds_of c.args.numbers.now) w.result c.args.depth w.ensures.1.1 w.ensures.2 in
    rw length-set (omega (arith, h, w.auto.partners, c.requires.2.0))

pub write_group-returns : goal.write_group-returns
write_group-returns t c =
    let a = c.args in
    let w = c.write_items-end in
    let ks = kinds_of a.numbers.now in
    let h = sound_more ks w.result a.depth w.ensures.1.1 w.ensures.2 in (
      group-written ks a.from a.depth a.partners.now w.result w.new.partners c.requires.1.0 c.requires.1.1 h (w.ensures.1.2 h) w.ensures.0,
      (omega (arith, w.ensures.1.0), omega (arith, h)),
      sound-closer ks w.result a.depth h (w.ensures.1.2 h) w.ensures.2,
    )

pub write_items-loop-at-init : goal.write_items-loop-at-init
write_items-loop-at-init t c =
    let a = c.args in
    (le_refl _, c.requires.1.2, c.requires.1.3, none_written (kinds_of a.numbers.now) a.from a.depth a.partners.now)

pub write_items-kind_at-kind-requires : goal.write_items-kind_at-kind-requires
write_items-kind_at-kind-requires t c = index-inside c.args.numbers.now c.loop-at.at c.requires.0 c.loop-at-test.true

pub write_items-loop-at-preserved-then-is_opener : goal.write_items-loop-at-preserved-then-is_opener
write_items-loop-at-preserved-then-is_opener t c =
    let a = c.args in
    let l = c.loop-at in
    let g = c.write_group-at in (
      omega (arith, l.invariant.0, g.ensures.1.0),
      g.ensures.1.1,
      g.ensures.2,
      then-both (kinds_of a.numbers.now) a.from a.depth a.partners.now l.at l.partners g.result _ l.invariant.3 g.ensures.0,
    )

pub write_items-bounds-partners-at : goal.write_items-bounds-partners-at
write_items-bounds-partners-at t c =
    let h = index-inside c.args.numbers.now c.loop-at.at c.requires.0 c.loop-at-test.true in
    omega (arith, h, c.loop-at.auto.partners, c.requires.1.0)

pub write_items-loop-at-smaller : goal.write_items-loop-at-smaller
write_items-loop-at-smaller t c =
    let h = index-inside c.args.numbers.now c.loop-at.at c.requires.0 c.loop-at-test.true in
    omega (arith, h)

pub write_items-loop-at-preserved : goal.write_items-loop-at-preserved
write_items-loop-at-preserved t c =
    let a = c.args in
    let l = c.loop-at in
    let ks = kinds_of a.numbers.now in
    let h = index-inside a.numbers.now l.at c.requires.0 c.loop-at-test.true in
    let plain = told is_opener _ _ _ _ c.kind_at-kind.ensures c.is_opener.ensures c.if-is_opener.false in
    let no-closer = told is_closer _ _ _ _ c.kind_at-kind.ensures c.is_closer.ensures c.if-is_closer.false in (
      omega (arith, l.invariant.0),
      omega (arith, h),
      sound-plain ks l.at a.depth h plain no-closer l.invariant.2,
      then-own ks a.from a.depth a.partners.now l.at l.partners h plain no-closer l.invariant.3,
    )

pub write_items-returns : goal.write_items-returns
write_items-returns t c =
    let l = c.loop-at in (
      l.invariant.3,
      (l.invariant.0, l.invariant.1, λ h. absurd (not-le_of_lt h (index-past c.args.numbers.now l.at c.requires.0 c.loop-at-test.false))),
      l.invariant.2,
    )
