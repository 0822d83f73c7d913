-- `intake::taking::take_in` meets its contract. Assumes nothing.
use Prim.Native.Nat.{ℕ, ◌+◌, ◌≤◌, ◌<◌}
use native.Mathlib.Omega.{arith}
use mathlib.Core.Path.{◌≡◌, refl, sym, ◌∙◌, ap, subst}
use mathlib.Core.Bool.{Bool, true, false}
use mathlib.Core.List.{List}
use lib.ListN.{length}
use Rattle.intake.specs.Takes.{is_ready, is_wanted, filled}
use Rattle.intake.proofs.TakeLaws.{wanted, unready-room, turn-fits, turned, fits, filling-length, starts, took, held-short}
use Rattle.intake.proofs.taking.take_in.Goals as goal
use Rattle.intake.proofs.taking.take_in.Goals.{At-loop-stream}

-- what is known at the loop's head
abbrev Head : Type 0
Head = At-loop-stream

abbrev row₀ : Head → List ℕ
row₀ l = l.bring-held.new.row

abbrev part₀ : Head → List ℕ
part₀ l = l.args.part.now

same : (l : Head) → length l.loop-stream.row ≡ length (row₀ l)
same l = fits _ _ _ _ _ _ _ _ _ _ _ l.loop-stream.invariant.1 l.loop-stream.invariant.0

-- the loop's test, of the row as it was
abbrev test : Head → ℕ → Bool
test l full = let at = l.loop-stream.at in is_wanted full at.reading at.read at.held at.taken (length (part₀ l))

tested : (l : Head) (t v : Bool) → t ≡ test l (length l.loop-stream.row) → t ≡ v → test l (length (row₀ l)) ≡ v
tested l t v e f = subst (λ (full : ℕ). test l full ≡ v) (same l) (sym e ∙ f)

-- a turn stays inside
turn : (l : Head) → test l (length (row₀ l)) ≡ true
    → (l.loop-stream.at.read < length (row₀ l)) × (l.loop-stream.at.held + filled l.loop-stream.at.read l.loop-stream.at.held ≤ length (row₀ l)) ×
    (l.loop-stream.at.taken + filled l.loop-stream.at.read l.loop-stream.at.held ≤ length (part₀ l))
turn l k = turn-fits _ _ _ _ _ _ _ _ _ _ _ l.loop-stream.invariant.1 k refl l.loop-stream.invariant.0

pub loop-stream-init : goal.loop-stream-init
loop-stream-init c =
    let a = c.args in
    let (long, row) = c.bring-held.ensures in
    let start = c.read_so_far.ensures in
    (held-short a.stream a.row.now a.part.now _ _ _ row long start, starts a.stream a.row.now a.part.now _ _ _ row long start)

pub fill-requires : goal.fill-requires
fill-requires c =
    let l = (goal.at.fill-requires c).At-loop-stream in
    let k = tested l _ true c.is_wanted.ensures c.loop-stream-test.true in
    λ m.
    let (d, t) = wanted _ _ _ _ _ _ l.loop-stream.invariant.1 k m in
    let o = unready-room (length (row₀ l)) l.loop-stream.at.reading l.loop-stream.at.held d in
    (omega (arith, o, same l), t)

pub bounds-row-at : goal.bounds-row-at
bounds-row-at c =
    let l = (goal.at.bounds-row-at c).At-loop-stream in
    let at = l.loop-stream.at in
    let k = tested l _ true c.is_wanted.ensures c.loop-stream-test.true in
    let (a, b, t) = turn l k in
    omega (arith, a, same l, ap length c.fill.ensures.row, c.fill.ensures.kept.1, filling-length l.loop-stream.row at.read at.held (part₀ l) at.taken)

pub overflow_add-at : goal.overflow_add-at
overflow_add-at c =
    let l = (goal.at.overflow_add-at c).At-loop-stream in
    let k = tested l _ true c.is_wanted.ensures c.loop-stream-test.true in
    let (a, b, t) = turn l k in
    record { fits = omega (arith, a, c.fill.ensures.kept.1, same l, l.well_formed.1.0.0) }

pub loop-stream-smaller : goal.loop-stream-smaller
loop-stream-smaller c =
    let l = (goal.at.loop-stream-smaller c).At-loop-stream in
    let k = tested l _ true c.is_wanted.ensures c.loop-stream-test.true in
    let (a, b, t) = turn l k in
    omega (arith, a, c.fill.ensures.kept.1)

pub loop-stream-preserved : goal.loop-stream-preserved
loop-stream-preserved c =
    let l = (goal.at.loop-stream-preserved c).At-loop-stream in
    let k = tested l _ true c.is_wanted.ensures c.loop-stream-test.true in
    let (a, b, t) = turn l k in
    let fill = c.fill.ensures in (
      omega (arith, b, fill.held),
      turned _ _ _ _ _ _ _ _ _ _ _ l.loop-stream.invariant.1 k refl _ _ _ _ _ _ fill.kept.0 fill.kept.1 fill.held fill.taken fill.row c.step-at.ensures,
    )

pub returns : goal.returns
returns c =
    let l = (goal.at.returns c).At-loop-stream in
    let a = c.args in
    let (long, row) = c.bring-held.ensures in
    let start = c.read_so_far.ensures in
    let k = tested l _ false c.is_wanted.ensures c.loop-stream-test.false in
    let o = c.is_ready.ensures ∙ ap (λ (m : ℕ). is_ready m l.loop-stream.at.reading l.loop-stream.at.held) (same l) in
    took a.stream a.row.now a.part.now _ _ _ row long start _ _ _ _ _ _ l.loop-stream.invariant.1 k o
