-- `keywords::same_row` meets its contract. Both loops' invariant: what is left of the rows decides. Assumes nothing.
use Prim.Native.Nat.{ℕ, ◌+◌, ◌≤◌, ◌<◌}
use native.Mathlib.Omega.{arith}
use mathlib.Core.Bool.{false}
use mathlib.Core.List.{List}
use mathlib.Core.Path.{◌≡◌, sym, ◌∙◌}
use lib.ListN.{length, get_or, drop}
use Rattle.keywords.specs.Words.{same}
use Rattle.keywords.specs.Stored.{letter_at}
use Rattle.keywords.proofs.SameLaws.{same_step, same_stop, same_end}
use Rattle.keywords.proofs.PlaceLaws.{row-of-17, row-letter, row-dot}
use Rattle.keywords.proofs.same_row.Invariants.{row_at}
use Rattle.keywords.proofs.same_row.Goals as goal
use Rattle.keywords.proofs.same_row.Goals.{Start}

-- both rows, from the function's entry on
module _ (s : Start) where
  abbrev row : List ℕ
  row = s.args.row.now

  abbrev other : List ℕ
  other = row_at s.args.n s.args.p

  full : length other ≡ 17
  full = row-of-17 s.args.n s.args.p s.requires.n_bound s.requires.n_bound_2

  letter : (i : ℕ) → i < s.args.n → get_or other i 0 ≡ letter_at (s.args.p + i)
  letter = row-letter s.args.n s.args.p s.requires.n_bound s.requires.n_bound_2

  dot : (i : ℕ) → i < 17 → s.args.n ≤ i → get_or other i 0 ≡ 46
  dot = row-dot s.args.n s.args.p s.requires.n_bound s.requires.n_bound_2

  stops : (i : ℕ) → i < 17 → (get_or row i 0 ≡ get_or other i 0 → ⊥) → same (drop i row) (drop i other) ≡ false
  stops = same_stop 17 row other s.requires.row_len full

  steps : (i : ℕ) → i < 17 → get_or row i 0 ≡ get_or other i 0 → same (drop i row) (drop i other) ≡ same (drop (i + 1) row) (drop (i + 1) other)
  steps = same_step 17 row other s.requires.row_len full

pub returns-then-row-i : goal.returns-then-row-i
returns-then-row-i c =
    let s = (goal.at.returns-then-row-i c).Start in
    let l = c.loop-i in
    sym (l.invariant ∙ stops s l.i (omega arith) (λ q. c.if-row-i.true (q ∙ letter s l.i (omega arith) ∙ sym c.letter_at.ensures)))

pub loop-i-preserved : goal.loop-i-preserved
loop-i-preserved c =
    let s = (goal.at.loop-i-preserved c).Start in
    let l = c.loop-i in
    l.invariant ∙ steps s l.i (omega arith) (c.if-row-i.false ∙ c.letter_at.ensures ∙ sym (letter s l.i (omega arith)))

pub returns-then-row-i-ne46 : goal.returns-then-row-i-ne46
returns-then-row-i-ne46 c =
    let s = (goal.at.returns-then-row-i-ne46 c).Start in
    let l = c.loop-i-2 in
    sym (l.invariant ∙ stops s l.i (omega arith) (λ q. c.if-row-i-ne46.true (q ∙ dot s l.i (omega arith) (omega arith))))

pub loop-i-2-preserved : goal.loop-i-2-preserved
loop-i-2-preserved c =
    let s = (goal.at.loop-i-2-preserved c).Start in
    let l = c.loop-i-2 in
    l.invariant ∙ steps s l.i (omega arith) (c.if-row-i-ne46.false ∙ sym (dot s l.i (omega arith) (omega arith)))

pub returns : goal.returns
returns c =
    let s = (goal.at.returns c).Start in
    let l = c.loop-i-2 in
    sym (l.invariant ∙ same_end 17 s.args.row.now _ s.requires.row_len (full s) l.i (omega arith))
