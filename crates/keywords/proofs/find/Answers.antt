-- `keywords::find` meets its contract. The loop's invariant: the words of the group from k on decide the kind. Assumes nothing.
use Prim.Native.Nat.{ℕ, ◌+◌, ◌*◌, ◌/◌, ◌≤◌, ◌<◌}
use native.Mathlib.Omega.{arith}
use mathlib.Core.Path.{◌≡◌, sym, ◌∙◌}
use mathlib.Core.Bool.{Bool}
use lib.ListN.{length}
use Rattle.keywords.specs.Words.{same}
use Rattle.keywords.specs.Rows.{row_of}
use Rattle.keywords.specs.Stored.{stored, start_of}
use Rattle.keywords.proofs.StoredLaws.{word_at, word-length, start_small, left-all, left-more, left-found, left-none}
use Rattle.keywords.proofs.PlaceLaws.{Place, place, stored-length}
use Rattle.keywords.proofs.find.Goals as goal
use Rattle.keywords.proofs.find.Goals.{After-same_row, In-loop-k, Start}

-- at word k of the group: where it stands, and that the code compares with its row
module _ (t : In-loop-k) where
  abbrev entry : Start
  entry = t.before.before.before.before

  abbrev x : ℕ
  x = 28 * entry.args.n + entry.args.a

  abbrev k : ℕ
  k = t.loop-k.k

  ends : start_of (x + 1) ≤ length stored
  ends = start_small x (omega arith)

  first : start_of x ≤ k
  first = omega arith

  last : k < start_of (x + 1)
  last = omega arith

  inside : k < 151
  inside = omega (arith, ends, last, stored-length)

  here : Place entry.args.n k
  here =
      let l = word-length x k (omega arith) first last in
      let n : x / 28 ≡ entry.args.n = omega arith in
      place entry.args.n k inside (l ∙ n)

  abbrev comparison : Bool
  comparison = same entry.args.row.now (row_of 17 (word_at k))

compares : (q : After-same_row) → q.same_row.result ≡ comparison q.before.before
compares q = q.same_row.ensures ∙ rw (q.skip.ensures, (here q.before.before).word)

pub loop-k-init : goal.loop-k-init
loop-k-init c = let a = c.args in rw c.start_of-k.ensures (left-all (28 * a.n + a.a) a.row.now (omega arith))

pub overflow_mul-n : goal.overflow_mul-n
overflow_mul-n c = record { fits = omega (arith, (here (goal.at.overflow_mul-n c).In-loop-k).small) }

pub overflow_sub-n : goal.overflow_sub-n
overflow_sub-n c = rw c.skip.ensures (here (goal.at.overflow_sub-n c).In-loop-k).past

pub same_row-requires-clause-n_bound_2 : goal.same_row-requires-clause-n_bound_2
same_row-requires-clause-n_bound_2 c = rw c.skip.ensures (here (goal.at.same_row-requires-clause-n_bound_2 c).In-loop-k).inside

pub kind_at-requires : goal.kind_at-requires
kind_at-requires c = inside (goal.at.kind_at-requires c).In-loop-k

pub returns-then-same_row : goal.returns-then-same_row
returns-then-same_row c =
    let q = (goal.at.returns-then-same_row c).After-same_row in
    let t = q.before.before in
    let r = (entry t).args.row.now in
    c.kind_at.ensures ∙ sym (left-found (x t) r (k t) _ (last t) (ends t) _ (compares q) c.if-same_row.true t.before.loop-k.invariant)

pub loop-k-preserved : goal.loop-k-preserved
loop-k-preserved c =
    let q = (goal.at.loop-k-preserved c).After-same_row in
    let t = q.before.before in
    let r = (entry t).args.row.now in
    left-more (x t) r (k t) _ (last t) (ends t) _ (compares q) c.if-same_row.false t.before.loop-k.invariant

pub returns : goal.returns
returns c =
    let s = (goal.at.returns c).Start in
    sym (left-none (28 * s.args.n + s.args.a) s.args.row.now c.loop-k.k _ (omega arith) c.loop-k.invariant)
