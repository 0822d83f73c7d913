-- Slices of one list: calls with an allowance and a list each, the first from a place, every other from where the one before was paused.
-- Assumes nothing.
use Rattle.std.specs.Prelude.{ℕ, ◌+◌, ◌≡◌, cond, List, [], ◌∷◌, ◌++◌, take}
use Rattle.grammar.specs.Longest.{Source}
use Rattle.records.specs.declared.Record.{Record}
use Rattle.records.specs.Records.{read_back}
use Rattle.walks.specs.Walk.{not_none}
use Rattle.lists.specs.Lists.{list_full}
use Rattle.lists.specs.Parts.{PartAnswer, given, paused_at, Parting}

-- a call, with what it was given and what it gave
pub record Slice : Type 0 where
  pub allowance : ℕ
  pub lent : List ℕ
  pub answer : PartAnswer
  pub records : ℕ
  pub spent : ℕ
  pub left : List ℕ

abbrev pub From : Source → ℕ → Slice → Type 0
From s from c = Parting s from c.allowance c.lent c.answer c.records c.spent c.left

-- these, and behind them the last
unfoldable pub Sliced : Source → ℕ → List Slice → Slice → Type 0
Sliced s from [] last = From s from last
Sliced s from (c ∷ l) last = From s from c × (to : ℕ) × (c.answer ≡ paused_at to) × Sliced s to l last

-- a number of each, in all
unfoldable pub total : (Slice → ℕ) → List Slice → Slice → ℕ
total f [] last = f last
total f (c ∷ l) last = f c + total f l last

-- the records that a list begins with
abbrev pub read_first : ℕ → List ℕ → List Record
read_first n l = take n (read_back l)

-- those of all slices, one behind the other
unfoldable pub read_all : List Slice → Slice → List Record
read_all [] last = read_first last.records last.left
read_all (c ∷ l) last = read_first c.records c.left ++ read_all l last

-- a list ran full
abbrev pub Full : PartAnswer → Type 0
Full a = (at : ℕ) × (a ≡ given (list_full at))

-- records whose kind is not TK_NONE
unfoldable pub without_none : List Record → List Record
without_none [] = []
without_none (r ∷ l) = cond (not_none r.kind) (r ∷ without_none l) (without_none l)
