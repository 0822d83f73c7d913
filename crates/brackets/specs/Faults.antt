-- What a refusal's index says, for theorems: `fault-first` says that the record is the first at fault, `left-open-last` that the opener is
-- the last one that is not closed. Assumes nothing.
use Rattle.std.specs.Prelude.{ℕ, suc, ◌≤◌, ◌<◌, ◌≡◌, Bool, true, List, [], eqb, length, take, drop}
use Rattle.brackets.specs.Refusals.{pair_refusal}
use Rattle.brackets.specs.Brackets.{is_opener, Outcome, deepest, refused, nesting}
use Rattle.brackets.specs.Pairings.{at}

-- no record is at fault: the list is paired, or something is left open at its end
abbrev pub faultless : Outcome → Bool
faultless (deepest d) = true
faultless (refused number index) = eqb number (pair_refusal "LeftOpen")

-- a record at fault, the first: what is behind it plays no part, and the records before it have no fault
pub record FirstFault (ks : List ℕ) (number index : ℕ) : Type 0 where
  pub inside : index < length ks
  pub alone : nesting (take (suc index) ks) 0 [] 0 ≡ refused number index
  pub before : (n : ℕ) → n ≤ index → faultless (nesting (take n ks) 0 [] 0) ≡ true

-- an opener that is not closed, the last: no record is at fault, and those behind it are paired by themselves
pub record LastOpen (ks : List ℕ) (index : ℕ) : Type 0 where
  pub inside : index < length ks
  pub opener : is_opener (at ks index) ≡ true
  pub whole : (n : ℕ) → faultless (nesting (take n ks) 0 [] 0) ≡ true
  pub behind : (d : ℕ) × (nesting (drop (suc index) ks) 0 [] 0 ≡ deepest d)
