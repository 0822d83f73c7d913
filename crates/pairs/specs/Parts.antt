-- For private functions: a part of a list, items or a group, with brackets open around it. Assumes nothing.
use Rattle.std.specs.Prelude.{ℕ, ◌+◌, ◌≤◌, ◌<◌, ◌≡◌, true, cond, List, eqb, length, get_or, drop, Result, Ok, Err}
use Rattle.brackets.specs.Brackets.{is_opener, is_closer, closer_of, Open, Outcome, deepest, nesting, partners}
use Rattle.brackets.specs.Numbers.{most_records}
use Rattle.pairs.specs.declared.PairError.{PairError}
use Rattle.pairs.specs.declared.PairError.TheVariants.{WrongCloser, LeftOpen}
use Rattle.pairs.specs.declared.reading.Upto.{Upto}
use Rattle.pairs.specs.Pairs.{refusal_of}

-- what reading a part gives: where it ends and the deepest nesting up to there, or the first fault
abbrev pub Part : Type 0
Part = Result Upto PairError

abbrev pub upto : ℕ → ℕ → Upto
upto at d = record { at = at; deepest = d }

-- the two walks from an index on
abbrev pub nesting_from : List ℕ → ℕ → Open → ℕ → Outcome
nesting_from ks i os d = nesting (drop i ks) i os d

abbrev pub partners_from : List ℕ → ℕ → Open → List ℕ → List ℕ
partners_from ks i os ps = partners (drop i ks) i os ps

-- an opener stands at an index
abbrev pub OpenerAt : List ℕ → ℕ → Type 0
OpenerAt ks i = (i < length ks) × (is_opener (get_or ks i 0) ≡ true)

-- what comes of a list whose part is read: what comes of the rest, or the fault
abbrev pub goes_on : List ℕ → Open → Part → Outcome
goes_on ks os (Ok p) = nesting_from ks p.at os p.deepest
goes_on ks os (Err e) = refusal_of e

-- a part was read from `from` on, within as many brackets as `depth` says, whichever they are
unfoldable pub Reads : List ℕ → ℕ → ℕ → ℕ → Part → Type 0
Reads ks from depth d r = (os : Open) → length os ≡ depth → nesting_from ks from os d ≡ goes_on ks os r

-- items end at the list's end, or at a closer that is none of theirs
abbrev pub Stops : List ℕ → ℕ → ℕ → Type 0
Stops ks from at = (from ≤ at) × (at ≤ length ks) × (at < length ks → is_closer (get_or ks at 0) ≡ true)

abbrev pub ItemsEnd : List ℕ → ℕ → Part → Type 0
ItemsEnd ks from (Ok p) = Stops ks from p.at
ItemsEnd ks from (Err e) = Unit {0}

-- a group ends behind its opener
abbrev pub Behind : List ℕ → ℕ → ℕ → Type 0
Behind ks from at = (from < at) × (at ≤ length ks)

abbrev pub GroupEnd : List ℕ → ℕ → Part → Type 0
GroupEnd ks from (Ok p) = Behind ks from p.at
GroupEnd ks from (Err e) = Unit {0}

-- a list without a fault, within as many brackets as `depth` says: of some such brackets nothing from `from` on is refused
unfoldable pub Sound : List ℕ → ℕ → ℕ → Type 0
Sound ks from depth = (os : Open) × (d : ℕ) × (most : ℕ) × (length os ≡ depth) × (nesting_from ks from os d ≡ deepest most)

-- the partners of a part were written, and the list of numbers ps became qs
unfoldable pub Writes : List ℕ → ℕ → ℕ → List ℕ → ℕ → List ℕ → Type 0
Writes ks from depth ps at qs = (os : Open) → length os ≡ depth → partners_from ks from os ps ≡ partners_from ks at os qs

-- a group whose items were read up to `at`
abbrev pub closed : List ℕ → ℕ → ℕ → ℕ → Part
closed ks from at d =
    cond (eqb at (length ks)) (Err (LeftOpen from))
    (cond (eqb (get_or ks at 0) (closer_of (get_or ks from 0))) (Ok (upto (at + 1) d)) (Err (WrongCloser at)))

-- for `writing`: each record's partner has room and fits a number of 32 bits, and from an index of the list on there is no fault
abbrev pub Ready : List ℕ → ℕ → ℕ → List ℕ → Type 0
Ready ks from depth ps = (length ks ≤ length ps) × (length ks ≤ most_records) × (from ≤ length ks) × Sound ks from depth

abbrev pub WroteItems : List ℕ → ℕ → ℕ → List ℕ → ℕ → List ℕ → Type 0
WroteItems ks from depth ps at qs = Writes ks from depth ps at qs × Stops ks from at × Sound ks at depth

abbrev pub WroteGroup : List ℕ → ℕ → ℕ → List ℕ → ℕ → List ℕ → Type 0
WroteGroup ks from depth ps at qs = Writes ks from depth ps at qs × Behind ks from at × Sound ks at depth
