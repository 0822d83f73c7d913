-- A table of lists with what their pairing gives: examples, which the definitions give (`pair-rows`). Assumes nothing.
use Rattle.std.specs.Prelude.{ℕ, List, [], ◌∷◌, ◌++◌, map, replicate}
use Prim.Native.String.{String}
use Rattle.keywords.specs.Kinds.{kind}
use Rattle.records.specs.Records.{record_of, numbers_of_all}
use Rattle.brackets.specs.Brackets.{Outcome, deepest, refused}

-- numbers, the lent list before the call, the outcome, and the list behind it
pub record PairRow : Type 0 where
  pub numbers : List ℕ
  pub before : List ℕ
  pub outcome : Outcome
  pub after : List ℕ

-- records of these kinds; the pairing looks at nothing else of them
abbrev records : List String → List ℕ
records names = numbers_of_all (map (λ n. record_of (kind n) 7 7 7 7) names)

abbrev paired : List String → List ℕ → ℕ → List ℕ → PairRow
paired names before d after = record { numbers = records names; before = before; outcome = deepest d; after = after }

-- a refusal leaves the list as it was
abbrev refuses : List ℕ → List ℕ → ℕ → ℕ → PairRow
refuses ns before number index = record { numbers = ns; before = before; outcome = refused number index; after = before }

abbrev wrong : List String → ℕ → ℕ → PairRow
wrong names number index = refuses (records names) (replicate 40 8) number index

abbrev deep : ℕ → List String
deep n = replicate n "TK_LP"

unfoldable pub rows : List PairRow
rows =
    -- nothing to pair; a record without a partner is its own
    paired [] [] 0 [] ∷
    paired [] (8 ∷ []) 0 (8 ∷ []) ∷
    paired ("TK_ID" ∷ []) (8 ∷ 8 ∷ []) 0 (0 ∷ 8 ∷ []) ∷
    -- one group, two side by side, one in the other
    paired ("TK_LP" ∷ "TK_RP" ∷ []) (8 ∷ 8 ∷ 8 ∷ []) 1 (1 ∷ 0 ∷ 8 ∷ []) ∷
    paired ("TK_LP" ∷ "TK_RP" ∷ "TK_LBRACKET" ∷ "TK_RBRACKET" ∷ []) (8 ∷ 8 ∷ 8 ∷ 8 ∷ []) 1 (1 ∷ 0 ∷ 3 ∷ 2 ∷ []) ∷
    paired ("TK_LP" ∷ "TK_ID" ∷ "TK_LBRACKET" ∷ "TK_RBRACKET" ∷ "TK_RP" ∷ []) (8 ∷ 8 ∷ 8 ∷ 8 ∷ 8 ∷ []) 2 (4 ∷ 1 ∷ 3 ∷ 2 ∷ 0 ∷ []) ∷
    -- sixteen levels pass, 17 don't
    paired (deep 16 ++ replicate 16 "TK_RP") (replicate 33 40) 16
    (31 ∷ 30 ∷ 29 ∷ 28 ∷ 27 ∷ 26 ∷ 25 ∷ 24 ∷ 23 ∷ 22 ∷ 21 ∷ 20 ∷ 19 ∷ 18 ∷ 17 ∷ 16 ∷
    15 ∷ 14 ∷ 13 ∷ 12 ∷ 11 ∷ 10 ∷ 9 ∷ 8 ∷ 7 ∷ 6 ∷ 5 ∷ 4 ∷ 3 ∷ 2 ∷ 1 ∷ 0 ∷ 40 ∷ []) ∷
    wrong (deep 17 ++ replicate 17 "TK_RP") 18 16 ∷
    -- a closer of the wrong kind, and one with nothing open
    wrong ("TK_LP" ∷ "TK_RBRACKET" ∷ []) 19 1 ∷
    wrong ("TK_ID" ∷ "TK_RP" ∷ "TK_LP" ∷ []) 19 1 ∷
    -- whichever record comes first
    wrong (deep 16 ++ "TK_RBRACKET" ∷ "TK_LP" ∷ []) 19 16 ∷
    wrong (deep 17 ++ "TK_RBRACKET" ∷ []) 18 16 ∷
    -- the innermost of those left open, at the end; a fault before it is reported instead
    wrong ("TK_LP" ∷ "TK_LP" ∷ "TK_RP" ∷ "TK_LBRACKET" ∷ "TK_ID" ∷ []) 20 3 ∷
    wrong ("TK_LP" ∷ "TK_LP" ∷ "TK_RP" ∷ []) 20 0 ∷
    wrong ("TK_LP" ∷ "TK_LP" ∷ "TK_RBRACKET" ∷ []) 19 2 ∷
    -- the list is too short, and the numbers are not five a record
    refuses (records ("TK_ID" ∷ "TK_RP" ∷ [])) (8 ∷ []) 13 0 ∷
    refuses (8 ∷ records ("TK_ID" ∷ [])) [] 17 0 ∷
    []
