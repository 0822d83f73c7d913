-- Brackets in a list of kinds: what pairs with what, how deep they nest, the first fault, and the partner of each. Assumes nothing.
use Rattle.std.specs.Prelude.{ℕ, suc, max, Bool, false, cond, ◌||◌, List, [], ◌∷◌, eqb, ltb, length, set}
use Rattle.keywords.specs.Kinds.{kind}
use Rattle.brackets.specs.Refusals.{pair_refusal}

-- `(` pairs with `)`, and `[` with `]`
abbrev pub is_opener : ℕ → Bool
is_opener k = eqb k (kind "TK_LP") || eqb k (kind "TK_LBRACKET")

abbrev pub is_closer : ℕ → Bool
is_closer k = eqb k (kind "TK_RP") || eqb k (kind "TK_RBRACKET")

abbrev pub closer_of : ℕ → ℕ
closer_of k = cond (eqb k (kind "TK_LP")) (kind "TK_RP") (kind "TK_RBRACKET")

-- sixteen levels pass
abbrev pub levels : ℕ
levels = 16

-- an opener whose closer has not come yet: its index and its kind
pub record Opened : Type 0 where
  pub at : ℕ
  pub kind : ℕ

-- those that are open, the innermost first
abbrev pub Open : Type 0
Open = List Opened

abbrev pub opening : ℕ → ℕ → Open → Open
opening i k os = record { at = i; kind = k } ∷ os

-- a closer of kind k closes the innermost; it is a wrong one where it is of another kind, or nothing is open
abbrev pub is_closed_by : Open → ℕ → Bool
is_closed_by [] k = false
is_closed_by (o ∷ os) k = eqb k (closer_of o.kind)

abbrev pub closing : Open → Open
closing [] = []
closing (o ∷ os) = os

-- a list is paired, so deep, or refused with an index
pub data Outcome : Type 0 where
  deepest : ℕ → Outcome
  refused : (number index : ℕ) → Outcome

-- at the list's end the innermost that is left open is reported
abbrev pub ended : Open → ℕ → Outcome
ended [] d = deepest d
ended (o ∷ os) d = refused (pair_refusal "LeftOpen") o.at

-- Record by record, up to the first fault: the kinds from index i on, where these are open and the deepest nesting so far was d.
unfoldable pub nesting : List ℕ → ℕ → Open → ℕ → Outcome
nesting [] i os d = ended os d
nesting (k ∷ ks) i os d =
    cond (is_opener k)
    (cond (ltb (length os) levels) (nesting ks (suc i) (opening i k os) (max d (suc (length os)))) (refused (pair_refusal "TooDeep") i))
    (cond (is_closer k)
    (cond (is_closed_by os k) (nesting ks (suc i) (closing os) d) (refused (pair_refusal "WrongCloser") i))
    (nesting ks (suc i) os d))

-- the closer at index i and the innermost that is open get each other's index
abbrev pub paired : ℕ → Open → List ℕ → List ℕ
paired i [] ps = ps
paired i (o ∷ os) ps = set (set ps o.at i) i o.at

-- The partners of a list that is not refused, written over a list of numbers ps: those that are no brackets get their own index.
unfoldable pub partners : List ℕ → ℕ → Open → List ℕ → List ℕ
partners [] i os ps = ps
partners (k ∷ ks) i os ps =
    cond (is_opener k) (partners ks (suc i) (opening i k os) ps)
    (cond (is_closer k) (partners ks (suc i) (closing os) (paired i os ps))
    (partners ks (suc i) os (set ps i i)))
