-- Which semicolon ends a statement, by the kinds of the tokens that it has before: request 3. Assumes nothing.
use Rattle.std.specs.Prelude.{ℕ, ◌≡◌, cond, List, [], ◌∷◌, ◌++◌, ◌⊎◌, eqb}
use Rattle.keywords.specs.Kinds.{kind}

-- TK_NONE tokens are ignored: the kinds below are those of the others, from the statement's beginning on
abbrev pub counted : ℕ → List ℕ
counted k = cond (eqb k (kind "TK_NONE")) [] (k ∷ [])

-- nothing, EXPLAIN, or EXPLAIN QUERY PLAN
abbrev pub Explained : List ℕ → Type 0
Explained e = (e ≡ []) ⊎ (e ≡ kind "TK_EXPLAIN" ∷ []) ⊎ (e ≡ kind "TK_EXPLAIN" ∷ kind "TK_QUERY" ∷ kind "TK_PLAN" ∷ [])

-- nothing, or TEMP; TEMPORARY has the same kind
abbrev pub Temporary : List ℕ → Type 0
Temporary t = (t ≡ []) ⊎ (t ≡ kind "TK_TEMP" ∷ [])

-- the first kinds are CREATE, an optional TEMP or TEMPORARY, then TRIGGER, all optionally after EXPLAIN or EXPLAIN QUERY PLAN
abbrev pub IsTrigger : List ℕ → Type 0
IsTrigger kinds =
    (e t rest : List ℕ) × Explained e × Temporary t × (kinds ≡ e ++ (kind "TK_CREATE" ∷ t) ++ (kind "TK_TRIGGER" ∷ rest))

-- the last is END, which directly follows a semicolon
abbrev pub AfterSemiEnd : List ℕ → Type 0
AfterSemiEnd kinds = (before : List ℕ) × (kinds ≡ before ++ (kind "TK_SEMI" ∷ kind "TK_END" ∷ []))

-- a semicolon that comes next ends the statement: a trigger's only where it directly follows END which directly follows a semicolon, any other's
-- always
abbrev pub EndsStatement : List ℕ → Type 0
EndsStatement kinds = IsTrigger kinds → AfterSemiEnd kinds
