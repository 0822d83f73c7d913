-- What a `Seen` tells of the kinds that a statement has so far: for `follow` and `ends`, and no part of what the cut owes. Assumes nothing.
use Rattle.std.specs.Prelude.{ℕ, ◌≡◌, Bool, true, false, cond, ◌&&◌, ◌||◌, ◌↔◌, List, [], ◌∷◌, ◌++◌, map, reverse, eqb}
use Rattle.keywords.specs.Kinds.{kind}
use Rattle.triggers.specs.Triggers.{counted, EndsStatement}
use Rattle.triggers.specs.declared.seen.Seen.{Seen}
use Rattle.triggers.specs.declared.seen.Seen.TheVariants.{Nothing, Explain, Query, Plan, Create, Temp, Body, Semi, End, Other}

-- the kinds begin with those of h
abbrev pub begins : List ℕ → List ℕ → Bool
begins [] kinds = true
begins (h ∷ l) [] = false
begins (h ∷ l) (k ∷ kinds) = eqb k h && begins l kinds

-- they begin with one of these
abbrev pub begins_one : List (List ℕ) → List ℕ → Bool
begins_one [] kinds = false
begins_one (h ∷ l) kinds = begins h kinds || begins_one l kinds

-- one kind, and then one of these
abbrev pub then : ℕ → List (List ℕ) → List (List ℕ)
then k l = map (λ (h : List ℕ). k ∷ h) l

-- What must follow to complete a trigger's head: one of these.
abbrev pub behind_temp : List (List ℕ)
behind_temp = then (kind "TK_TRIGGER") ([] ∷ [])

abbrev pub behind_create : List (List ℕ)
behind_create = then (kind "TK_TEMP") behind_temp ++ behind_temp

abbrev pub behind_plan : List (List ℕ)
behind_plan = then (kind "TK_CREATE") behind_create

abbrev pub behind_query : List (List ℕ)
behind_query = then (kind "TK_PLAN") behind_plan

abbrev pub behind_explain : List (List ℕ)
behind_explain = then (kind "TK_QUERY") behind_query ++ behind_plan

abbrev pub heads : List (List ℕ)
heads = then (kind "TK_EXPLAIN") behind_explain ++ behind_plan

abbrev pub wanting : Seen → List (List ℕ)
wanting Nothing = heads
wanting Explain = behind_explain
wanting Query = behind_query
wanting Plan = behind_plan
wanting Create = behind_create
wanting Temp = behind_temp
wanting Body = [] ∷ []
wanting Semi = [] ∷ []
wanting End = [] ∷ []
wanting Other = []

-- the last kinds are a semicolon; a semicolon and END
abbrev pub semi_last : List ℕ → Bool
semi_last kinds = begins (kind "TK_SEMI" ∷ []) (reverse kinds)

abbrev pub semi_end_last : List ℕ → Bool
semi_end_last kinds = begins (kind "TK_END" ∷ kind "TK_SEMI" ∷ []) (reverse kinds)

-- whether a trigger's kinds end so; what is no trigger's may end in any way
abbrev pub Lastly : Seen → List ℕ → Type 0
Lastly Nothing kinds = Unit {0}
Lastly Explain kinds = Unit {0}
Lastly Query kinds = Unit {0}
Lastly Plan kinds = Unit {0}
Lastly Create kinds = Unit {0}
Lastly Temp kinds = Unit {0}
Lastly Body kinds = (semi_last kinds ≡ false) × (semi_end_last kinds ≡ false)
Lastly Semi kinds = (semi_last kinds ≡ true) × (semi_end_last kinds ≡ false)
Lastly End kinds = (semi_last kinds ≡ false) × (semi_end_last kinds ≡ true)
Lastly Other kinds = Unit {0}

-- these kinds, with more behind them, are a trigger's where what is wanting begins the others
pub record Tells (seen : Seen) (kinds : List ℕ) : Type 0 where
  pub wants : (more : List ℕ) → begins_one heads (kinds ++ more) ≡ begins_one (wanting seen) more
  pub lastly : Lastly seen kinds

-- what `follow` owes: with a kind more
unfoldable pub Follows : Seen → ℕ → Seen → Type 0
Follows seen k r = (kinds : List ℕ) → Tells seen kinds → Tells r (kinds ++ counted k)

-- what `ends` owes: whether a token of this kind is a semicolon that ends the statement
unfoldable pub SaysEnd : Seen → ℕ → Bool → Type 0
SaysEnd seen k r = (kinds : List ℕ) → Tells seen kinds → ((r ≡ true) ↔ ((k ≡ kind "TK_SEMI") × EndsStatement kinds))

-- what `in_body` gives
abbrev pub body_with : ℕ → Seen → Seen
body_with k end = cond (eqb k (kind "TK_SEMI")) Semi (cond (eqb k (kind "TK_END")) end Body)
