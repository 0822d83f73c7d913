-- Which semicolon ends a statement, by a test. Assumes nothing.
use Prim.Native.Nat.{ℕ}
use mathlib.Core.Path.{◌≡◌, refl, sym, ◌∙◌, ap, subst}
use mathlib.Core.Bool.{Bool, true, false, not, ◌||◌, true≢false}
use mathlib.Core.List.{List, [], ◌∷◌, ◌++◌, append_assoc, reverse, reverse-append, reverse-reverse}
use mathlib.Core.Logic.{◌⊎◌, inl, inr, ⊎_elim, ◌↔◌}
use lib.Dec.{T, eqb, eqb→eq}
use Rattle.keywords.specs.Kinds.{kind}
use Rattle.keywords.proofs.Logic.{split, and_left, and_right}
use Rattle.triggers.specs.Triggers.{Explained, Temporary, IsTrigger, AfterSemiEnd, EndsStatement}
use Rattle.triggers.specs.Seen.{begins, begins_one, then, behind_plan, heads, semi_end_last}

pub same : (m n : ℕ) → eqb m n ≡ true → m ≡ n
same m n e = eqb→eq m n (subst T (sym e) tt)

pub apart : (m n : ℕ) → (m ≡ n → ⊥) → eqb m n ≡ false
apart m n other = split (eqb m n) (λ e. absurd (other (same m n e))) (λ e. e)

or_cases : (a b : Bool) → a || b ≡ true → (a ≡ true) ⊎ (b ≡ true)
or_cases true b e = inl refl
or_cases false b e = inr e

-- kinds that begin so are these and others
begins-rest : (h kinds : List ℕ) → begins h kinds ≡ true → (rest : List ℕ) × (kinds ≡ h ++ rest)
begins-rest [] kinds e = (kinds, refl)
begins-rest (k ∷ h) [] e = absurd (true≢false (sym e))
begins-rest (k ∷ h) (m ∷ kinds) e =
    let (rest, p) = begins-rest h kinds (and_right (eqb m k) (begins h kinds) e) in
    (rest, ap (λ (x : ℕ). x ∷ kinds) (same m k (and_left (eqb m k) (begins h kinds) e)) ∙ ap (λ (l : List ℕ). k ∷ l) p)

-- A trigger's kinds are those that begin with one of its heads.
pub trigger-begins : (kinds : List ℕ) → IsTrigger kinds → begins_one heads kinds ≡ true
trigger-begins kinds (e, t, rest, x, y, p) = ap (begins_one heads) p ∙ by_parts x y
  where
    by_parts : Explained e → Temporary t → begins_one heads (e ++ (kind "TK_CREATE" ∷ t) ++ (kind "TK_TRIGGER" ∷ rest)) ≡ true
    by_parts (inl p) (inl q) = rw p (rw q refl)
    by_parts (inl p) (inr q) = rw p (rw q refl)
    by_parts (inr (inl p)) (inl q) = rw p (rw q refl)
    by_parts (inr (inl p)) (inr q) = rw p (rw q refl)
    by_parts (inr (inr p)) (inl q) = rw p (rw q refl)
    by_parts (inr (inr p)) (inr q) = rw p (rw q refl)

-- and the other way, from each of the six
headed : (e t kinds : List ℕ) → Explained e → Temporary t → begins (e ++ (kind "TK_CREATE" ∷ t) ++ (kind "TK_TRIGGER" ∷ [])) kinds ≡ true
    → IsTrigger kinds
headed e t kinds x y h =
    let (rest, p) = begins-rest (e ++ (kind "TK_CREATE" ∷ t) ++ (kind "TK_TRIGGER" ∷ [])) kinds h in
    (e, t, rest, x, y, p ∙ append_assoc (e ++ (kind "TK_CREATE" ∷ t)) (kind "TK_TRIGGER" ∷ []) rest)

pub begins-trigger : (kinds : List ℕ) → begins_one heads kinds ≡ true → IsTrigger kinds
begins-trigger kinds =
    temp-or-not plan (inr (inr refl)) behind_explained
    (temp-or-not explain (inr (inl refl)) behind_plan (temp-or-not [] (inl refl) [] (λ h. absurd (true≢false (sym h)))))
  where
    explain : List ℕ
    explain = kind "TK_EXPLAIN" ∷ []

    plan : List ℕ
    plan = kind "TK_EXPLAIN" ∷ kind "TK_QUERY" ∷ kind "TK_PLAN" ∷ []

    behind_explained : List (List ℕ)
    behind_explained = then (kind "TK_EXPLAIN") behind_plan ++ behind_plan

    -- two of the heads, and others
    temp-or-not : (e : List ℕ) → Explained e → (l : List (List ℕ)) → (begins_one l kinds ≡ true → IsTrigger kinds)
        → begins_one
        ((e ++ (kind "TK_CREATE" ∷ kind "TK_TEMP" ∷ []) ++ (kind "TK_TRIGGER" ∷ [])) ∷ (e ++ (kind "TK_CREATE" ∷ []) ++ (kind "TK_TRIGGER" ∷ [])) ∷ l)
        kinds ≡ true → IsTrigger kinds
    temp-or-not e x l f h =
        ⊎_elim (headed e (kind "TK_TEMP" ∷ []) kinds x (inr refl))
        (λ g. ⊎_elim (headed e [] kinds x (inl refl)) f (or_cases _ _ g)) (or_cases _ _ h)

-- END directly after a semicolon, by its test
semi-end-so : (kinds : List ℕ) → semi_end_last kinds ≡ true → AfterSemiEnd kinds
semi-end-so kinds e =
    let (rest, p) = begins-rest (kind "TK_END" ∷ kind "TK_SEMI" ∷ []) (reverse kinds) e in
    (reverse rest, sym (reverse-reverse kinds) ∙ ap reverse p ∙ reverse-append (kind "TK_END" ∷ kind "TK_SEMI" ∷ []) rest)

so-semi-end : (kinds : List ℕ) → AfterSemiEnd kinds → semi_end_last kinds ≡ true
so-semi-end kinds (before, p) =
    ap semi_end_last p ∙ ap (begins (kind "TK_END" ∷ kind "TK_SEMI" ∷ [])) (reverse-append before (kind "TK_SEMI" ∷ kind "TK_END" ∷ []))

-- Whether a semicolon that comes next ends the statement, by a test.
abbrev pub ends_now : List ℕ → Bool
ends_now kinds = not (begins_one heads kinds) || semi_end_last kinds

pub ends_now_lem : (kinds : List ℕ) → (ends_now kinds ≡ true) ↔ EndsStatement kinds
ends_now_lem kinds = (so, back)
  where
    so : ends_now kinds ≡ true → EndsStatement kinds
    so e x = semi-end-so kinds (subst (λ (b : Bool). not b || semi_end_last kinds ≡ true) (trigger-begins kinds x) e)

    back : EndsStatement kinds → ends_now kinds ≡ true
    back x =
        split (begins_one heads kinds)
        (λ e. rw e (so-semi-end kinds (x (begins-trigger kinds e))))
        (λ e. rw e refl)
