-- For readers. `ends-or-not`: a semicolon that comes next ends the statement, or does not. `as_before`: behind anything but a trigger's head
-- every semicolon does. `still-trigger`: a trigger stays one, whatever follows. `one_seen`: of a statement's kinds only one `Seen` tells.
-- `follow-unique`, `ends-unique`: two answers that meet a contract are equal. Assumes nothing.
use Prim.Native.Nat.{ℕ}
use mathlib.Core.Path.{◌≡◌, refl, sym, ◌∙◌, ap, fun_ext}
use mathlib.Core.Bool.{Bool, true, false, cond, true≢false}
use mathlib.Core.List.{List, [], ◌∷◌, ◌++◌, append_assoc}
use mathlib.Core.Logic.{◌⊎◌, inl, inr}
use Rattle.keywords.specs.Kinds.{kind}
use Rattle.keywords.proofs.Logic.{split}
use Rattle.triggers.specs.declared.seen.Seen.{Seen}
use Rattle.triggers.specs.declared.seen.Seen.TheVariants.{Nothing, Explain, Query, Plan, Create, Temp, Body, Semi, End, Other}
use Rattle.triggers.specs.Triggers.{counted, IsTrigger, EndsStatement}
use Rattle.triggers.specs.Seen.{begins_one, heads, wanting, semi_last, semi_end_last, Lastly, Tells, Follows, SaysEnd}
use Rattle.triggers.proofs.EndLaws.{ends_now, ends_now_lem}

-- What is seen can be read back from how kinds must go on, and from how they end.
abbrev seen_by : (List ℕ → Bool) → Bool → Bool → Seen
seen_by goes semi semiEnd =
    cond (goes []) (cond semi Semi (cond semiEnd End Body))
    (cond (goes trigger) (cond (goes (kind "TK_TEMP" ∷ trigger)) Create Temp)
    (cond (goes create) (cond (goes (kind "TK_EXPLAIN" ∷ create)) Nothing (cond (goes (kind "TK_QUERY" ∷ plan)) Explain Plan))
    (cond (goes plan) Query Other)))
  where
    trigger : List ℕ
    trigger = kind "TK_TRIGGER" ∷ []

    create : List ℕ
    create = kind "TK_CREATE" ∷ trigger

    plan : List ℕ
    plan = kind "TK_PLAN" ∷ create

seen_back : (s : Seen) (kinds : List ℕ) → Lastly s kinds → seen_by (begins_one (wanting s)) (semi_last kinds) (semi_end_last kinds) ≡ s
seen_back Nothing kinds h = refl
seen_back Explain kinds h = refl
seen_back Query kinds h = refl
seen_back Plan kinds h = refl
seen_back Create kinds h = refl
seen_back Temp kinds h = refl
seen_back Body kinds h = rw h.0 (rw h.1 refl)
seen_back Semi kinds h = rw h.0 refl
seen_back End kinds h = rw h.0 (rw h.1 refl)
seen_back Other kinds h = refl

seen-so : (s : Seen) (kinds : List ℕ) → Tells s kinds
    → s ≡ seen_by (λ more. begins_one heads (kinds ++ more)) (semi_last kinds) (semi_end_last kinds)
seen-so s kinds t =
    sym (seen_back s kinds t.lastly) ∙
    ap (λ (f : List ℕ → Bool). seen_by f (semi_last kinds) (semi_end_last kinds)) (fun_ext (λ more. sym (t.wants more)))

pub one_seen : (s r : Seen) (kinds : List ℕ) → Tells s kinds → Tells r kinds → s ≡ r
one_seen s r kinds t u = seen-so s kinds t ∙ sym (seen-so r kinds u)

-- for each some kinds of which it tells
abbrev such : Seen → List ℕ
such Nothing = []
such Explain = kind "TK_EXPLAIN" ∷ []
such Query = kind "TK_EXPLAIN" ∷ kind "TK_QUERY" ∷ []
such Plan = kind "TK_EXPLAIN" ∷ kind "TK_QUERY" ∷ kind "TK_PLAN" ∷ []
such Create = kind "TK_CREATE" ∷ []
such Temp = kind "TK_CREATE" ∷ kind "TK_TEMP" ∷ []
such Body = kind "TK_CREATE" ∷ kind "TK_TRIGGER" ∷ []
such Semi = kind "TK_CREATE" ∷ kind "TK_TRIGGER" ∷ kind "TK_SEMI" ∷ []
such End = kind "TK_CREATE" ∷ kind "TK_TRIGGER" ∷ kind "TK_SEMI" ∷ kind "TK_END" ∷ []
such Other = kind "TK_SELECT" ∷ []

pub such_tells : (s : Seen) → Tells s (such s)
such_tells Nothing = record { wants = λ more. refl; lastly = tt }
such_tells Explain = record { wants = λ more. refl; lastly = tt }
such_tells Query = record { wants = λ more. refl; lastly = tt }
such_tells Plan = record { wants = λ more. refl; lastly = tt }
such_tells Create = record { wants = λ more. refl; lastly = tt }
such_tells Temp = record { wants = λ more. refl; lastly = tt }
such_tells Body = record { wants = λ more. refl; lastly = (refl, refl) }
such_tells Semi = record { wants = λ more. refl; lastly = (refl, refl) }
such_tells End = record { wants = λ more. refl; lastly = (refl, refl) }
such_tells Other = record { wants = λ more. refl; lastly = tt }

-- The contract of `follow` leaves one answer.
pub follow-unique : (seen : Seen) (k : ℕ) (r q : Seen) → Follows seen k r → Follows seen k q → r ≡ q
unfolding Follows
follow-unique seen k r q f g = one_seen r q (such seen ++ counted k) (f (such seen) (such_tells seen)) (g (such seen) (such_tells seen))

-- The contract of `ends` leaves one answer.
pub ends-unique : (seen : Seen) (k : ℕ) (r q : Bool) → SaysEnd seen k r → SaysEnd seen k q → r ≡ q
unfolding SaysEnd
ends-unique seen k r q f g =
    let (to, back) = f (such seen) (such_tells seen) in
    let (to', back') = g (such seen) (such_tells seen) in
    same r q (λ e. back' (to e)) (λ e. back (to' e))
  where
    same : (r q : Bool) → (r ≡ true → q ≡ true) → (q ≡ true → r ≡ true) → r ≡ q
    same true q f g = sym (f refl)
    same false true f g = g refl
    same false false f g = refl

-- A semicolon that comes next ends the statement, or does not.
pub ends-or-not : (kinds : List ℕ) → EndsStatement kinds ⊎ (EndsStatement kinds → ⊥)
ends-or-not kinds =
    split (ends_now kinds)
    (λ e. inl ((ends_now_lem kinds).0 e))
    (λ e. inr (λ x. true≢false (sym ((ends_now_lem kinds).1 x) ∙ e)))

-- A trigger's kinds with more behind them are a trigger's.
pub still-trigger : (kinds more : List ℕ) → IsTrigger kinds → IsTrigger (kinds ++ more)
still-trigger kinds more (e, t, rest, x, y, p) =
    (e, t, rest ++ more, x, y, ap (λ (l : List ℕ). l ++ more) p ∙ append_assoc (e ++ (kind "TK_CREATE" ∷ t)) (kind "TK_TRIGGER" ∷ rest) more)

-- Behind anything but a trigger's head every semicolon ends it.
pub as_before : (kinds : List ℕ) → (IsTrigger kinds → ⊥) → EndsStatement kinds
as_before kinds other x = absurd (other x)
