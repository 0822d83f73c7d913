-- Two walks over one text: one is an opening of the other; that both end where nothing more is said, they are the same. Assumes nothing.
use Prim.Native.Nat.{ℕ, ◌+◌, ◌≤◌}
use mathlib.Core.Path.{◌≡◌, refl, sym, ◌∙◌, ap, subst}
use mathlib.Core.Bool.{false, true≢false}
use mathlib.Core.List.{List, [], ◌∷◌, ◌++◌, append-nil}
use mathlib.Core.Logic.{◌⊎◌, inl, inr, ⊎_elim}
use lib.ListN.{take, drop}
use Rattle.grammar.specs.declared.profile.Profile.{Profile}
use Rattle.grammar.specs.Classes.{rules}
use Rattle.grammar.specs.Answers.{Answer, answer}
use Rattle.grammar.specs.Longest.{Source, source, Next}
use Rattle.grammar.proofs.Tokens.{told}
use Rattle.grammar.proofs.Unique.{gives-unique}
use Rattle.walks.specs.Walk.{Legal, Goes, token_of, Passes}
use Rattle.walks.proofs.WalkLaws.{legal_of}
use Rattle.intake.specs.Takes.{limit}
use Rattle.parting.specs.Means.{Says, Open}
use Rattle.parting.specs.Histories.{Short, end_of}
use Rattle.parting.proofs.Ready.{within-short, says-unique}
use Rattle.parting.proofs.Walks.{is_token}

-- a walk ends where its last lexeme does
pub passes-end : (goes : Goes) (s : Source) (before : List Legal) (from : ℕ) (l : List Legal) (to : ℕ) → Passes goes s before from l to → to ≡ end_of from l
unfolding Passes end_of
passes-end goes s before from [] to x = sym x
passes-end goes s before from (t ∷ l) to (e, g, o, x) =
    passes-end goes s (before ++ (t ∷ [])) (from + t.length) l to x ∙ ap (λ (k : ℕ). end_of (k + t.length) l) (sym e)

module _ (p : Profile) where
  -- a token that Next gives is said, if it is not too long
  next-says : (s : List ℕ) (at : ℕ) (t : Legal) → t.length ≤ limit → Next (source p s) at (token_of t) → Says p s at (token_of t)
  next-says s at t l h =
      let o = told p s at t.kind t.start t.length (t.start + t.length) t.digits t.underscores h in
      inr (o.class, t.length, o.longest, o.gives ∙ sym (within-short t.length at (answer o.class at (take t.length (drop at s))) l))

  token-one : (s : List ℕ) (at : ℕ) (t u : Legal) → Next (source p s) at (token_of t) → Next (source p s) at (token_of u) → t ≡ u
  token-one s at t u g h = ap legal_of (gives-unique (rules p) s at (token_of t) (token_of u) g h)

  -- of two walks from one place one is an opening of the other
  pub opening : (s : List ℕ) (before : List Legal) (from : ℕ) (l m : List Legal) (to to' : ℕ) → Passes Short (source p s) before from l to
      → Passes Short (source p s) before from m to' → ((x : List Legal) × (l ++ x ≡ m)) ⊎ ((x : List Legal) × (m ++ x ≡ l))
  unfolding Passes
  opening s before from [] m to to' x y = inl (m, refl)
  opening s before from (t ∷ l) [] to to' x y = inr (t ∷ l, refl)
  opening s before from (t ∷ l) (u ∷ m) to to' (e, g, o, x) (f, k, q, y) =
      let same = token-one s from t u g k in
      let y = subst (λ (v : Legal). Passes Short (source p s) (before ++ (v ∷ [])) (from + v.length) m to') (sym same) y in
      ⊎_elim
      (λ (z, i). inl (z, ap (λ (v : List Legal). t ∷ v) i ∙ ap (λ (v : Legal). v ∷ m) same))
      (λ (z, i). inr (z, ap (λ (v : List Legal). u ∷ v) i ∙ ap (λ (v : Legal). v ∷ l) (sym same)))
      (opening s (before ++ (t ∷ [])) (from + t.length) l m to to' x y)

  -- what ends a walk: at its place the same is said, and it is no token; or some continuation alters what is said
  module _ (s : List ℕ) where
    abbrev Ended : ℕ → Type 0
    Ended at = (a : Answer) × (is_token a ≡ false) × Says p s at a

    no-token : (at : ℕ) → Ended at → (t : Legal) → t.length ≤ limit → Next (source p s) at (token_of t) → ⊥
    no-token at (a, n, h) t l g = true≢false (sym (ap is_token (says-unique p s at a (token_of t) h (next-says s at t l g))) ∙ n)

    pub closed-one : (before : List Legal) (from : ℕ) (l m : List Legal) (to to' : ℕ) → Passes Short (source p s) before from l to
        → Passes Short (source p s) before from m to' → Ended to → Ended to' → (l ≡ m) × (to ≡ to')
    unfolding Passes
    closed-one before from [] [] to to' x y h i = (refl, sym x ∙ y)
    closed-one before from [] (t ∷ m) to to' x (e, g, o, y) h i = absurd (no-token from (subst Ended (sym x) h) t o g)
    closed-one before from (t ∷ l) [] to to' (e, g, o, x) y h i = absurd (no-token from (subst Ended (sym y) i) t o g)
    closed-one before from (t ∷ l) (u ∷ m) to to' (e, g, o, x) (f, k, q, y) h i =
        let same = token-one s from t u g k in
        let y = subst (λ (v : Legal). Passes Short (source p s) (before ++ (v ∷ [])) (from + v.length) m to') (sym same) y in
        let (a, b) = closed-one (before ++ (t ∷ [])) (from + t.length) l m to to' x y h i in
        (ap (λ (l : List Legal). t ∷ l) a ∙ ap (λ (v : Legal). v ∷ m) same, b)

    -- of every longer text
    abbrev Always : List Legal → ℕ → List Legal → ℕ → Type 0
    Always before from l to = (t : List ℕ) → Passes Short (source p (s ++ t)) before from l to

    no_sure : (at : ℕ) → Open p s at → (t : Legal) → t.length ≤ limit → ((w : List ℕ) → Next (source p (s ++ w)) at (token_of t)) → ⊥
    no_sure at (w, a, b, x, y, d) t l g =
        let here = subst (λ (u : List ℕ). Says p u at (token_of t)) (append-nil s) (next-says (s ++ []) at t l (g [])) in
        d (says-unique p s at a (token_of t) x here ∙ says-unique p (s ++ w) at (token_of t) b (next-says (s ++ w) at t l (g w)) y)

    pub open-one : (before : List Legal) (from : ℕ) (l m : List Legal) (to to' : ℕ) → Always before from l to → Always before from m to'
        → Open p s to → Open p s to' → (l ≡ m) × (to ≡ to')
    unfolding Passes
    open-one before from [] [] to to' x y h i = (refl, sym (x []) ∙ y [])
    open-one before from [] (t ∷ m) to to' x y h i = absurd (no_sure from (subst (Open p s) (sym (x [])) h) t (y []).2 (λ w. (y w).1))
    open-one before from (t ∷ l) [] to to' x y h i = absurd (no_sure from (subst (Open p s) (sym (y [])) i) t (x []).2 (λ w. (x w).1))
    open-one before from (t ∷ l) (u ∷ m) to to' x y h i =
        let same = token-one (s ++ []) from t u (x []).1 (y []).1 in
        let y = subst (λ (v : Legal). Always (before ++ (v ∷ [])) (from + v.length) m to') (sym same) (λ w. (y w).3) in
        let (a, b) = open-one (before ++ (t ∷ [])) (from + t.length) l m to to' (λ w. (x w).3) y h i in
        (ap (λ (l : List Legal). t ∷ l) a ∙ ap (λ (v : Legal). v ∷ m) same, b)
