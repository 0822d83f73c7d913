-- What a `Seen` tells of kinds with one more, and of a semicolon behind them. Assumes nothing.
use Prim.Native.Nat.{ℕ}
use mathlib.Core.Path.{◌≡◌, refl, sym, ◌∙◌, ap, subst}
use mathlib.Core.Bool.{Bool, true, false, not, ◌&&◌, ◌||◌, true≢false}
use mathlib.Core.List.{List, [], ◌∷◌, ◌++◌, append_assoc, append-nil, reverse-append}
use lib.Dec.{eqb}
use Rattle.keywords.specs.Kinds.{kind}
use Rattle.keywords.proofs.Logic.{split}
use Rattle.triggers.specs.declared.seen.Seen.{Seen}
use Rattle.triggers.specs.declared.seen.Seen.TheVariants.{Nothing, Explain, Query, Plan, Create, Temp, Body, Semi, End, Other}
use Rattle.triggers.specs.Triggers.{counted}
use Rattle.triggers.specs.Seen.{begins, begins_one, heads, wanting, semi_last, semi_end_last, Lastly, Tells, Follows, SaysEnd, body_with}
use Rattle.triggers.proofs.EndLaws.{same, apart, ends_now, ends_now_lem}

-- TK_NONE does not count; every other kind does
none-counted : (k : ℕ) → k ≡ kind "TK_NONE" → counted k ≡ []
none-counted k e = rw e refl

some-counted : (k : ℕ) → (k ≡ kind "TK_NONE" → ⊥) → counted k ≡ k ∷ []
some-counted k other = rw (apart k (kind "TK_NONE") other) refl

-- What follows, by what is seen and the kind.
pub stays : (seen : Seen) (k : ℕ) → k ≡ kind "TK_NONE" → Follows seen k seen
unfolding Follows
stays seen k e kinds h = subst (Tells seen) (sym (ap (λ (l : List ℕ). kinds ++ l) (none-counted k e) ∙ append-nil kinds)) h

pub goes_on : {seen : Seen} {k : ℕ} → (k ≡ kind "TK_NONE" → ⊥) → (s r : Seen) → seen ≡ s
    → ((more : List ℕ) → begins_one (wanting s) (k ∷ more) ≡ begins_one (wanting r) more)
    → ((kinds : List ℕ) → Lastly s kinds → Lastly r (kinds ++ (k ∷ []))) → Follows seen k r
unfolding Follows
goes_on {seen} {k} some s r is step last kinds h =
    let t = subst (λ (q : Seen). Tells q kinds) is h in
    subst (λ (l : List ℕ). Tells r (kinds ++ l)) (sym (some-counted k some))
    (record {
      wants = λ more. ap (begins_one heads) (append_assoc kinds (k ∷ []) more) ∙ t.wants (k ∷ more) ∙ step more;
      lastly = last kinds t.lastly;
    })

-- How a trigger's kinds end with one more.
semi-last : (kinds : List ℕ) (k : ℕ) → semi_last (kinds ++ (k ∷ [])) ≡ eqb k (kind "TK_SEMI") && true
semi-last kinds k = ap (begins (kind "TK_SEMI" ∷ [])) (reverse-append kinds (k ∷ []))

semi-end-last : (kinds : List ℕ) (k : ℕ) → semi_end_last (kinds ++ (k ∷ [])) ≡ eqb k (kind "TK_END") && semi_last kinds
semi-end-last kinds k = ap (begins (kind "TK_END" ∷ kind "TK_SEMI" ∷ [])) (reverse-append kinds (k ∷ []))

-- Its head's last, a semicolon, END behind a semicolon, END behind another, any other.
last-so : (kinds : List ℕ) (k : ℕ) (a b : Bool) → eqb k (kind "TK_SEMI") && true ≡ a → eqb k (kind "TK_END") && semi_last kinds ≡ b
    → (semi_last (kinds ++ (k ∷ [])) ≡ a) × (semi_end_last (kinds ++ (k ∷ [])) ≡ b)
last-so kinds k a b p q = (semi-last kinds k ∙ p, semi-end-last kinds k ∙ q)

module _ {k : ℕ} where
  pub last-trigger : k ≡ kind "TK_TRIGGER" → (kinds : List ℕ) → Lastly Body (kinds ++ (k ∷ []))
  last-trigger e kinds = last-so kinds k false false (rw e refl) (rw e refl)

  last-semi : k ≡ kind "TK_SEMI" → (kinds : List ℕ) → Lastly Semi (kinds ++ (k ∷ []))
  last-semi e kinds = last-so kinds k true false (rw e refl) (rw e refl)

  pub last-end : k ≡ kind "TK_END" → (kinds : List ℕ) → Lastly Semi kinds → Lastly End (kinds ++ (k ∷ []))
  last-end e kinds h = last-so kinds k false true (rw e refl) (rw e h.0)

  pub last-end-alone : k ≡ kind "TK_END" → (kinds : List ℕ) → semi_last kinds ≡ false → Lastly Body (kinds ++ (k ∷ []))
  last-end-alone e kinds h = last-so kinds k false false (rw e refl) (rw e h)

last-other : (k : ℕ) → eqb k (kind "TK_SEMI") ≡ false → eqb k (kind "TK_END") ≡ false → (kinds : List ℕ) → Lastly Body (kinds ++ (k ∷ []))
last-other k p q kinds = last-so kinds k false false (rw p refl) (rw q refl)

-- In a body, where END makes `end` of what is seen.
pub body-goes-on : {seen : Seen} {k : ℕ} → (k ≡ kind "TK_NONE" → ⊥) → (s end r : Seen) → seen ≡ s
    → ((more : List ℕ) → begins_one (wanting s) more ≡ true) → ((more : List ℕ) → begins_one (wanting end) more ≡ true)
    → (k ≡ kind "TK_END" → (kinds : List ℕ) → Lastly s kinds → Lastly end (kinds ++ (k ∷ [])))
    → r ≡ body_with k end → Follows seen k r
body-goes-on {seen} {k} some s end r is all all' last e =
    split (eqb k (kind "TK_SEMI"))
    (λ p.
    subst (Follows seen k) (sym (e ∙ rw p refl))
    (goes_on some s Semi is (λ more. all (k ∷ more)) (λ kinds h. last-semi (same k (kind "TK_SEMI") p) kinds)))
    (λ p.
    split (eqb k (kind "TK_END"))
    (λ q.
    subst (Follows seen k) (sym (e ∙ rw p (rw q refl)))
    (goes_on some s end is (λ more. all (k ∷ more) ∙ sym (all' more)) (last (same k (kind "TK_END") q))))
    (λ q.
    subst (Follows seen k) (sym (e ∙ rw p (rw q refl)))
    (goes_on some s Body is (λ more. all (k ∷ more)) (λ kinds h. last-other k p q kinds))))

-- whether a semicolon that comes next ends the statement, by what is seen
abbrev pub ends_in : Seen → Bool
ends_in Nothing = true
ends_in Explain = true
ends_in Query = true
ends_in Plan = true
ends_in Create = true
ends_in Temp = true
ends_in Body = false
ends_in Semi = false
ends_in End = true
ends_in Other = true

tells-ends : (s : Seen) (kinds : List ℕ) → Tells s kinds → ends_now kinds ≡ ends_in s
tells-ends s kinds t =
    ap (λ (b : Bool). not b || semi_end_last kinds) (ap (begins_one heads) (sym (append-nil kinds)) ∙ t.wants []) ∙ by_last s t.lastly
  where
    by_last : (s : Seen) → Lastly s kinds → not (begins_one (wanting s) []) || semi_end_last kinds ≡ ends_in s
    by_last Nothing h = refl
    by_last Explain h = refl
    by_last Query h = refl
    by_last Plan h = refl
    by_last Create h = refl
    by_last Temp h = refl
    by_last Body h = h.1
    by_last Semi h = h.1
    by_last End h = h.1
    by_last Other h = refl

-- only a semicolon ends a statement
pub not-semi : (seen : Seen) (k : ℕ) → (k ≡ kind "TK_SEMI" → ⊥) → SaysEnd seen k false
unfolding SaysEnd
not-semi seen k other kinds t = (λ e. absurd (true≢false (sym e)), λ x. absurd (other x.0))

pub says-end : (seen : Seen) (k : ℕ) → k ≡ kind "TK_SEMI" → (r : Bool) → ends_in seen ≡ r → SaysEnd seen k r
unfolding SaysEnd
says-end seen k semi r e kinds t =
    let same = tells-ends seen kinds t ∙ e in
    (λ f. (semi, (ends_now_lem kinds).0 (same ∙ f)), λ x. sym same ∙ (ends_now_lem kinds).1 x.1)

pub ends-others : (s : Seen) → (s ≡ Body → ⊥) → (s ≡ Semi → ⊥) → ends_in s ≡ true
ends-others Nothing x y = refl
ends-others Explain x y = refl
ends-others Query x y = refl
ends-others Plan x y = refl
ends-others Create x y = refl
ends-others Temp x y = refl
ends-others Body x y = absurd (x refl)
ends-others Semi x y = absurd (y refl)
ends-others End x y = refl
ends-others Other x y = refl
