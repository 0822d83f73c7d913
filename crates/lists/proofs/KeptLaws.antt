-- Lexemes that get a record, and their records. Assumes nothing.
use Prim.Native.Nat.{ℕ, ◌≤◌}
use native.Mathlib.Omega.{arith}
use mathlib.Core.Path.{◌≡◌, refl, ◌∙◌, ap}
use mathlib.Core.Bool.{true, false}
use mathlib.Core.List.{List, [], ◌∷◌, ◌++◌, append-nil}
use lib.ListN.{length}
use Rattle.keywords.proofs.Logic.{split}
use Rattle.records.specs.declared.Record.{Record}
use Rattle.walks.specs.Walk.{Legal}
use Rattle.lists.specs.Lists.{record_of, records_of}
use Rattle.lists.specs.Parts.{Keeps, kept}

pub records-append : (s : List ℕ) (l m : List Legal) → records_of s (l ++ m) ≡ records_of s l ++ records_of s m
unfolding records_of
records-append s [] m = refl
records-append s (t ∷ l) m = ap (λ (x : List Record). record_of s t ∷ x) (records-append s l m)

pub records-many : (s : List ℕ) (l : List Legal) → length (records_of s l) ≡ length l
unfolding records_of
records-many s [] = refl
records-many s (t ∷ l) = omega (arith, records-many s l)

module _ (keeps : Keeps) where
  pub kept_append : (l m : List Legal) → kept keeps (l ++ m) ≡ kept keeps l ++ kept keeps m
  unfolding kept
  kept_append [] m = refl
  kept_append (t ∷ l) m =
      split (keeps t)
      (λ e. rw e (ap (λ (x : List Legal). t ∷ x) (kept_append l m)))
      (λ e. rw e (kept_append l m))

  pub kept-few : (l : List Legal) → length (kept keeps l) ≤ length l
  unfolding kept
  kept-few [] = omega arith
  kept-few (t ∷ l) =
      let i = kept-few l in
      split (keeps t) (λ e. rw e (omega arith)) (λ e. rw e (omega arith))

  -- one lexeme more, that gets a record or none
  pub kept-one : (l : List Legal) (t : Legal) → keeps t ≡ true → kept keeps (l ++ (t ∷ [])) ≡ kept keeps l ++ (t ∷ [])
  unfolding kept
  kept-one l t e = kept_append l (t ∷ []) ∙ rw e refl

  pub kept-none : (l : List Legal) (t : Legal) → keeps t ≡ false → kept keeps (l ++ (t ∷ [])) ≡ kept keeps l
  unfolding kept
  kept-none l t e = kept_append l (t ∷ []) ∙ rw e (append-nil (kept keeps l))

  -- where every lexeme gets one
  pub kept-every : ((t : Legal) → keeps t ≡ true) → (l : List Legal) → kept keeps l ≡ l
  unfolding kept
  kept-every all [] = refl
  kept-every all (t ∷ l) = rw (all t) (ap (λ (x : List Legal). t ∷ x) (kept-every all l))
