-- Walks that are computed, for tables of texts: what the model's walk gives is what the definitions say. Assumes nothing.
use Prim.Native.Nat.{ℕ, zero, suc}
use mathlib.Core.Path.{◌≡◌, refl, sym, ap, subst}
use mathlib.Core.Bool.{Bool, true, false, cond}
use mathlib.Core.List.{List, [], ◌∷◌, ◌++◌, map, head-eq_of_cons-eq, tail-eq_of_cons-eq}
use Rattle.keywords.proofs.Logic.{split, and_left, and_right, every}
use Rattle.grammar.specs.Classes.{rules}
use Rattle.grammar.specs.Answers.{Answer, token, end, refusal}
use Rattle.grammar.specs.Longest.{Every, Source, Next}
use Rattle.grammar.proofs.Model.{next}
use Rattle.grammar.proofs.Lexemes.{next-gives}
use Rattle.grammar.proofs.Theorems.{sound}
use Rattle.walks.specs.Walk.{Legal, Goes, Passes}
use Rattle.walks.proofs.WalkLaws.{legal, legal_of, Stuck, token-passes, end-no-token, refusal-no-token}

-- a walk as the model computes it, with a test for what it passes: where it stops, or nothing if that takes more steps than these
pub data Stop : Type 0 where
  nowhere : Stop
  stop : (passed : List Legal) (to : ℕ) (there : Answer) → Stop

abbrev pub Test : Type 0
Test = List Legal → Legal → Bool

-- a lexeme that passes leads on; another, End and a refusal stop the walk
abbrev turn : Test → List Legal → ℕ → (List Legal → ℕ → Stop) → Answer → Stop
turn test l at more (token k start n behind d u) =
    let t = legal k start n d u in
    cond (test l t) (more (l ++ (t ∷ [])) behind) (stop l at (token k start n behind d u))
turn test l at more (end offset) = stop l at (end offset)
turn test l at more (refusal k start n offset) = stop l at (refusal k start n offset)

abbrev pub walk : ℕ → Test → Source → List Legal → ℕ → Stop
walk zero test s l at = nowhere
walk (suc fuel) test s l at = turn test l at (walk fuel test s) (next (rules s.profile) s.text at)

-- the test says what the walk passes
pub record Decides (goes : Goes) (test : Test) : Type 0 where
  pub yes : (l : List Legal) (t : Legal) → test l t ≡ true → goes l t
  pub not : (l : List Legal) (t : Legal) → test l t ≡ false → goes l t → ⊥

-- it is that of the definitions
abbrev pub Right : Goes → Source → ℕ → Stop → Type 0
Right goes s from nowhere = Unit {0}
Right goes s from (stop l to there) = Passes goes s [] from l to × Next s to there × Stuck goes there l

module _ (goes : Goes) (test : Test) (d : Decides goes test) (s : Source) (from : ℕ) where
  turn-right : (l : List Legal) (at : ℕ) (more : List Legal → ℕ → Stop) (a : Answer) → Passes goes s [] from l at → Next s at a
      → ((m : List Legal) (to : ℕ) → Passes goes s [] from m to → Right goes s from (more m to)) → Right goes s from (turn test l at more a)
  turn-right l at more (end offset) p g r = (p, g, λ t e o. end-no-token offset t e)
  turn-right l at more (refusal k start n offset) p g r = (p, g, λ t e o. refusal-no-token k start n offset t e)
  turn-right l at more (token k start n behind i u) p g r =
      let t = legal k start n i u in
      split (test l t)
      (λ e. rw e (r (l ++ (t ∷ [])) behind (token-passes goes s from l at k start n behind i u p g (d.yes l t e))))
      (λ e. rw e (p, g, λ u f q. d.not l t e (subst (goes l) (sym (ap legal_of f)) q)))

  walk-right : (fuel : ℕ) (l : List Legal) (at : ℕ) → Passes goes s [] from l at → Right goes s from (walk fuel test s l at)
  walk-right zero l at p = tt
  walk-right (suc fuel) l at p = turn-right l at (walk fuel test s) (next (rules s.profile) s.text at) p (next-gives (rules s.profile) (sound s.profile) s.text at) (walk-right fuel)

  pub from-here : (fuel : ℕ) → Right goes s from (walk fuel test s [] from)
  unfolding Passes
  from-here fuel = walk-right fuel [] from refl

-- rows that are computed to be what is given for them, of texts that are not too long
pub every-so : {R : Type 0} (So : R → Type 0) (given : R → List R) (fits : R → Bool) → ((r : R) → given r ≡ r ∷ [] → fits r ≡ true → So r)
    → (l : List R) → map given l ≡ map (λ r. r ∷ []) l → every fits l ≡ true → Every So l
every-so So given fits so [] e f = tt
every-so So given fits so (r ∷ l) e f = (
  so r (head-eq_of_cons-eq e) (and_left (fits r) (every fits l) f),
  every-so So given fits so l (tail-eq_of_cons-eq e) (and_right (fits r) (every fits l) f),
)
