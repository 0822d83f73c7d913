-- No fewer bytes than each class looks ahead are enough: the table's texts show it. Assumes nothing.
use Prim.Native.Nat.{ℕ, suc, ◌+◌, ◌<◌}
use native.Mathlib.Omega.{arith}
use mathlib.Core.Path.{◌≡◌, refl, sym, ◌∙◌, subst}
use mathlib.Core.Bool.{Bool, true, false, not, ◌&&◌, ◌||◌, true≢false}
use mathlib.Core.List.{List, [], ◌∷◌, ◌++◌}
use mathlib.Core.Logic.{⊎_elim}
use lib.Dec.{eqb}
use lib.ListN.{length, take}
use lib.Seq.{take-append-le}
use borrow.Author.Tests.{not-true, eqb-true, eqb-false}
use Rattle.keywords.proofs.Logic.{and_left, and_right, every}
use Rattle.words.specs.Bytes.{is_digit, is_hexdigit, is_identifier_start, is_identifier_continue, is_blank}
use Rattle.grammar.specs.declared.profile.Profile.{Profile}
use Rattle.grammar.specs.declared.profile.Profile.TheVariants.{Turso, Sqlite}
use Rattle.grammar.specs.Classes.{Class, operators, rules}
use Rattle.grammar.specs.Longest.{Longest}
use Rattle.ahead.specs.Ahead.{look_ahead, Fork, forks, Parts}
use Rattle.grammar.proofs.Equivalences.{or-iff}
use Rattle.grammar.proofs.States.{rule_at, start}
use Rattle.grammar.proofs.Model.{Found, nothing, found, scan}
use Rattle.grammar.proofs.ClassLaws.{number}
use Rattle.grammar.proofs.Unique.{longest-unique}
use Rattle.grammar.proofs.Lexemes
use Rattle.grammar.proofs.Theorems.{sound}
use Rattle.ahead.proofs.Each.{classes, same_number, each-class}

-- what is found in two texts that have n bytes in common: a lexeme of the class that looks ahead one byte further, and another lexeme
abbrev differs : Profile → Class → ℕ → Found → Found → Bool
differs p c n nothing g = false
differs p c n (found m k) nothing = false
differs p c n (found m k) (found l j) = eqb (number (rule_at (rules p) k).class) (number c) && eqb (m + look_ahead p c) (suc n) && not (eqb l m)

abbrev shows : Profile → Class → Fork → Bool
shows p c f =
    let first : List ℕ → Found = λ w. scan (start (rules p)) (f.behind ++ w) in
    eqb (number f.class) (number c) && differs p c (length f.behind) (first f.one) (first f.other)

abbrev is_shown : Profile → Class → List Fork → Bool
is_shown p c [] = false
is_shown p c (f ∷ l) = shows p c f || is_shown p c l

-- The computed test, of each profile: a class that looks ahead has its texts.
computed : (p : Profile) → every (λ c. eqb (look_ahead p c) 0 || is_shown p c (forks p)) classes ≡ true
unfolding look_ahead forks rules operators is_digit is_hexdigit is_identifier_start is_identifier_continue is_blank
computed Turso = refl
computed Sqlite = refl

module _ (p : Profile) (c : Class) (j : ℕ) (less : j < look_ahead p c) where
  fork-parts : (w u v : List ℕ) (f g : Found) → scan (start (rules p)) (w ++ u) ≡ f → scan (start (rules p)) (w ++ v) ≡ g
      → differs p c (length w) f g ≡ true → Parts p c j
  fork-parts w u v nothing g d e h = absurd (true≢false (sym h))
  fork-parts w u v (found m k) nothing d e h = absurd (true≢false (sym h))
  fork-parts w u v (found m k) (found l i) d e h =
      let same = eqb (number (rule_at (rules p) k).class) (number c) in
      let long = eqb (m + look_ahead p c) (suc (length w)) in
      let x = and_left (same && long) (not (eqb l m)) h in
      let class = same_number (rule_at (rules p) k).class c (and_left same long x) in
      let ends = eqb-true (m + look_ahead p c) (suc (length w)) (and_right same long x) in
      let other = eqb-false l m (not-true (eqb l m) (and_right (same && long) (not (eqb l m)) h)) in
      let agree : (u : List ℕ) → take (m + j) (w ++ u) ≡ take (m + j) w = λ u. take-append-le (m + j) w u (omega arith) in (
        w ++ u,
        w ++ v,
        m,
        subst (λ (c : Class). Longest (rules p) (w ++ u) c m) class (Lexemes.scan-longest (rules p) (sound p) (w ++ u) m k d),
        λ z. other (longest-unique (Lexemes.scan-longest (rules p) (sound p) (w ++ v) l i e) z).1,
        agree u ∙ sym (agree v),
      )

  shown-parts : (l : List Fork) → is_shown p c l ≡ true → Parts p c j
  shown-parts [] e = absurd (true≢false (sym e))
  shown-parts (f ∷ l) e =
      let first : List ℕ → Found = λ w. scan (start (rules p)) (f.behind ++ w) in
      ⊎_elim
      (λ h. fork-parts f.behind f.one f.other (first f.one) (first f.other) refl refl (and_right (eqb (number f.class) (number c)) _ h))
      (shown-parts l)
      ((or-iff (shows p c f) (is_shown p c l)).0 e)

-- No fewer bytes than a class looks ahead are enough.
pub no-fewer : (p : Profile) (c : Class) (j : ℕ) → j < look_ahead p c → Parts p c j
no-fewer p c j i =
    ⊎_elim
    (λ e. let z = eqb-true (look_ahead p c) 0 e in absurd (omega arith))
    (shown-parts p c j i (forks p))
    ((or-iff (eqb (look_ahead p c) 0) (is_shown p c (forks p))).0 (each-class (λ c. eqb (look_ahead p c) 0 || is_shown p c (forks p)) (computed p) c))
