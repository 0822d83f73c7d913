-- A run of digits read by states: from one that digits lead back to, over one behind `_`. Assumes nothing.
use Prim.Native.Nat.{ℕ, ◌+◌, ◌≤◌, ◌<◌}
use native.Mathlib.Omega.{arith}
use mathlib.Core.Path.{◌≡◌, refl, sym, subst}
use mathlib.Core.Bool.{true, false, ◌&&◌}
use mathlib.Core.List.{List, [], ◌∷◌}
use lib.ListN.{length, drop}
use Rattle.std.specs.Prelude.{Ok, Err}
use Rattle.keywords.proofs.Logic.{split}
use Rattle.grammar.specs.declared.profile.Profile.{Profile}
use Rattle.grammar.specs.Form.{Set, no, holds}
use Rattle.grammar.specs.Runs.{char, sees}
use Rattle.grammar.proofs.States.{State, met}
use Rattle.grammar.proofs.Seen.{inside, moved-one, seen-in}
use Rattle.grammar.proofs.Scan.{goes, meets}
use Rattle.grammar.proofs.Reading.{ReadsUnder, EndsUnder, reads-eat, reads-joined, reads-stop}
use Rattle.lexer.specs.Eaten.{tally, groups, Digits, span}
use Rattle.grammar.proofs.Places.{Only, Group}
use Rattle.lexer.proofs.SpanLaws.{tail, seen, missed, only-snoc, group-digit, group-start}

-- what digits of t and `_` between them do: digits lead back to q, `_` to u, from where a digit leads back and nothing else goes on;
-- v is a set that has them all
pub record Run (t v : Set) (q u : State) (k : ℕ) : Type 0 where
  pub digit : goes q t q && meets q ≡ true
  pub line : goes q (char "_") u && meets u ≡ true
  pub back : goes u t q && goes q t q && meets q ≡ true
  pub stop : goes u (no t) [] ≡ true
  pub rule : met u ≡ k ∷ []
  pub digits_in : inside t v ≡ true
  pub line-in : inside (char "_") v ≡ true
  pub apart : inside (char "_") (no t) ≡ true

-- behind a run from i on that ended well
pub record After (t v : Set) (π : Profile) (s : List ℕ) (from i e : ℕ) (q : State) : Type 0 where
  pub reads : ReadsUnder π s from e q
  pub only : Only v s from e
  pub digit : sees t (drop e s) ≡ false
  pub line : sees (char "_") (drop e s) ≡ false
  pub up : i ≤ e

-- at a `_` that no digit follows
pub record Stuck (t : Set) (π : Profile) (s : List ℕ) (from i g e k : ℕ) : Type 0 where
  pub ends : EndsUnder π s from e k
  pub line : ℕ
  pub last : e ≡ line + 1
  pub group : Group t s from g line
  pub up : i ≤ g
  pub inside : g ≤ line
  pub text : line < length s

abbrev Result : Set → Set → Profile → List ℕ → ℕ → ℕ → State → ℕ → Digits → Type 0
Result t v π s from i q k (Ok a) = After t v π s from i a.cursor.at q
Result t v π s from i q k (Err b) = Stuck t π s from i b.from.at b.to.at k

module _ {t v : Set} {q u : State} {k : ℕ} (run : Run t v q u k) (s : List ℕ) (from : ℕ) where
  reads-digits : {π : Profile} (base : ℕ) (l : List ℕ) (g i n m : ℕ)
      → drop i s ≡ l → ReadsUnder π s from i q → Only v s from i → Group t s from g i → base ≤ g → g ≤ i
      → Result t v π s from base q k (groups t g i n m l)
  unfolding groups sees
  reads-digits base [] g i n m e p o r a h = record { reads = p; only = o; digit = rw e; line = rw e; up = omega arith }
  reads-digits base (b ∷ l) g i n m e p o r a h =
      split (holds t b)
      (λ x. let y = seen s i b l e t x in
      rw x (reads-digits base l g (i + 1) (n + 1) m (tail s i b l e) (reads-eat p t q run.digit y (sym (moved-one t s i y)))
      (only-snoc v s from i p.ordered t run.digits_in y o) (group-digit t s from i p.ordered g y r) a (omega arith)))
      (λ x. let y = missed s i b l e t x in
      split (holds (char "_") b)
      (λ z. let w = seen s i b l e (char "_") z in
      let under = reads-eat p (char "_") u run.line w (sym (moved-one (char "_") s i w)) in
      split (sees t l)
      (λ f. let j : sees t (drop (i + 1) s) ≡ true = rw (tail s i b l e) f in
      rw (x, z, f) (reads-digits base l (i + 1) (i + 1) n (m + 1) (tail s i b l e) (reads-joined under q t q run.back j)
      (only-snoc v s from i p.ordered (char "_") run.line-in w o)
      (group-start t s from i p.ordered (char "_") run.apart w) (omega arith) (omega arith)))
      (λ f. let j : sees t (drop (i + 1) s) ≡ false = rw (tail s i b l e) f in
      let ends = reads-stop under t k run.stop run.rule j in
      rw (x, z, f) (record { ends = ends; line = i; last = refl; group = r; up = a; inside = h; text = seen-in (char "_") s i w })))
      (λ z. rw (x, z) (record { reads = p; only = o; digit = y; line = missed s i b l e (char "_") z; up = omega arith })))

  module _ {π : Profile} {i : ℕ} (p : ReadsUnder π s from i q) (o : Only v s from i) (r : Group t s from i i) (n m : ℕ) where
    pub digits-after : {e d x : ℕ} → Ok (tally e d x) ≡ groups t i i n m (drop i s) → After t v π s from i e q
    digits-after f = subst (Result t v π s from i q k) (sym f) (reads-digits i (drop i s) i i n m refl p o r (omega arith) (omega arith))

    pub digits-stuck : {g e : ℕ} → Err (span g e) ≡ groups t i i n m (drop i s) → Stuck t π s from i g e k
    digits-stuck f = subst (Result t v π s from i q k) (sym f) (reads-digits i (drop i s) i i n m refl p o r (omega arith) (omega arith))
