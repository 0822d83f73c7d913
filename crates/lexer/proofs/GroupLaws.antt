-- Runs of digits in groups, over plain texts and places. Assumes nothing.
use Prim.Native.Nat.{ℕ, suc, ◌+◌, ◌-◌}
use native.Mathlib.Nat.{add-zero}
use native.Mathlib.Omega.{arith}
use mathlib.Core.Path.{◌≡◌, refl, sym, ◌∙◌, ap}
use mathlib.Core.Bool.{true, false, true≢false}
use mathlib.Core.List.{List, [], ◌∷◌}
use lib.ListN.{drop}
use lib.Seq.{drop-drop}
use Rattle.std.specs.Prelude.{Ok, Err}
use Rattle.keywords.proofs.Logic.{split}
use Rattle.grammar.specs.Form.{Set, H, holds}
use Rattle.grammar.specs.Runs.{char, sees, run_length, over}
use Rattle.grammar.proofs.Seen.{over-stops}
use Rattle.lexer.specs.Eaten.{tally, groups, hex_groups, Digits, span}

-- where a run ends
abbrev pub end_of : Digits → ℕ
end_of (Ok a) = a.cursor.at
end_of (Err b) = b.to.at

-- where the span of a bad one begins
abbrev pub first_of : Digits → ℕ
first_of (Ok a) = a.cursor.at
first_of (Err b) = b.from.at

groups-run : (t : Set) (g i n u : ℕ) (l : List ℕ) → groups t g i n u l ≡ groups t g (i + run_length t l) (n + run_length t l) u (drop (run_length t l) l)
unfolding groups run_length
groups-run t g i n u [] = rw (add-zero i, add-zero n)
groups-run t g i n u (b ∷ l) =
    split (holds t b)
    (λ e. let rest = drop (run_length t l) l in
    rw e (groups-run t g (i + 1) (n + 1) u l
    ∙ ap (λ (k : ℕ). groups t g k (n + 1 + run_length t l) u rest) (omega arith) ∙ ap (λ (k : ℕ). groups t g (i + suc (run_length t l)) k u rest) (omega arith)))
    (λ e. rw (e, add-zero i, add-zero n, e))

-- where the digits of a group end
module _ (t : Set) (g i n u : ℕ) where
  pub groups-read : (l : List ℕ) → sees t l ≡ false → sees (char "_") l ≡ false → groups t g i n u l ≡ Ok (tally i n u)
  unfolding sees groups
  groups-read [] d e = refl
  groups-read (b ∷ l) d e = rw (d, e)

  groups-bad : (l : List ℕ) → sees t l ≡ false → sees (char "_") l ≡ true → sees t (drop 1 l) ≡ false → groups t g i n u l ≡ Err (span g (i + 1))
  unfolding sees groups
  groups-bad [] d e f = absurd (true≢false (sym e))
  groups-bad (b ∷ l) d e f = rw (d, e, f)

  groups-more : (l : List ℕ) → sees t l ≡ false → sees (char "_") l ≡ true → sees t (drop 1 l) ≡ true
      → groups t g i n u l ≡ groups t (i + 1) (i + 1) n (u + 1) (drop 1 l)
  unfolding sees groups
  groups-more [] d e f = absurd (true≢false (sym e))
  groups-more (b ∷ l) d e f = rw (d, e, f)

-- a group of a run, from its start g to d
module _ (t : Set) (s : List ℕ) (g d n u : ℕ) (e : d ≡ over t g s) where
  to_end : groups t g g n u (drop g s) ≡ groups t g d (n + (d - g)) u (drop d s)
  unfolding over
  to_end =
      let m : n + (d - g) ≡ n + run_length t (drop g s) = omega arith in
      groups-run t g g n u (drop g s) ∙ rw (drop-drop, ← e, m)

  misses : sees t (drop d s) ≡ false
  misses = over-stops t s g d e

  pub group-read : sees (char "_") (drop d s) ≡ false → groups t g g n u (drop g s) ≡ Ok (tally d (n + (d - g)) u)
  group-read h = to_end ∙ groups-read t g d _ _ (drop d s) misses h

  module _ (h : sees (char "_") (drop d s) ≡ true) (m : ℕ) (f : m ≡ d + 1) where
    behind-it : drop 1 (drop d s) ≡ drop m s
    behind-it = rw (f, drop-drop)

    pub group-bad : sees t (drop m s) ≡ false → groups t g g n u (drop g s) ≡ Err (span g m)
    group-bad k = to_end ∙ groups-bad t g d _ _ (drop d s) misses h (rw behind-it k) ∙ rw f

    pub group-more : sees t (drop m s) ≡ true → groups t g g n u (drop g s) ≡ groups t m m (n + (d - g)) (u + 1) (drop m s)
    group-more k = to_end ∙ groups-more t g d _ _ (drop d s) misses h (rw behind-it k) ∙ rw (behind-it, f)

-- hexadecimal groups: the first may not be empty
pub hex-groups : (g n u : ℕ) (l : List ℕ) → sees (char "_") l ≡ false → hex_groups g n u l ≡ groups H g g n u l
unfolding hex_groups
hex-groups g n u l e = rw e

pub hex-empty : (g n u : ℕ) (l : List ℕ) → sees (char "_") l ≡ true → hex_groups g n u l ≡ Err (span g g)
unfolding hex_groups
hex-empty g n u l e = rw e
