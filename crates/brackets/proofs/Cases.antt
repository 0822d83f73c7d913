-- Openers and closers by their kinds, and cases: of a record, and of an index's place. Assumes nothing.
use Prim.Native.Nat.{ℕ, suc, ◌≤◌, ◌<◌}
use native.Mathlib.Omega.{arith}
use mathlib.Core.Path.{◌≡◌, refl, sym, ◌∙◌}
use mathlib.Core.Bool.{Bool, true, false, ◌||◌, true≢false}
use lib.Dec.{eqb, ltb}
use lib.ListN.{length}
use borrow.Author.Tests.{eqb-true, ltb-true, ltb-false}
use Rattle.keywords.proofs.Logic.{split}
use Rattle.keywords.specs.Kinds.{kind}
use Rattle.brackets.specs.Brackets.{is_opener, is_closer, closer_of, levels, Open, is_closed_by}

by-or : {X : Type 0} (a b : Bool) → a || b ≡ true → (a ≡ true → X) → (b ≡ true → X) → X
by-or true b e f g = f refl
by-or false b e f g = g e

-- a closer opens nothing
pub closer-no-opener : (k : ℕ) → is_closer k ≡ true → is_opener k ≡ false
closer-no-opener k e =
    by-or (eqb k (kind "TK_RP")) (eqb k (kind "TK_RBRACKET")) e (λ h. rw (eqb-true k (kind "TK_RP") h)) (λ h. rw (eqb-true k (kind "TK_RBRACKET") h))

pub not-both : (k : ℕ) → is_opener k ≡ true → is_closer k ≡ true → ⊥
not-both k o c = true≢false (sym o ∙ closer-no-opener k c)

-- what closes a bracket is a closer
pub closer_of-closes : (k : ℕ) → is_closer (closer_of k) ≡ true
closer_of-closes k = split (eqb k (kind "TK_LP")) (λ e. rw e) (λ e. rw e)

-- an opener, a closer, or no bracket
pub by_kind : {X : Type 0} (k : ℕ) → (is_opener k ≡ true → X) → (is_closer k ≡ true → X) → (is_opener k ≡ false → is_closer k ≡ false → X) → X
by_kind k opens closes plain = split (is_opener k) opens (λ o. split (is_closer k) closes (plain o))

-- an opener with a level left for it or without one, a right closer or a wrong one, or no bracket
pub by-record : {X : Type 0} (k : ℕ) (os : Open) → (is_opener k ≡ true → length os < levels → X) → (is_opener k ≡ true → levels ≤ length os → X)
    → (is_closer k ≡ true → is_closed_by os k ≡ true → X) → (is_closer k ≡ true → is_closed_by os k ≡ false → X)
    → (is_opener k ≡ false → is_closer k ≡ false → X) → X
by-record k os opens deep shuts wrong plain =
    by_kind k
    (λ o. split (ltb (length os) levels) (λ t. opens o (ltb-true (length os) levels t)) (λ t. deep o (ltb-false (length os) levels t)))
    (λ c. split (is_closed_by os k) (shuts c) (wrong c))
    plain

-- before i, or at it
pub by_last : {X : Type 0} (i j : ℕ) → j < suc i → (j < i → X) → (j ≡ i → X) → X
by_last i j h before last = split (ltb j i) (λ t. before (ltb-true j i t)) (λ t. last (omega (arith, ltb-false j i t)))

-- before o, at it, between it and i, or at i
pub by_place : {X : Type 0} (o i j : ℕ) → j < suc i → (j < o → X) → (j ≡ o → X) → (o < j → j < i → X) → (j ≡ i → X) → X
by_place {X} o i j h before first between last = by_last i j h inside last
  where
    inside : j < i → X
    inside l = split (ltb o j) (λ t. between (ltb-true o j t) l) (λ t. by_last o j (omega (arith, ltb-false o j t)) before first)
