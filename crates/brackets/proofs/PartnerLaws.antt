-- `partners-right`: where a list of kinds is not refused, the partners written are right, whatever the list written over held.
-- `partners-length`, `partners-behind`: its length, and what it held behind them, stay. Assumes nothing.
use Prim.Native.Nat.{ℕ, suc, ◌+◌, ◌≤◌, ◌<◌, max}
use native.Mathlib.Omega.{arith}
use mathlib.Core.Path.{◌≡◌, refl, sym, ◌∙◌, ap, subst}
use mathlib.Core.Bool.{true, false, true≢false}
use mathlib.Core.List.{List, [], ◌∷◌}
use lib.ListN.{length, drop, set, length-set}
use lib.Seq.{drop-set-lt}
use borrow.Author.Tests.{eqb-true}
use Rattle.brackets.specs.Brackets.{is_opener, is_closer, closer_of, Open, opening, is_closed_by, closing, deepest, nesting, paired, partners}
use Rattle.brackets.specs.Pairings.{at, Pairing}
use Rattle.brackets.proofs.Cases.{by_kind}
use Rattle.brackets.proofs.Segments.{Whole, whole-empty, whole-pairing}
use Rattle.brackets.proofs.Stacks.{Walked, walked-opener, walked-plain, walked-closer}
use Rattle.brackets.proofs.StepLaws.{Left, left-all, left-before, left_here, left-on}
use Rattle.brackets.proofs.StepLaws.{nesting-opener, nesting-closer, nesting-plain, opens_small, closes-right, none_left}
use Rattle.brackets.proofs.StepLaws.{partners-opener, partners-closer, partners-plain, partners-end}

-- a pair takes no room and writes nothing behind it
length-paired : (i : ℕ) (os : Open) (ps : List ℕ) → length (paired i os ps) ≡ length ps
length-paired i [] ps = refl
length-paired i (o ∷ os) ps = length-set (set ps o.at i) i o.at ∙ length-set ps o.at i

partners-length-from : (ks : List ℕ) (i : ℕ) (os : Open) (ps : List ℕ) → length (partners ks i os ps) ≡ length ps
partners-length-from [] i os ps = ap length (partners-end i os ps)
partners-length-from (k ∷ ks) i os ps =
    by_kind k
    (λ o. ap length (partners-opener k ks i os ps o) ∙ partners-length-from ks (suc i) (opening i k os) ps)
    (λ c. ap length (partners-closer k ks i os ps c) ∙ partners-length-from ks (suc i) (closing os) (paired i os ps) ∙ length-paired i os ps)
    (λ o c. ap length (partners-plain k ks i os ps o c) ∙ partners-length-from ks (suc i) os (set ps i i) ∙ length-set ps i i)

-- all that are open lie before index n
abbrev OpenBefore : ℕ → Open → Type 0
OpenBefore n [] = Unit {0}
OpenBefore n (o ∷ os) = (o.at < n) × OpenBefore n os

closing-before : (n : ℕ) (os : Open) → OpenBefore n os → OpenBefore n (closing os)
closing-before n [] b = tt
closing-before n (o ∷ os) (h, b) = b

drop-paired : (n i : ℕ) (os : Open) (ps : List ℕ) → i < n → OpenBefore n os → drop n (paired i os ps) ≡ drop n ps
drop-paired n i [] ps l b = refl
drop-paired n i (o ∷ os) ps l (h, b) = drop-set-lt n (set ps o.at i) i o.at l ∙ drop-set-lt n ps o.at i h

-- nothing is written at index n or behind it, where the records end before it
partners-behind-from : (n : ℕ) (ks : List ℕ) (i : ℕ) (os : Open) (ps : List ℕ) → i + length ks ≤ n → OpenBefore n os
    → drop n (partners ks i os ps) ≡ drop n ps
partners-behind-from n [] i os ps l b = ap (drop n) (partners-end i os ps)
partners-behind-from n (k ∷ ks) i os ps l b =
    by_kind k
    (λ o. ap (drop n) (partners-opener k ks i os ps o) ∙ partners-behind-from n ks (suc i) (opening i k os) ps (omega arith) (omega arith, b))
    (λ c. ap (drop n) (partners-closer k ks i os ps c) ∙
    partners-behind-from n ks (suc i) (closing os) (paired i os ps) (omega arith) (closing-before n os b) ∙ drop-paired n i os ps (omega arith) b)
    (λ o c. ap (drop n) (partners-plain k ks i os ps o c) ∙
    partners-behind-from n ks (suc i) os (set ps i i) (omega arith) b ∙ drop-set-lt n ps i i (omega arith))

-- for every list, refused or not
pub partners-length : (ks ps : List ℕ) → length (partners ks 0 [] ps) ≡ length ps
partners-length ks ps = partners-length-from ks 0 [] ps

pub partners-behind : (ks ps : List ℕ) → drop (length ks) (partners ks 0 [] ps) ≡ drop (length ks) ps
partners-behind ks ps = partners-behind-from (length ks) ks 0 [] ps (omega arith) tt

module _ (ks : List ℕ) (m : ℕ) where
  -- a closer that is the right one leaves less open
  closes : (i k : ℕ) (os : Open) (ps : List ℕ) → i < length ps → at ks i ≡ k → is_closed_by os k ≡ true → Walked ks ps i os
      → Walked ks (paired i os ps) (suc i) (closing os)
  closes i k [] ps l e t w = absurd (true≢false (sym t))
  closes i k (o ∷ os) ps l e t w = walked-closer ks ps i o os l (e ∙ eqb-true k (closer_of o.kind) t) w

  -- from any index i on, where those before it are paired as far as they can be, the partners come out right
  abbrev RightFrom : List ℕ → Type 0
  RightFrom rest = (i : ℕ) (os : Open) (ps : List ℕ) (d : ℕ) → Left ks i rest → length ks ≤ length ps → nesting rest i os d ≡ deepest m
      → Walked ks ps i os → Pairing ks (partners rest i os ps)

  -- nothing is left open at the end
  right_end : RightFrom []
  right_end i [] ps d l room e w =
      let all : i ≡ length ks = omega (arith, l.counts) in
      rw (partners-end i [] ps) (whole-pairing ks ps room (subst (Whole ks ps 0) all w))
  right_end i (o ∷ os) ps d l room e w = absurd (none_left i o os d m e)

  right-step : (k : ℕ) (rest : List ℕ) → RightFrom rest → RightFrom (k ∷ rest)
  right-step k rest right i os ps d l room e w = by_kind k opens shuts passes
    where
      inside : i < length ps
      inside = omega (arith, left-before ks i k rest l)

      here : at ks i ≡ k
      here = left_here ks i k rest l

      on : Left ks (suc i) rest
      on = left-on ks i k rest l

      opens : is_opener k ≡ true → Pairing ks (partners (k ∷ rest) i os ps)
      opens o =
          let next = sym (nesting-opener k rest i os d o (opens_small k rest i os d m e o)) ∙ e in
          let walked = walked-opener ks ps i k os here o w in
          rw (partners-opener k rest i os ps o) (right (suc i) (opening i k os) ps (max d (suc (length os))) on room next walked)

      shuts : is_closer k ≡ true → Pairing ks (partners (k ∷ rest) i os ps)
      shuts c =
          let t = closes-right k rest i os d m e c in
          let next = sym (nesting-closer k rest i os d c t) ∙ e in
          let walked = closes i k os ps inside here t w in
          rw (partners-closer k rest i os ps c) (right (suc i) (closing os) (paired i os ps) d on (omega (arith, length-paired i os ps)) next walked)

      passes : is_opener k ≡ false → is_closer k ≡ false → Pairing ks (partners (k ∷ rest) i os ps)
      passes o c =
          let next = sym (nesting-plain k rest i os d o c) ∙ e in
          let walked = walked-plain ks ps i os inside (ap is_opener here ∙ o) (ap is_closer here ∙ c) w in
          rw (partners-plain k rest i os ps o c) (right (suc i) os (set ps i i) d on (omega (arith, length-set ps i i)) next walked)

  right-from : (rest : List ℕ) → RightFrom rest
  right-from [] = right_end
  right-from (k ∷ rest) = right-step k rest (right-from rest)

pub partners-right : (ks ps : List ℕ) (d : ℕ) → length ks ≤ length ps → nesting ks 0 [] 0 ≡ deepest d → Pairing ks (partners ks 0 [] ps)
partners-right ks ps d room e = right-from ks d ks 0 [] ps 0 (left-all ks) room e (whole-empty ks ps 0)
