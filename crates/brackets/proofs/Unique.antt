-- `pairing-unique`: a list of kinds has one right pairing at most. `partners-one`: so what the walk writes is the only one there is, and what
-- the list written over held plays no part. Assumes nothing.
use Prim.Native.Nat.{ℕ, zero, suc, ◌+◌, ◌≤◌, ◌<◌}
use native.Mathlib.Omega.{arith}
use mathlib.Core.Path.{◌≡◌, sym, ◌∙◌, ap}
use mathlib.Core.Bool.{true}
use mathlib.Core.List.{List, []}
use lib.ListN.{length, take}
use lib.Seq.{length-take-le, get_or-take, ext_get_or}
use Rattle.brackets.specs.Brackets.{is_opener, is_closer, deepest, nesting, partners}
use Rattle.brackets.specs.Pairings.{at, Pairing}
use Rattle.brackets.proofs.Cases.{closer_of-closes, by_kind}
use Rattle.brackets.proofs.PartnerLaws.{partners-right, partners-length}

-- an opener's partner is a closer
pub partner-closes : (ks ps : List ℕ) → Pairing ks ps → (i : ℕ) → i < length ks → is_opener (at ks i) ≡ true → is_closer (at ks (at ps i)) ≡ true
partner-closes ks ps p i h o = ap is_closer (p.opener i h o).2 ∙ closer_of-closes (at ks i)

-- No opener is closed earlier in one right pairing than in another: the closer that does it has, in the other, an opener behind this one,
-- which is closed earlier too; and so on, without end.
not_earlier : (ks ps qs : List ℕ) → Pairing ks ps → Pairing ks qs → (fuel i : ℕ) → length ks ≤ fuel + i → i < length ks → is_opener (at ks i) ≡ true
    → at ps i < at qs i → ⊥
not_earlier ks ps qs p q zero i few h o less = omega arith
not_earlier ks ps qs p q (suc fuel) i few h o less =
    let j = at ps i in
    let m = at qs j in
    let (i<j, j<n, kinds) = p.opener i h o in
    let (i<m, inside) = q.within i j h o i<j less in
    let (m<n, opens) = q.closer j j<n (partner-closes ks ps p i h o) in
    let again : at qs m ≡ j = q.back j j<n in
    let (m<j, known, same) = q.opener m m<n opens in
    let (above, below) = p.within i m h o i<m (omega (arith, m<j, again)) in
    not_earlier ks ps qs p q fuel m (omega arith) m<n opens (omega (arith, below, again))

-- so openers have the same partners in both
openers-agree : (ks ps qs : List ℕ) → Pairing ks ps → Pairing ks qs → (i : ℕ) → i < length ks → is_opener (at ks i) ≡ true → at ps i ≡ at qs i
openers-agree ks ps qs p q i h o =
    let not-less = not_earlier ks ps qs p q (length ks) i (omega arith) h o in
    let not_more = not_earlier ks qs ps q p (length ks) i (omega arith) h o in
    omega (arith, not-less, not_more)

-- and so have closers, whose partners are openers
closers-agree : (ks ps qs : List ℕ) → Pairing ks ps → Pairing ks qs → (i : ℕ) → i < length ks → is_closer (at ks i) ≡ true → at ps i ≡ at qs i
closers-agree ks ps qs p q i h c =
    let (o<n, opens) = p.closer i h c in
    let same : at ps (at ps i) ≡ at qs (at ps i) = openers-agree ks ps qs p q (at ps i) o<n opens in
    let closed : at qs (at ps i) ≡ i = sym same ∙ p.back i h in
    sym (q.back (at ps i) o<n) ∙ ap (at qs) closed

pub pairing-unique : (ks ps qs : List ℕ) → Pairing ks ps → Pairing ks qs → (i : ℕ) → i < length ks → at ps i ≡ at qs i
pairing-unique ks ps qs p q i h =
    by_kind (at ks i) (openers-agree ks ps qs p q i h) (closers-agree ks ps qs p q i h) (λ o c. p.plain i h o c ∙ sym (q.plain i h o c))

pub partners-one : (ks ps : List ℕ) (d : ℕ) (qs : List ℕ) → length ks ≤ length ps → length qs ≡ length ks → nesting ks 0 [] 0 ≡ deepest d → Pairing ks qs
    → take (length ks) (partners ks 0 [] ps) ≡ qs
partners-one ks ps d qs room size e q = ext_get_or 0 (take (length ks) written) qs (long ∙ sym size) same
  where
    written : List ℕ
    written = partners ks 0 [] ps

    long : length (take (length ks) written) ≡ length ks
    long = length-take-le (length ks) written (omega (arith, partners-length ks ps))

    same : (i : ℕ) → i < length (take (length ks) written) → at (take (length ks) written) i ≡ at qs i
    same i h =
        let l : i < length ks = omega (arith, long) in
        get_or-take (length ks) written i 0 l ∙ pairing-unique ks written qs (partners-right ks ps d room e) q i l
