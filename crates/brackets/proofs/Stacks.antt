-- Where a walk over a list of kinds stands: below index i each bracket that is not open has its partner, and what lies before, between and
-- behind the open ones is paired within itself. Assumes nothing.
use Prim.Native.Nat.{ℕ, suc, ◌≤◌, ◌<◌, zero-le}
use native.Mathlib.Omega.{arith}
use mathlib.Core.Path.{◌≡◌, sym, ◌∙◌, ap}
use mathlib.Core.Bool.{true, false}
use mathlib.Core.List.{List, [], ◌∷◌}
use lib.ListN.{length, set, length-set}
use lib.Seq.{get_or-set_same, get_or-set_other}
use Rattle.brackets.specs.Brackets.{is_opener, is_closer, closer_of, Opened, Open, opening, paired}
use Rattle.brackets.specs.Pairings.{at}
use Rattle.brackets.proofs.Segments.{Whole, Agree, whole-empty, agree-whole, whole_plain, whole-group}

-- an open bracket, and what lies behind it up to index i
pub record OpenAt (ks ps : List ℕ) (i : ℕ) (o : Opened) : Type 0 where
  pub before : o.at < i
  pub opener : is_opener (at ks o.at) ≡ true
  pub kind : o.kind ≡ at ks o.at
  pub behind : Whole ks ps (suc o.at) i

-- those that are open at index i, the innermost first, and all that lies before the outermost
abbrev pub Walked : (ks ps : List ℕ) (i : ℕ) → Open → Type 0
Walked ks ps i [] = Whole ks ps 0 i
Walked ks ps i (o ∷ os) = OpenAt ks ps i o × Walked ks ps o.at os

-- the index behind the innermost: from there on everything is paired within itself
abbrev pub since : Open → ℕ
since [] = 0
since (o ∷ os) = suc o.at

since-le : (ks ps : List ℕ) (i : ℕ) (os : Open) → Walked ks ps i os → since os ≤ i
since-le ks ps i [] w = zero-le
since-le ks ps i (o ∷ os) (top, rest) = top.before

-- what is written at index i or behind it changes nothing of this
agree-walked : (ks ps qs : List ℕ) (i : ℕ) (os : Open) → Agree ps qs 0 i → Walked ks ps i os → Walked ks qs i os
agree-walked ks ps qs i [] same w = agree-whole ks ps qs 0 i same w
agree-walked ks ps qs i (o ∷ os) same (top, rest) =
    let b = top.before in (
      record {
        before = b;
        opener = top.opener;
        kind = top.kind;
        behind = agree-whole ks ps qs (suc o.at) i (λ j h k. same j zero-le k) top.behind;
      },
      agree-walked ks ps qs o.at os (λ j h k. same j h (omega arith)) rest,
    )

-- the same are open further on, where the part behind the innermost is longer
lengthen : (ks ps : List ℕ) (i n : ℕ) (os : Open) → i ≤ n → (Whole ks ps (since os) i → Whole ks ps (since os) n) → Walked ks ps i os → Walked ks ps n os
lengthen ks ps i n [] h more w = more w
lengthen ks ps i n (o ∷ os) h more (top, rest) =
    let b = top.before in
    (record { before = omega arith; opener = top.opener; kind = top.kind; behind = more top.behind }, rest)

-- an opener is open, with nothing behind it yet
pub walked-opener : (ks ps : List ℕ) (i k : ℕ) (os : Open) → at ks i ≡ k → is_opener k ≡ true → Walked ks ps i os → Walked ks ps (suc i) (opening i k os)
walked-opener ks ps i k os e o w = (record { before = omega arith; opener = ap is_opener e ∙ o; kind = sym e; behind = whole-empty ks ps (suc i) }, w)

-- what is no bracket lengthens the part behind the innermost
pub walked-plain : (ks ps : List ℕ) (i : ℕ) (os : Open) → i < length ps → is_opener (at ks i) ≡ false → is_closer (at ks i) ≡ false → Walked ks ps i os
    → Walked ks (set ps i i) (suc i) os
walked-plain ks ps i os l o c w =
    lengthen ks qs i (suc i) os (omega arith) (λ s. whole_plain ks qs (since os) i (since-le ks ps i os w) s (get_or-set_same ps i i 0 l) o c)
    (agree-walked ks ps qs i os (λ j h k. get_or-set_other ps i j i 0 (omega arith)) w)
  where
    qs : List ℕ
    qs = set ps i i

-- a closer makes a group, which lengthens the part behind the next one that is open
pub walked-closer : (ks ps : List ℕ) (i : ℕ) (o : Opened) (os : Open) → i < length ps → at ks i ≡ closer_of o.kind → Walked ks ps i (o ∷ os)
    → Walked ks (paired i (o ∷ os) ps) (suc i) os
walked-closer ks ps i o os l e (top, rest) = lengthen ks qs o.at (suc i) os (omega (arith, b)) group outside
  where
    b : o.at < i
    b = top.before

    qs : List ℕ
    qs = paired i (o ∷ os) ps

    fro : at qs i ≡ o.at
    fro = get_or-set_same (set ps o.at i) i o.at 0 (rw length-set l)

    to : at qs o.at ≡ i
    to = get_or-set_other (set ps o.at i) i o.at o.at 0 (omega (arith, b)) ∙ get_or-set_same ps o.at i 0 (omega (arith, b))

    other : (j : ℕ) → (j ≡ o.at → ⊥) → (j ≡ i → ⊥) → at qs j ≡ at ps j
    other j h k = get_or-set_other (set ps o.at i) i j o.at 0 k ∙ get_or-set_other ps o.at j i 0 h

    between : Whole ks qs (suc o.at) i
    between = agree-whole ks ps qs (suc o.at) i (λ j h k. other j (omega arith) (omega arith)) top.behind

    outside : Walked ks qs o.at os
    outside = agree-walked ks ps qs o.at os (λ j h k. other j (omega arith) (omega (arith, b))) rest

    group : Whole ks qs (since os) o.at → Whole ks qs (since os) (suc i)
    group before =
        let kinds : at ks i ≡ closer_of (at ks o.at) = e ∙ ap closer_of top.kind in
        whole-group ks qs (since os) o.at i (since-le ks ps o.at os rest) b before between to fro top.opener kinds
