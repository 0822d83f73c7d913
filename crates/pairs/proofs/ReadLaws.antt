-- What the functions of `reading` promise, step by step: items one by one, a group from its opener to its closer, the whole list. Assumes nothing.
use Prim.Native.Nat.{ℕ, suc, ◌+◌, ◌<◌, max}
use native.Mathlib.Omega.{arith}
use mathlib.Core.Path.{◌≡◌, refl, sym, ◌∙◌, ap}
use mathlib.Core.Bool.{true, false, cond}
use mathlib.Core.List.{List, []}
use lib.Dec.{eqb}
use lib.ListN.{length, get_or}
use borrow.Author.Tests.{eq-eqb, ne_eqb, eqb-true, eqb-false}
use Rattle.keywords.proofs.Logic.{split}
use Rattle.brackets.specs.Refusals.{pair_refusal}
use Rattle.brackets.specs.Brackets.{is_opener, is_closer, closer_of, levels, Open, opening, deepest, refused, nesting}
use Rattle.std.specs.Prelude.{Ok, Err}
use Rattle.pairs.specs.declared.PairError.{PairError}
use Rattle.pairs.specs.declared.PairError.TheVariants.{TooDeep, WrongCloser, LeftOpen}
use Rattle.pairs.specs.Pairs.{refusal_of}
use Rattle.pairs.specs.Parts.{Part, upto, nesting_from, goes_on, Reads, ItemsEnd, GroupEnd, closed}
use Rattle.pairs.proofs.StepLaws.{plain-nesting, opener-nesting, opener-too-deep, closer-nesting, closer-of-none, end-nesting}

-- items: none yet, then one behind the other
module _ (ks : List ℕ) (from depth d : ℕ) where
  pub none_read : Reads ks from depth d (Ok (upto from d))
  unfolding Reads
  none_read os n = refl

  pub then-plain : (at m : ℕ) → at < length ks → is_opener (get_or ks at 0) ≡ false → is_closer (get_or ks at 0) ≡ false → Reads ks from depth d (Ok (upto at m))
      → Reads ks from depth d (Ok (upto (at + 1) m))
  unfolding Reads
  then-plain at m l o c p os n = p os n ∙ plain-nesting ks at l o c os m

  pub then-group : (at m : ℕ) (r : Part) → Reads ks from depth d (Ok (upto at m)) → Reads ks at depth m r → Reads ks from depth d r
  unfolding Reads
  then-group at m r p g os n = p os n ∙ g os n

-- a group
module _ (ks : List ℕ) (from depth d : ℕ) (l : from < length ks) (o : is_opener (get_or ks from 0) ≡ true) where
  pub group-too-deep : depth ≡ levels → Reads ks from depth d (Err (TooDeep from))
  unfolding Reads
  group-too-deep e os n = opener-too-deep ks from l o os d (n ∙ e)

  -- what `items` promises of the group's items, with its own opener open and the nesting g
  abbrev Inner : ℕ → Part → Type 0
  Inner g r = (g ≡ max d (depth + 1)) × Reads ks (from + 1) (depth + 1) g r × ItemsEnd ks (from + 1) r

  module _ (small : depth < levels) where
    opens : (g : ℕ) (r : Part) → Inner g r → (os : Open) → length os ≡ depth → nesting_from ks from os d ≡ goes_on ks (opening from (get_or ks from 0) os) r
    unfolding Reads
    opens g r (e, p, ends) os n =
        let within : Open = opening from (get_or ks from 0) os in
        let deeper : suc (length os) ≡ depth + 1 = omega (arith, n) in
        opener-nesting ks from l o os d (omega (arith, n)) ∙ ap (λ (k : ℕ). nesting_from ks (from + 1) within k) (ap (max d) deeper ∙ sym e) ∙ p within deeper

    pub group-faulty : (g : ℕ) (e : PairError) → Inner g (Err e) → Reads ks from depth d (Err e) × GroupEnd ks from (Err e)
    unfolding Reads
    group-faulty g e p = (opens g (Err e) p, tt)

    module _ (g at m : ℕ) (p : Inner g (Ok (upto at m))) where
      left_open : at ≡ length ks → Reads ks from depth d (Err (LeftOpen from))
      unfolding Reads
      left_open e os n = opens g (Ok (upto at m)) p os n ∙ end-nesting ks at (omega (arith, e)) _ m

      -- the closer where the items end decides
      meets : at < length ks → (os : Open) → length os ≡ depth
          → nesting_from ks from os d ≡ cond (eqb (get_or ks at 0) (closer_of (get_or ks from 0))) (nesting_from ks (at + 1) os m) (refused (pair_refusal "WrongCloser") at)
      meets inside os n = opens g (Ok (upto at m)) p os n ∙ closer-nesting ks at inside (p.2.2 inside) _ os m

      group-closed : Reads ks from depth d (closed ks from at m) × GroupEnd ks from (closed ks from at m)
      unfolding Reads
      group-closed =
          split (eqb at (length ks)) (λ e. rw e (left_open (eqb-true at (length ks) e), tt)) λ e.
          let inside : at < length ks = omega (arith, p.2.1, eqb-false at (length ks) e) in
          split (eqb (get_or ks at 0) (closer_of (get_or ks from 0)))
          (λ f. rw (e, f) (λ os n. meets inside os n ∙ rw f, (omega (arith, p.2.0), omega (arith, inside))))
          (λ f. rw (e, f) (λ os n. meets inside os n ∙ rw f, tt))

    -- the same of what `close` gave
    pub group-upto : (g at m : ℕ) → Inner g (Ok (upto at m)) → (p : Part) → p ≡ closed ks from at m → Reads ks from depth d p × GroupEnd ks from p
    group-upto g at m h p e = rw e (group-closed g at m h)

-- `close`: the list's end, a wrong closer, its own
module _ (ks : List ℕ) (from at d : ℕ) where
  pub closed-not : at ≡ length ks → Err (LeftOpen from) ≡ closed ks from at d
  closed-not e = rw (eq-eqb at (length ks) e)

  module _ (inside : at < length ks) (there closer : ℕ) (t : there ≡ get_or ks at 0) (c : closer ≡ closer_of (get_or ks from 0)) where
    more : eqb at (length ks) ≡ false
    more = ne_eqb at (length ks) (λ e. omega (arith, e, inside))

    pub closed-wrong : (there ≡ closer → ⊥) → Err (WrongCloser at) ≡ closed ks from at d
    closed-wrong n = rw (more, ne_eqb (get_or ks at 0) (closer_of (get_or ks from 0)) (λ e. n (t ∙ e ∙ sym c)))

    pub closed-right : there ≡ closer → Ok (upto (at + 1) d) ≡ closed ks from at d
    closed-right e = rw (more, eq-eqb (get_or ks at 0) (closer_of (get_or ks from 0)) (sym t ∙ e ∙ c))

-- the whole list
module _ (ks : List ℕ) where
  pub all_read : (at m : ℕ) → at ≡ length ks → Reads ks 0 0 0 (Ok (upto at m)) → deepest m ≡ nesting ks 0 [] 0
  unfolding Reads
  all_read at m e p = sym (p [] refl ∙ end-nesting ks at (omega (arith, e)) [] m)

  pub closer-left : (at m : ℕ) → at < length ks → ItemsEnd ks 0 (Ok (upto at m)) → Reads ks 0 0 0 (Ok (upto at m))
      → refused (pair_refusal "WrongCloser") at ≡ nesting ks 0 [] 0
  unfolding Reads
  closer-left at m inside ends p = sym (p [] refl ∙ closer-of-none ks at inside (ends.2 inside) m)

  pub all-faulty : (e : PairError) → Reads ks 0 0 0 (Err e) → refusal_of e ≡ nesting ks 0 [] 0
  unfolding Reads
  all-faulty e p = sym (p [] refl)
