-- The bytes of U are those that start nothing else. Assumes nothing.
use Prim.Native.Nat.{ℕ, zero, suc, ◌<◌}
use native.Mathlib.Nat.{not-suc-le-zero}
use mathlib.Core.Path.{◌≡◌, refl, sym, ◌∙◌, ap, subst}
use mathlib.Core.Bool.{Bool, true, beq}
use mathlib.Core.List.{List, [], ◌∷◌}
use mathlib.Core.Logic.{◌↔◌}
use lib.Dec.{eqb}
use lib.ListN.{length, take}
use borrow.Author.Tests.{eqb-true, eq-eqb}
use Rattle.keywords.proofs.Logic.{every}
use Rattle.words.specs.Bytes.{is_digit, is_hexdigit, is_identifier_start, is_identifier_continue, is_blank}
use Rattle.grammar.specs.Form.{holds, Has}
use Rattle.grammar.specs.declared.profile.Profile.{Profile}
use Rattle.grammar.specs.declared.profile.Profile.TheVariants.{Turso, Sqlite}
use Rattle.grammar.specs.Classes.{Class, unrecognized, U, operators, rules}
use Rattle.grammar.specs.Longest.{Stands}
use Rattle.grammar.proofs.Equivalences.{beq-eq, some-every}
use Rattle.grammar.proofs.States.{Left, State, rule_at, start, step, after-in}
use Rattle.grammar.proofs.High.{low, low-set, low_small}
use Rattle.grammar.proofs.Reach.{below, below_at}
use Rattle.grammar.proofs.ClassLaws.{number, place_of}
use Rattle.grammar.proofs.Lexemes
use Rattle.grammar.proofs.Theorems.{sound, exists}

-- the place of the class's only rule
abbrev u : ℕ
u = place_of unrecognized (rules Turso)

-- behind a byte of U that rule is left alone, behind any other byte it is not left
abbrev agrees : ℕ → Left → Bool
agrees b x = beq (eqb x.place u) (holds U b)

is_parted : Profile → ℕ → Bool
is_parted π b = every (agrees b) (step b (start (rules π)))

parted : (π : Profile) → below 129 (is_parted π) ≡ true
unfolding is_parted rules operators is_digit is_hexdigit is_identifier_start is_identifier_continue is_blank
parted Turso = refl
parted Sqlite = refl

-- no other rule is of the class
is_rule_u : Profile → ℕ → Bool
is_rule_u π k = beq (eqb (number (rule_at (rules π) k).class) (number unrecognized)) (eqb k u)

only-u : (π : Profile) → below (length (rules π)) (is_rule_u π) ≡ true
unfolding is_rule_u rules
only-u π = refl

class-u : (π : Profile) → (rule_at (rules π) u).class ≡ unrecognized
unfolding rules
class-u π = refl

module _ (π : Profile) where
  -- whether a lexeme's rule is that one, its first byte tells
  by_first : (b : ℕ) (s : List ℕ) (c : Class) (n : ℕ) → Stands (rules π) c (b ∷ s) n
      → (k : ℕ) × (k < length (rules π)) × ((rule_at (rules π) k).class ≡ c) × (eqb k u ≡ holds U b)
  unfolding is_parted
  by_first b s c zero t = absurd (not-suc-le-zero (Lexemes.positive (rules π) (sound π) (b ∷ s) c 0 t))
  by_first b s c (suc n) t =
      let (l, (k, i, e, m, o)) = (Lexemes.anywhere-meets (rules π) (sound π) c (b ∷ s) (suc n)).0 (Lexemes.stands-anywhere (rules π) (sound π) c (b ∷ s) (suc n) t) in
      let p = below_at (is_parted π) 129 (parted π) (low b) (low_small b) in
      let q = subst (λ (q : State). every (agrees (low b)) q ≡ true) (Lexemes.low-at (rules π) (sound π) b []) p in
      let h = (after-in k (take n s) (step b (start (rules π)))).0 m in
      let (x, d, f) = some-every (agrees (low b)) (λ x. (x.place ≡ k) × Has x.form (take n s)) (step b (start (rules π))) q h in
      let g = beq-eq (eqb x.place u) (holds U (low b)) f in
      (k, i, e, ap (λ (j : ℕ). eqb j u) (sym d.0) ∙ g ∙ low-set b U refl)

  starts-nothing : (b : ℕ) → holds U b ≡ true → (c : Class) (s : List ℕ) (n : ℕ) → Stands (rules π) c (b ∷ s) n → c ≡ unrecognized
  starts-nothing b h c s n t =
      let (k, i, e, f) = by_first b s c n t in
      sym e ∙ ap (λ (k : ℕ). (rule_at (rules π) k).class) (eqb-true k u (f ∙ h)) ∙ class-u π

  is-U : (b : ℕ) (s : List ℕ) (n : ℕ) → Stands (rules π) unrecognized (b ∷ s) n → holds U b ≡ true
  unfolding is_rule_u
  is-U b s n t =
      let (k, i, e, f) = by_first b s unrecognized n t in
      let g = beq-eq (eqb (number (rule_at (rules π) k).class) (number unrecognized)) (eqb k u) (below_at (is_rule_u π) (length (rules π)) (only-u π) k i) in
      sym f ∙ sym g ∙ eq-eqb (number (rule_at (rules π) k).class) (number unrecognized) (ap number e)

  pub U-starts-nothing-else : (b : ℕ) → (holds U b ≡ true) ↔ ((c : Class) (s : List ℕ) (n : ℕ) → Stands (rules π) c (b ∷ s) n → c ≡ unrecognized)
  U-starts-nothing-else b = (starts-nothing b, back)
    where
      back : ((c : Class) (s : List ℕ) (n : ℕ) → Stands (rules π) c (b ∷ s) n → c ≡ unrecognized) → holds U b ≡ true
      back h =
          let (c, n, p, l) = exists π b [] in
          is-U b [] n (subst (λ (c : Class). Stands (rules π) c (b ∷ []) n) (h c [] n l.stands) l.stands)
