-- The tables of texts hold. Assumes nothing.
use Prim.Native.Nat.{ℕ, zero, suc}
use mathlib.Core.Path.{◌≡◌, refl, ap, subst}
use mathlib.Core.Bool.{Bool, true, false, not, cond, ◌&&◌, ◌||◌}
use mathlib.Core.List.{List, [], ◌∷◌, ◌++◌, map, head-eq_of_cons-eq, tail-eq_of_cons-eq}
use lib.Dec.{eqb, ltb}
use lib.ListN.{length, take, drop}
use borrow.Author.Tests.{eq-eqb}
use Rattle.keywords.specs.Kinds.{kind_names}
use Rattle.keywords.specs.Words.{word_list}
use Rattle.keywords.proofs.Logic.{and_left, and_right, every}
use Rattle.words.specs.Bytes.{is_digit, is_hexdigit, is_identifier_start, is_identifier_continue, is_blank}
use Rattle.words.specs.Word.{upper, kind_of}
use Rattle.grammar.specs.Form.{Set, holds, Has}
use Rattle.grammar.specs.declared.profile.Profile.{Profile}
use Rattle.grammar.specs.declared.profile.Profile.TheVariants.{Turso, Sqlite}
use Rattle.grammar.specs.Classes.{Class, Rule, by, operators, rules}
use Rattle.grammar.specs.Refusals.{refusals}
use Rattle.grammar.specs.Answers.{Answer, token, end, refusal, answer}
use Rattle.grammar.specs.Longest.{Every, Follows, Stands, Gives}
use Rattle.grammar.specs.Texts
use Rattle.grammar.specs.Texts.{Row, Walks, table, Unfit, unfits}
use Rattle.grammar.proofs.Equivalences.{and-iff, not_iff, some-every}
use Rattle.grammar.proofs.Rest.{nullable}
use Rattle.grammar.proofs.States.{rule_at, start}
use Rattle.grammar.proofs.Model.{Found, nothing, found, scan, next}
use Rattle.grammar.proofs.Reach.{below}
use Rattle.grammar.proofs.Equal.{rests, tested}
use Rattle.grammar.proofs.ClassLaws.{number}
use Rattle.grammar.proofs.Lexemes.{next-gives}
use Rattle.grammar.proofs.Theorems.{sound}

-- a walk as the model computes it
abbrev walk : Profile → ℕ → List ℕ → ℕ → List Answer
walk π zero s at = []
walk π (suc n) s at = next (rules π) s at ∷ walk π n s (Texts.offset (next (rules π) s at))

walk-walks : (π : Profile) (s : List ℕ) (l : List Answer) (at : ℕ) → walk π (length l) s at ≡ l → Walks (rules π) s at l
walk-walks π s [] at e = tt
walk-walks π s (a ∷ l) at e =
    let h = head-eq_of_cons-eq e in (
      subst (Gives (rules π) s at) h (next-gives (rules π) (sound π) s at),
      walk-walks π s l (Texts.offset a) (subst (λ (a : Answer). walk π (length l) s (Texts.offset a) ≡ l) h (tail-eq_of_cons-eq e)),
    )

computed : map (λ r. walk r.profile (length r.answers) r.text r.from) table ≡ map (λ r. r.answers) table
unfolding table rules operators is_digit is_hexdigit is_identifier_start is_identifier_continue is_blank answer kind_of upper word_list
computed = refl

-- Next gives what the table says.
pub texts : Every (λ r. Walks (rules r.profile) r.text r.from r.answers) table
texts = every-row table computed
  where
    every-row : (l : List Row) → map (λ r. walk r.profile (length r.answers) r.text r.from) l ≡ map (λ r. r.answers) l
        → Every (λ r. Walks (rules r.profile) r.text r.from r.answers) l
    every-row [] e = tt
    every-row (r ∷ l) e = (walk-walks r.profile r.text r.answers r.from (head-eq_of_cons-eq e), every-row l (tail-eq_of_cons-eq e))

abbrev is_in : ℕ → List ℕ → Bool
is_in c [] = false
is_in c (x ∷ l) = eqb x c || is_in c l

-- A misspelt kind would have a number out of range: none of the table has. Its refusals are Next's.
abbrev known : Answer → Bool
known (token k start n next d u) = ltb k (length kind_names)
known (end at) = true
known (refusal k start n at) = is_in k (map (λ r. r.number) refusals)

pub table-known : every (λ r. every known r.answers) table ≡ true
unfolding table
table-known = refl

-- The table has a lexeme of each class under each profile.
abbrev class_of : Profile → Found → List ℕ
class_of π nothing = []
class_of π (found n k) = number (rule_at (rules π) k).class ∷ []

abbrev classes : Profile → ℕ → List ℕ → ℕ → List ℕ
classes π zero s at = []
classes π (suc n) s at = class_of π (scan (start (rules π)) (drop at s)) ++ classes π n s (Texts.offset (next (rules π) s at))

abbrev is_under : Profile → Row → Bool
is_under π r = by π (by r.profile true false) (by r.profile false true)

abbrev table_classes : Profile → List Row → List ℕ
table_classes π [] = []
table_classes π (r ∷ l) = cond (is_under π r) (classes π (length r.answers) r.text r.from ++ table_classes π l) (table_classes π l)

abbrev has_all : List ℕ → Bool
has_all l = below 27 (λ c. is_in c l)

pub table-classes : has_all (table_classes Turso table) && has_all (table_classes Sqlite table) ≡ true
unfolding table rules operators is_digit is_hexdigit is_identifier_start is_identifier_continue is_blank answer kind_of upper word_list
table-classes = refl

-- whether the rule lets the first n bytes of s stand in c
abbrev is_followed : Set → List ℕ → Bool
is_followed t [] = true
is_followed t (b ∷ s) = holds t b

abbrev fits : Class → List ℕ → ℕ → Rule → Bool
fits c s n r = eqb (number r.class) (number c) && nullable (rests r.form (take n s)) && is_followed r.next (drop n s)

-- a rule that lets them stand passes the test
fits-rule : (c : Class) (s : List ℕ) (n : ℕ) (r : Rule) → (r.class ≡ c) × Has r.form (take n s) × Follows r.next (drop n s) → fits c s n r ≡ true
fits-rule c s n r (e, h, f) =
    let a = eqb (number r.class) (number c) in
    let b = nullable (rests r.form (take n s)) in
    let i = (and-iff a b).1 (eq-eqb (number r.class) (number c) (ap number e), (tested (take n s) r.form).1 h) in
    (and-iff (a && b) (is_followed r.next (drop n s))).1 (i, followed (drop n s) f)
  where
    followed : (t : List ℕ) → Follows r.next t → is_followed r.next t ≡ true
    followed [] g = refl
    followed (b ∷ t) g = g

-- no rule does
abbrev is_unfit : Unfit → Bool
is_unfit u = every (λ r. not (fits u.class u.text u.length r)) (rules u.profile)

unfit-computed : every is_unfit unfits ≡ true
unfolding unfits rules operators is_digit is_hexdigit is_identifier_start is_identifier_continue is_blank
unfit-computed = refl

-- What the other table says does not stand does not.
pub unfit : Every (λ u. Stands (rules u.profile) u.class u.text u.length → ⊥) unfits
unfit = every-row unfits unfit-computed
  where
    row : (u : Unfit) → is_unfit u ≡ true → Stands (rules u.profile) u.class u.text u.length → ⊥
    row u e (l, h) =
        let f = fits u.class u.text u.length in
        let (r, k, t) = some-every (λ r. not (f r)) _ (rules u.profile) e h in
        (not_iff (f r)).0 t (fits-rule u.class u.text u.length r k)

    every-row : (l : List Unfit) → every is_unfit l ≡ true → Every (λ u. Stands (rules u.profile) u.class u.text u.length → ⊥) l
    every-row [] e = tt
    every-row (u ∷ l) e = (row u (and_left (is_unfit u) (every is_unfit l) e), every-row l (and_right (is_unfit u) (every is_unfit l) e))
