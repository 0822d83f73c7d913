-- What is known of a token's digits and underscores. Assumes nothing.
use Prim.Native.Nat.{ℕ, ◌+◌, ◌≤◌, ◌<◌}
use native.Mathlib.Omega.{arith}
use mathlib.Core.Path.{◌≡◌, refl, sym, ◌∙◌, ap, subst}
use mathlib.Core.Bool.{Bool, true, false, ◌||◌, true≢false}
use mathlib.Core.List.{List, [], ◌∷◌}
use mathlib.Core.Logic.{inl, inr}
use lib.ListN.{length, take, drop, length-drop}
use lib.Seq.{length-take-le}
use borrow.Author.Tests.{eqb-true}
use Rattle.keywords.proofs.Logic.{split, and_left, and_right}
use Rattle.words.specs.Bytes.{is, is_digit, is_hexdigit}
use Rattle.grammar.specs.Form.{Set, D, H, no, Form, anything, one, ◌·◌, one_of, Single, Has}
use Rattle.grammar.specs.declared.profile.Profile.{Profile}
use Rattle.grammar.specs.declared.profile.Profile.TheVariants.{Turso, Sqlite}
use Rattle.grammar.specs.Classes
use Rattle.grammar.specs.Classes.{Class, rules, integer, float}
use Rattle.grammar.specs.Answers.{token, count, sum, most, integer_digits, is_hex}
use Rattle.grammar.specs.Longest.{Stands, Gives}
use Rattle.grammar.proofs.Rest.{rest, rest_has}
use Rattle.grammar.proofs.States.{rule_at}
use Rattle.grammar.proofs.ClassLaws.{only, one-rule}
use Rattle.grammar.proofs.Equal.{is_within, within}
use Rattle.grammar.proofs.Counts.{count-append, count-few, none_before}
use Rattle.grammar.proofs.Tokens.{is_number, CountsAs, Counts, told}

-- a byte of the set stands somewhere in a text
abbrev has : Set → Form
has t = anything · one t · anything

counts-one : (t : Set) (w : List ℕ) → Has (has t) w → 0 < count t w
counts-one t w (u, v, e, x, (p, q, f, h, y)) =
    let behind : count t v ≡ count t p + count t q = ap (count t) f ∙ count-append t p q in
    omega (arith, ap (count t) e ∙ count-append t u v, behind, single p h)
  where
    single : (p : List ℕ) → Single t p → count t p ≡ 1
    single [] h = absurd h
    single (b ∷ []) h = rw h
    single (b ∷ c ∷ p) h = absurd h

-- the forms of numbers, and as many states as following them finds
abbrev form_of : Profile → Class → Form
form_of π c = (rule_at (only c (rules π)) 0).form

abbrev enough : ℕ
enough = 60

-- A float has a D, and an integer too; one that begins with `0x` has an H behind it.
float-rule : (π : Profile) → only float (rules π) ≡ Classes.◌is◌ float (form_of π float) ∷ []
unfolding rules
float-rule Turso = refl
float-rule Sqlite = refl

float-within : (π : Profile) → is_within enough (form_of π float) (has D) ≡ true
unfolding rules is_digit
float-within Turso = refl
float-within Sqlite = refl

float-digits : (π : Profile) (s : List ℕ) (n : ℕ) → Stands (rules π) float s n → 0 < count D (take n s)
float-digits π s n h =
    let form = ((one-rule (rules π) float (form_of π float) (float-rule π) s n).0 h).1 in
    counts-one D (take n s) (within enough (form_of π float) (has D) (float-within π) (take n s) form)

-- the forms of integers are the same under each profile
abbrev integers : Form
integers = form_of Turso integer

integer-rule : (π : Profile) → only integer (rules π) ≡ Classes.◌is◌ integer integers ∷ []
unfolding rules
integer-rule Turso = refl
integer-rule Sqlite = refl

has-hex : (w : List ℕ) → is_hex w ≡ true → Has integers w → 0 < count H (drop 2 w)
unfolding rules is_digit is_hexdigit
has-hex [] e h = absurd (true≢false (sym e))
has-hex (a ∷ []) e h = absurd (true≢false (sym e))
has-hex (a ∷ b ∷ w) e h =
    let zero_is = eqb-true a 48 (and_left (is "0" a) _ e) in
    let behind-zero = (rest_has 48 integers (b ∷ w)).1 (subst (λ (k : ℕ). Has integers (k ∷ b ∷ w)) zero_is h) in
    split (is "x" b)
    (λ x. behind 120 refl (subst (λ (k : ℕ). Has (rest 48 integers) (k ∷ w)) (eqb-true b 120 x) behind-zero))
    (λ x. let large = subst (λ (z : Bool). z || is "X" b ≡ true) x (and_right (is "0" a) _ e) in
    behind 88 refl (subst (λ (k : ℕ). Has (rest 48 integers) (k ∷ w)) (eqb-true b 88 large) behind-zero))
  where
    behind : (k : ℕ) → is_within enough (rest k (rest 48 integers)) (has H) ≡ true → Has (rest 48 integers) (k ∷ w) → 0 < count H w
    behind k i j = counts-one H w (within enough (rest k (rest 48 integers)) (has H) i w ((rest_has k (rest 48 integers) w).1 j))

integer-digits : (π : Profile) (s : List ℕ) (n : ℕ) → Stands (rules π) integer s n → 0 < integer_digits (take n s)
unfolding rules is_digit is_hexdigit
integer-digits π s n h =
    let w = take n s in
    let form : Has integers w = ((one-rule (rules π) integer integers (integer-rule π) s n).0 h).1 in
    split (is_hex w)
    (λ e. rw e (has-hex w e form))
    (λ e. rw e (counts-one D w (within enough integers (has D) refl w form)))

-- no more digits and underscores than bytes
number-few : (w : List ℕ) → count D w + count (one_of "_") w ≤ length w
unfolding is_digit
number-few w = count-few D (one_of "_") refl w

integer-few : (w : List ℕ) → integer_digits w + count (one_of "_") w ≤ length w
unfolding is_digit is_hexdigit
integer-few w =
    split (is_hex w)
    (λ e. rw (e, none_before w e) (omega (arith, count-few H (one_of "_") refl (drop 2 w), length-drop 2 w)))
    (λ e. rw e (number-few w))

pub record Sums (c : Class) (n digits underscores : ℕ) : Type 0 where
  -- together no more than the bytes
  pub within-length : digits + underscores ≤ n
  -- a number has a digit; a token of another class has neither, so that these are 0 exactly there
  pub some-digit : is_number c ≡ true → 0 < digits
  pub neither : is_number c ≡ false → (digits ≡ 0) × (underscores ≡ 0)

-- of a number with m digits and v underscores, and of what is none
of_number : {c : Class} {n d u : ℕ} (m v : ℕ) → is_number c ≡ true → 0 < m → m + v ≤ n → d ≡ sum m → u ≡ sum v → Sums c n d u
of_number m v e p l x y =
    record { within-length = omega arith; some-digit = λ _. omega arith; neither = λ f. absurd (true≢false (sym e ∙ f)) }

of_other : {c : Class} {n d u : ℕ} → is_number c ≡ false → d ≡ 0 → u ≡ 0 → Sums c n d u
of_other e x y = record { within-length = omega arith; some-digit = λ f. absurd (true≢false (sym f ∙ e)); neither = λ _. (x, y) }

sums-of : (π : Profile) (c : Class) (s : List ℕ) (n d u : ℕ) → Stands (rules π) c s n → Counts c (take n s) d u → Sums c n d u
sums-of π c s n d u h (inl (e, x, y)) =
    let w = take n s in
    let long = length-take-le n s h.0 in
    of_number (integer_digits w) (count (one_of "_") w) (rw e) (integer-digits π s n (subst (λ (k : Class). Stands (rules π) k s n) e h)) (omega (arith, integer-few w)) x y
sums-of π c s n d u h (inr (inl (e, x, y))) =
    let w = take n s in
    let long = length-take-le n s h.0 in
    of_number (count D w) (count (one_of "_") w) (rw e) (float-digits π s n (subst (λ (k : Class). Stands (rules π) k s n) e h)) (omega (arith, number-few w)) x y
sums-of π c s n d u h (inr (inr (e, x, y))) = of_other e x y

-- of a token that has not more bytes than a sum says
all_of : (c : Class) (w : List ℕ) (d u : ℕ) → length w ≤ most → Counts c w d u → CountsAs (λ m. m) c w d u
all_of c w d u l (inl (e, x, y)) = let few = integer-few w in inl (e, omega arith, omega arith)
all_of c w d u l (inr (inl (e, x, y))) = let few = number-few w in inr (inl (e, omega arith, omega arith))
all_of c w d u l (inr (inr h)) = inr (inr h)

-- A token's digits and underscores.
pub sums : (π : Profile) (s : List ℕ) (at k start n next d u : ℕ) (g : Gives (rules π) s at (token k start n next d u)) → Sums (told π s at k start n next d u g).class n d u
sums π s at k start n next d u g = let t = told π s at k start n next d u g in sums-of π t.class (drop at s) n d u t.longest.stands t.counts

-- In a token of at most 4294967295 bytes they are counted to the last one.
pub all-counted : (π : Profile) (s : List ℕ) (at k start n next d u : ℕ) (g : Gives (rules π) s at (token k start n next d u)) → n ≤ most
    → CountsAs (λ m. m) (told π s at k start n next d u g).class (take n (drop at s)) d u
all-counted π s at k start n next d u g l =
    let t = told π s at k start n next d u g in
    all_of t.class (take n (drop at s)) d u (omega (arith, length-take-le n (drop at s) t.longest.stands.0)) t.counts
