-- For readers. `unique`: two answers of `next` that meet its contract are equal. `table-lexed`: `next` answers what the grammar's table
-- says. `counted`: what is known of a token's digits and underscores. `not-all-refused`, `not-all-of-kind`: whatever meets the contract gives
-- tokens, and not all of one kind. `next-place`: two cursors that `Lexed::next` gives are equal. `moves`
-- (Moves.antt): a token leads on, inside the text. Assumes nothing.
use Prim.Native.Nat.{ℕ, ◌<◌, zero-le, suc-le-suc}
use mathlib.Core.Path.{◌≡◌, refl, sym, ◌∙◌, ap, subst}
use mathlib.Core.Bool.{true, true≢false}
use mathlib.Core.List.{List, [], ◌∷◌}
use lib.Dec.{T, eqb, eqb_refl}
use lib.ListN.{length, get_or, drop}
use Rattle.keywords.specs.Kinds.{kind}
use Rattle.keywords.specs.Text.{bytes}
use Rattle.grammar.specs.declared.profile.Profile.{Profile}
use Rattle.grammar.specs.declared.profile.Profile.TheVariants.{Turso}
use Rattle.grammar.specs.Classes.{Class, rules}
use Rattle.grammar.specs.Answers.{Answer, token, end, refusal, is_refusal}
use Rattle.grammar.specs.Longest.{Every, Longest, Gives}
use Rattle.grammar.specs.Texts.{Row, offset, Walks, num, table}
use Rattle.grammar.proofs.Unique.{gives-unique}
use Rattle.grammar.proofs.TextLaws.{texts}
use Rattle.grammar.proofs.Tokens.{told}
use Rattle.grammar.proofs.Sums.{Sums, sums}
use Rattle.lexer.specs.declared.cursor.Cursor.{Cursor}
use Rattle.lexer.specs.declared.lexed.Refusal.{Refusal}
use Rattle.lexer.specs.declared.lexed.Refusal.TheVariants.{UnrecognizedToken, UnterminatedLiteral, BadNumber, BadFractionalPart}
use Rattle.lexer.specs.declared.lexed.Refusal.TheVariants.{BadExponentPart, MalformedHexInteger, ExpectedEqualsSign, OffsetPastEnd}
use Rattle.lexer.specs.declared.lexed.Lexed.{Lexed}
use Rattle.lexer.specs.declared.lexed.Lexed.TheVariants.{Token, End, Refused}
use Rattle.lexer.specs.Eaten.{cursor}
use Rattle.lexer.specs.Values.{number_of, values_of, Lexes, LexesUnder}

-- An answer can be read back from its values.
abbrev pub refusal_of : ℕ → Refusal
refusal_of n =
    get_or
    (OffsetPastEnd ∷ UnrecognizedToken ∷ UnterminatedLiteral ∷ BadNumber ∷ BadFractionalPart ∷ BadExponentPart ∷ MalformedHexInteger ∷ ExpectedEqualsSign ∷ [])
    n
    OffsetPastEnd

pub refusal-back : (w : Refusal) → refusal_of (number_of w) ≡ w
refusal-back UnrecognizedToken = refl
refusal-back UnterminatedLiteral = refl
refusal-back BadNumber = refl
refusal-back BadFractionalPart = refl
refusal-back BadExponentPart = refl
refusal-back MalformedHexInteger = refl
refusal-back ExpectedEqualsSign = refl
refusal-back OffsetPastEnd = refl

abbrev lexed_of : Answer → Lexed
lexed_of (token kind start length next digits underscores) = Token kind start length (cursor next) digits underscores
lexed_of (end at) = End (cursor at)
lexed_of (refusal number start length at) = Refused (refusal_of number) start length (cursor at)

lexed-back : (r : Lexed) → lexed_of (values_of r) ≡ r
lexed-back (Token kind start length next digits underscores) = refl
lexed-back (End next) = refl
lexed-back (Refused why start length next) = ap (λ (w : Refusal). Refused w start length next) (refusal-back why)

-- The contract of `next` leaves one answer.
pub unique : (π : Profile) (s : List ℕ) (at : ℕ) (r q : Lexed) → LexesUnder π s at r → LexesUnder π s at q → r ≡ q
unfolding LexesUnder
unique π s at r q g h = sym (lexed-back r) ∙ ap lexed_of (gives-unique (rules π) s at (values_of r) (values_of q) g h) ∙ lexed-back q

-- and two cursors that `Lexed::next` may give: a cursor is its place
pub next-place : (r : Lexed) (c d : Cursor) → c.at ≡ offset (values_of r) → d.at ≡ offset (values_of r) → c ≡ d
next-place r c d p q = ap cursor (p ∙ sym q)

-- A token has a class, and the digits and underscores that a lexeme of it can have.
pub counted : (π : Profile) (s : List ℕ) (at k start n : ℕ) (next : Cursor) (d u : ℕ) → LexesUnder π s at (Token k start n next d u)
    → (c : Class) × Longest (rules π) (drop at s) c n × Sums c n d u
unfolding LexesUnder
counted π s at k start n next d u g =
    let t = told π s at k start n next.at d u g in
    (t.class, t.longest, sums π s at k start n next.at d u g)

-- whatever meets the contract, asked again where each answer goes on, answers so
abbrev pub Tells : Profile → List ℕ → ℕ → List Answer → Type 0
Tells π s at [] = Unit {0}
Tells π s at (a ∷ l) = ((r : Lexed) → LexesUnder π s at r → values_of r ≡ a) × Tells π s (offset a) l

walks-tell : (π : Profile) (s : List ℕ) (l : List Answer) (at : ℕ) → Walks (rules π) s at l → Tells π s at l
unfolding LexesUnder
walks-tell π s [] at w = tt
walks-tell π s (a ∷ l) at w = (λ r g. gives-unique (rules π) s at (values_of r) a g w.0, walks-tell π s l (offset a) w.1)

-- The rows of the grammar's table hold of `next`.
pub table-lexed : Every (λ r. Tells r.profile r.text r.from r.answers) table
table-lexed = every-row table texts
  where
    every-row : (l : List Row) → Every (λ r. Walks (rules r.profile) r.text r.from r.answers) l → Every (λ r. Tells r.profile r.text r.from r.answers) l
    every-row [] e = tt
    every-row (r ∷ l) e = (walks-tell r.profile r.text r.answers r.from e.0, every-row l e.1)

-- a token is of this kind
abbrev pub OfKind : ℕ → Answer → Type 0
OfKind k (token kind start length next digits underscores) = kind ≡ k
OfKind k (end at) = Unit {0}
OfKind k (refusal number start length at) = Unit {0}

-- whatever meets the contract everywhere, under document 01's profile
module _ (f : List ℕ → ℕ → Lexed) (meets : (s : List ℕ) (at : ℕ) → Lexes s at (f s at)) where
  answers : (s : List ℕ) (at : ℕ) (a : Answer) → Gives (rules Turso) s at a → values_of (f s at) ≡ a
  unfolding LexesUnder
  answers s at a g = gives-unique (rules Turso) s at (values_of (f s at)) a (meets s at) g

  float-first : values_of (f (bytes "1.a") 0) ≡ num "TK_FLOAT" 0 2 1 0
  unfolding table
  float-first = answers (bytes "1.a") 0 (num "TK_FLOAT" 0 2 1 0) texts.1.0.0

  integer-first : values_of (f (bytes "1_2") 0) ≡ num "TK_INTEGER" 0 3 2 1
  unfolding table
  integer-first = answers (bytes "1_2") 0 (num "TK_INTEGER" 0 3 2 1) texts.1.1.1.1.0.0

  -- Not every answer below the end is a refusal.
  pub not-all-refused : ((s : List ℕ) (at : ℕ) → at < length s → is_refusal (values_of (f s at)) ≡ true) → ⊥
  not-all-refused r = true≢false (sym (r (bytes "1_2") 0 (suc-le-suc zero-le)) ∙ ap is_refusal integer-first)

  -- For no kind is every token below the end of it, and so none is every answer's.
  pub not-all-of-kind : (k : ℕ) → ((s : List ℕ) (at : ℕ) → at < length s → OfKind k (values_of (f s at))) → ⊥
  not-all-of-kind k r =
      let p = subst (OfKind k) float-first (r (bytes "1.a") 0 (suc-le-suc zero-le)) in
      let q = subst (OfKind k) integer-first (r (bytes "1_2") 0 (suc-le-suc zero-le)) in
      subst (λ (j : ℕ). T (eqb (kind "TK_FLOAT") j)) (p ∙ sym q) (eqb_refl (kind "TK_FLOAT"))
