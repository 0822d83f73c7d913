-- The dispatch: by the first byte. Assumes nothing.
use Prim.Native.Nat.{ℕ, ◌+◌, ◌-◌, ◌≤◌, ◌<◌}
use native.Mathlib.Omega.{arith}
use mathlib.Core.Path.{◌≡◌, refl, sym, ◌∙◌, ap, subst}
use mathlib.Core.Bool.{Bool, true, false, true≢false}
use mathlib.Core.List.{List, [], ◌∷◌}
use mathlib.Core.Logic.{◌⊎◌, inl, inr}
use lib.Dec.{ltb}
use lib.ListN.{length, drop}
use lib.Seq.{drop-cons}
use borrow.Author.Tests.{eqb-true, eq-eqb, ne_eqb, ltb-true, ltb-false}
use Rattle.std.specs.Prelude.{Some, None}
use Rattle.keywords.specs.Text.{bytes}
use Rattle.keywords.specs.Words.{kind_in}
use Rattle.keywords.proofs.Logic.{split}
use Rattle.words.specs.Bytes.{is_digit, is_identifier_start, is_blank}
use Rattle.grammar.specs.declared.profile.Profile.{Profile}
use Rattle.grammar.specs.Form.{Set, none, D, S, blank, byte, no, ◌or◌, one_of, holds}
use Rattle.grammar.specs.Classes.{operators, U}
use Rattle.grammar.specs.Runs.{sees}
use Rattle.grammar.proofs.Seen.{inside, inside-sees, inside-holds, misses-none, moved-one}
use Rattle.grammar.proofs.Reading.{alike_first, first_alike}
use Rattle.lexer.specs.declared.lexed.Refusal.TheVariants.{OffsetPastEnd}
use Rattle.lexer.specs.declared.lexed.Lexed.{Lexed}
use Rattle.lexer.specs.declared.lexed.Lexed.TheVariants.{Token, End, Refused}
use Rattle.lexer.specs.Eaten.{cursor, head, one_or_two}
use Rattle.grammar.proofs.Places.{At}
use Rattle.lexer.specs.Values.{values_of, Lexes, LexesUnder}
use Rattle.lexer.proofs.EatLaws.{head-sees}
use Rattle.lexer.proofs.OperatorLaws.{follow, is_operator, is_colon, one-lexed, one_or_two-lexed}

-- past the end, and at the end
pub past-lexed : (π : Profile) (s : List ℕ) (at : ℕ) → length s < at → LexesUnder π s at (Refused OffsetPastEnd 0 0 (cursor at))
unfolding LexesUnder
past-lexed π s at h = inl (h, refl)

pub end-lexed : (π : Profile) (s : List ℕ) (at : ℕ) → at ≤ length s → None ≡ head (drop at s) → LexesUnder π s at (End (cursor at))
unfolding LexesUnder head
end-lexed π s at h e =
    split (ltb at (length s))
    (λ l. absurd (let z = e ∙ ap head (drop-cons s at 0 (ltb-true at (length s) l)) in let y : ◌≡◌ {A = Bool} true false = cc in true≢false y))
    (λ l. let k = ltb-false at (length s) l in inr (inl (omega arith, refl)))

-- an answer under the profile that is known
pub under : {p r : Profile} → p ≡ r → (s : List ℕ) (at : ℕ) (x : Lexed) → LexesUnder r s at x → LexesUnder p s at x
under e s at x l = subst (λ (p : Profile). LexesUnder p s at x) (sym e) l

-- the byte that is seen
pub key-seen : (k b : ℕ) (l : List ℕ) → sees (byte b) l ≡ true → b ≡ k → sees (byte k) l ≡ true
key-seen k b l h e = subst (λ (n : ℕ). sees (byte n) l ≡ true) e h

pub byte-seen : (b : ℕ) (l : List ℕ) → Some b ≡ head l → sees (byte b) l ≡ true
byte-seen b l e = sym (head-sees (byte b) b l e) ∙ eq-eqb b b refl

pub byte-in : (t : Set) (b : ℕ) (l : List ℕ) → sees (byte b) l ≡ true → holds t b ≡ true → sees t l ≡ true
unfolding sees
byte-in t b [] h e = absurd (true≢false (sym h))
byte-in t b (x ∷ l) h e = rw (eqb-true x b h) e

-- one of the quotes, as an arm tells them
pub quote-in : (b : ℕ) → (b ≡ 34) ⊎ ((b ≡ 39) ⊎ (b ≡ 96)) → holds (one_of "'\"`") b ≡ true
quote-in b (inl e) = rw e
quote-in b (inr (inl e)) = rw e
quote-in b (inr (inr e)) = rw e

-- where the first byte leaves the same under both profiles, so does the answer
pub lift : (t : Set) → inside t alike_first ≡ true → (π : Profile) (s : List ℕ) (at : ℕ) → At t at s → (r : Lexed) → Lexes s at r → LexesUnder π s at r
unfolding LexesUnder
lift t i π s at h r g = first_alike π s at (values_of r) (inside-sees t alike_first i (drop at s) h) g

pub key-lift : (k b : ℕ) (π : Profile) (s : List ℕ) (at : ℕ) → At (byte b) at s → b ≡ k → inside (byte k) alike_first ≡ true → (r : Lexed) → Lexes s at r → LexesUnder π s at r
key-lift k b π s at h e i r g = lift (byte k) i π s at (key-seen k b (drop at s) h e) r g

-- an operator of one byte that nothing makes longer, at the byte of an arm
pub key-lexed : (k b : ℕ) (π : Profile) (s : List ℕ) (at : ℕ) → At (byte b) at s → b ≡ k
    → inside (byte k) alike_first ≡ true → is_colon (k ∷ []) ≡ false → is_operator (k ∷ []) operators ≡ true → follow (k ∷ []) ≡ none
    → (r : Lexed) → r ≡ Token (kind_in operators (k ∷ [])) at 1 (cursor (at + 1)) 0 0 → LexesUnder π s at r
key-lexed k b π s at h e i n o f r q =
    let seen = key-seen k b (drop at s) h e in
    let d : 1 ≡ at + 1 - at = omega arith in
    lift (byte k) i π s at seen r (one-lexed k s at seen (sym (moved-one (byte k) s at seen)) n o (rw f (misses-none _)) r (q ∙ rw (← d)))

-- one of two bytes, or of the first of them
pub key-two-lexed : (k d b : ℕ) (π : Profile) (s : List ℕ) (at : ℕ) → At (byte b) at s → b ≡ k → inside (byte k) alike_first ≡ true
    → is_colon (k ∷ []) ≡ false → is_operator (k ∷ []) operators ≡ true → follow (k ∷ []) ≡ byte d
    → is_colon (k ∷ d ∷ []) ≡ false → is_operator (k ∷ d ∷ []) operators ≡ true → follow (k ∷ d ∷ []) ≡ none
    → (r : Lexed) → r ≡ one_or_two (kind_in operators (k ∷ [])) d (kind_in operators (k ∷ d ∷ [])) at s → LexesUnder π s at r
key-two-lexed k d b π s at h e i n o x m p y r q =
    let seen = key-seen k b (drop at s) h e in
    lift (byte k) i π s at seen r (one_or_two-lexed k d s at seen n o x m p y r q)

-- a byte is none of these
abbrev Apart : ℕ → List ℕ → Type 0
Apart b [] = Unit {0}
Apart b (k ∷ l) = Apart b l × (b ≡ k → ⊥)

abbrev among : List ℕ → Set
among [] = none
among (k ∷ l) = byte k or among l

apart-holds : (b : ℕ) (l : List ℕ) → Apart b l → holds (among l) b ≡ false
apart-holds b [] a = refl
apart-holds b (k ∷ l) a = rw (ne_eqb b k a.1, apart-holds b l a.0)

-- the bytes that the dispatch names, from the last: any other that is no blank starts a number or a word, or nothing
abbrev named : List ℕ
named = bytes ":#$?@][.`\"'~&,|!><=%/*+;)(-"

pub later : (b : ℕ) → is_blank b ≡ false → Apart b named → holds (D or S or U) b ≡ true
unfolding is_digit is_identifier_start is_blank
later b n a = inside-holds (no (blank or among named)) (D or S or U) refl b (rw (n, apart-holds b named a))
