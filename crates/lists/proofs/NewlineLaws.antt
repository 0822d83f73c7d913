-- Tokens with no 0A in them, told by kind and first byte: only blanks, comments, strings and quoted names can have one. Assumes nothing.
use Prim.Native.Nat.{ℕ, ◌≤◌, ◌<◌}
use native.Mathlib.Nat.{add-zero}
use native.Mathlib.Omega.{arith}
use mathlib.Core.Path.{◌≡◌, refl, sym, ◌∙◌, ap, ap₂}
use mathlib.Core.Bool.{Bool, true, false, not, ◌&&◌, ◌||◌, true≢false}
use mathlib.Core.List.{List, [], ◌∷◌, ◌++◌}
use mathlib.Core.Logic.{inl, inr, ⊎_elim}
use lib.Dec.{eqb, leb, ltb}
use lib.ListN.{length, take, drop, get_or}
use lib.Seq.{drop-cons, get_or-drop, get_or-take}
use borrow.Author.Tests.{ltb-true, leb-true, leb-false, eqb-true, not-true, le-ltb, ne_eqb}
use Rattle.keywords.specs.Kinds.{kind}
use Rattle.keywords.proofs.Logic.{split, and_left, and_right, every}
use Rattle.words.specs.Bytes.{is_digit, is_hexdigit, is_identifier_start, is_identifier_continue, is_blank}
use Rattle.places.specs.Places.{newline, newlines}
use Rattle.places.proofs.LineLaws.{newlines-append}
use Rattle.grammar.specs.declared.profile.Profile.{Profile}
use Rattle.grammar.specs.declared.profile.Profile.TheVariants.{Turso, Sqlite}
use Rattle.grammar.specs.Form.{Set, one_of, holds, Form, never, empty, anything, one, ◌·◌, ◌∣◌, ◌but◌, many, Single, Many, stop, more, Has}
use Rattle.grammar.specs.Classes.{Class, Rule, rules, operators}
use Rattle.grammar.specs.Answers.{Answer, token, end, refusal, answer}
use Rattle.grammar.specs.Longest.{Follows, Gives}
use Rattle.grammar.proofs.Equal.{is_within, within}
use Rattle.grammar.proofs.Equivalences.{or-iff, some-every}
use Rattle.grammar.proofs.Tokens.{told}
use Rattle.lists.specs.Lines.{backtick, has_no_newline}

-- A form has only texts without a 0A, since none of its sets holds one.
abbrev one_line : Form → Bool
one_line never = true
one_line empty = true
one_line anything = false
one_line (one s) = not (holds s newline)
one_line (f · g) = one_line f && one_line g
one_line (f ∣ g) = one_line f && one_line g
one_line (f but g) = one_line f
one_line (many f) = one_line f

joined : {w : List ℕ} (u v : List ℕ) → w ≡ u ++ v → newlines u ≡ 0 → newlines v ≡ 0 → newlines w ≡ 0
joined u v e p q = let h = ap newlines e ∙ newlines-append u v in omega arith

single : (s : Set) (w : List ℕ) → holds s newline ≡ false → Single s w → newlines w ≡ 0
unfolding newlines
single s [] n h = absurd h
single s (b ∷ []) n h = split (eqb b newline) (λ e. absurd (true≢false (sym h ∙ ap (holds s) (eqb-true b newline e) ∙ n))) (λ e. rw e)
single s (b ∷ c ∷ w) n h = absurd h

each : {P : List ℕ → Type 0} → ((u : List ℕ) → P u → newlines u ≡ 0) → {w : List ℕ} → Many P w → newlines w ≡ 0
unfolding newlines
each n stop = refl
each n (more {u = u} {v = v} e h m) = joined u v e (n u h) (each n m)

one_line_lem : (f : Form) → one_line f ≡ true → (w : List ℕ) → Has f w → newlines w ≡ 0
unfolding newlines
one_line_lem never t w h = absurd h
one_line_lem empty t w h = ap newlines h
one_line_lem anything t w h = absurd (true≢false (sym t))
one_line_lem (one s) t w h = single s w (not-true (holds s newline) t) h
one_line_lem (f · g) t w (u, v, e, h, i) =
    joined u v e (one_line_lem f (and_left (one_line f) (one_line g) t) u h) (one_line_lem g (and_right (one_line f) (one_line g) t) v i)
one_line_lem (f ∣ g) t w (inl h) = one_line_lem f (and_left (one_line f) (one_line g) t) w h
one_line_lem (f ∣ g) t w (inr h) = one_line_lem g (and_right (one_line f) (one_line g) t) w h
one_line_lem (f but g) t w h = one_line_lem f t w h.0
one_line_lem (many f) t w h = each (one_line_lem f t) h

-- A form has only texts that begin with a quote, a backtick or a bracket: with no byte above the backtick.
abbrev quotes : Set
quotes = one_of "\"`["

-- as many states as following it finds
abbrev enough : ℕ
enough = 20

abbrev quoted : Form → Bool
quoted f = is_within enough f (one quotes · anything)

first-low : (f : Form) → quoted f ≡ true → (w : List ℕ) → Has f w → get_or w 0 0 ≤ backtick
first-low f q w h = let (u, v, e, i, x) = within enough f (one quotes · anything) q w h in rw e (low u v i)
  where
    low : (u v : List ℕ) → Single quotes u → get_or (u ++ v) 0 0 ≤ backtick
    low [] v i = absurd i
    low (b ∷ []) v i =
        split (leb b backtick)
        (λ e. leb-true b backtick e)
        (λ e.
        let l = leb-false b backtick e in
        let none = rw (ne_eqb b 0x22 (omega arith), ne_eqb b 0x60 (omega arith), ne_eqb b 0x5B (omega arith)) at i in
        absurd (true≢false (sym none)))
    low (b ∷ c ∷ u) v i = absurd i

-- The kind is below TK_ID, or is TK_ID and the form's texts are quoted. Then the code's test fails.
abbrev is_told : Form → ℕ → Bool
is_told f k = ltb k (kind "TK_ID") || (eqb k (kind "TK_ID") && quoted f)

test-fails : (f : Form) (k : ℕ) (w : List ℕ) → is_told f k ≡ true → Has f w → has_no_newline k (get_or w 0 0) ≡ false
test-fails f k w t h = ⊎_elim below name ((or-iff (ltb k (kind "TK_ID")) (eqb k (kind "TK_ID") && quoted f)).0 t)
  where
    below : ltb k (kind "TK_ID") ≡ true → has_no_newline k (get_or w 0 0) ≡ false
    below e =
        let l = ltb-true k (kind "TK_ID") e in
        rw (le-ltb (kind "TK_ID") k (omega arith), ne_eqb k (kind "TK_ID") (omega arith))

    name : eqb k (kind "TK_ID") && quoted f ≡ true → has_no_newline k (get_or w 0 0) ≡ false
    name e =
        let same = eqb-true k (kind "TK_ID") (and_left (eqb k (kind "TK_ID")) (quoted f) e) in
        let low = first-low f (and_right (eqb k (kind "TK_ID")) (quoted f) e) w h in
        rw (same, le-ltb backtick (get_or w 0 0) low)

-- a token's kind; 0 for what is no token
abbrev kind_given : Answer → ℕ
kind_given (token k start n next d u) = k
kind_given (end offset) = 0
kind_given (refusal k start n offset) = 0

-- The computed test of all rules, of each profile. It computes for every lexeme w: a class whose texts can have a 0A has but one kind.
abbrev tells : ℕ → List ℕ → Rule → Bool
tells at w r = one_line r.form || is_told r.form (kind_given (answer r.class at w))

all_tell : (p : Profile) (at : ℕ) (w : List ℕ) → every (tells at w) (rules p) ≡ true
unfolding rules operators answer is_digit is_hexdigit is_identifier_start is_identifier_continue is_blank
all_tell Turso at w = refl
all_tell Sqlite at w = refl

-- A token that the code's test passes has no 0A in it.
pub no-newline : (p : Profile) (s : List ℕ) (at k start n next d u : ℕ) → Gives (rules p) s at (token k start n next d u)
    → has_no_newline k (get_or s at 0) ≡ true → newlines (take n (drop at s)) ≡ 0
no-newline p s at k start n next d u g e =
    let t = told p s at k start n next d u g in
    let w = take n (drop at s) in
    let P : Rule → Type 0 = λ r. (r.class ≡ t.class) × Has r.form w × Follows r.next (drop n (drop at s)) in
    let (r, (is, h, x), test) = some-every (tells at w) P (rules p) (all_tell p at w) t.longest.stands.1 in
    let j = kind_given (answer r.class at w) in
    let same : j ≡ k = ap (λ (c : Class). kind_given (answer c at w)) is ∙ sym (ap kind_given t.gives) in
    let first : get_or w 0 0 ≡ get_or s at 0 = get_or-take n (drop at s) 0 0 t.some ∙ get_or-drop at s 0 0 ∙ rw add-zero in
    ⊎_elim
    (λ o. one_line_lem r.form o w h)
    (λ o. absurd (true≢false (sym e ∙ sym (ap₂ has_no_newline same first) ∙ test-fails r.form j w o h)))
    ((or-iff (one_line r.form) (is_told r.form j)).0 test)

-- A token of one byte has none if that byte is none.
pub one_byte : (s : List ℕ) (at : ℕ) → at < length s → (get_or s at 0 ≡ newline → ⊥) → newlines (take 1 (drop at s)) ≡ 0
unfolding newlines
one_byte s at l n = rw (drop-cons s at 0, ne_eqb (get_or s at 0) newline n)
