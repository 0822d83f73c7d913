-- A token's kind, or the byte that opens it, tells its class. Assumes nothing.
use Prim.Native.Nat.{ℕ, suc}
use native.Mathlib.Omega.{arith}
use mathlib.Core.Path.{◌≡◌, refl, sym, ◌∙◌, ap, subst}
use mathlib.Core.Bool.{Bool, true, false, cond, not, ◌&&◌, ◌||◌, true≢false}
use mathlib.Core.List.{List, [], ◌∷◌}
use lib.Dec.{eqb}
use lib.ListN.{take, drop}
use borrow.Author.Tests.{eqb-true, not-true}
use Rattle.keywords.specs.Kinds.{kind}
use Rattle.keywords.specs.Words.{Entry, word_list, same, kind_in}
use Rattle.keywords.proofs.Logic.{split, and_left, and_right, or-false, every}
use Rattle.words.specs.Bytes.{is_digit, is_hexdigit, is_identifier_start, is_identifier_continue, is_blank}
use Rattle.words.specs.Word.{fold, kind_of}
use Rattle.grammar.specs.declared.profile.Profile.{Profile}
use Rattle.grammar.specs.declared.profile.Profile.TheVariants.{Turso, Sqlite}
use Rattle.grammar.specs.Form.{one_of, Form, Has, never, lit, ◌·◌, ◌∣◌}
use Rattle.grammar.specs.Classes.{Class, Rule, rules, operators, malformed, by, opened, bracket, blank_run, line_comment, block_comment, operator, string, quoted_name}
use Rattle.grammar.specs.Classes.{integer, float, blob, parameter, word, illegal, unrecognized, bang, open_quote, open_blob, odd_blob, bad_parameter}
use Rattle.grammar.specs.Classes.{underscore, word_after_integer, word_after_fraction, no_exponent, word_after_exponent, no_hexdigit, underscore_after_x}
use Rattle.grammar.specs.Classes.{hex_underscore, word_after_hex}
use Rattle.grammar.specs.Answers.{Answer, token, end, refusal, answer}
use Rattle.grammar.specs.Longest.{Follows, Stands}
use Rattle.grammar.proofs.Equal.{is_void, is_within, void, within}
use Rattle.grammar.proofs.Equivalences.{some-every}
use Rattle.grammar.proofs.Rest.{rest, rest_has}
use Rattle.spans.specs.Spans.{is_quote}

-- the kinds that one class alone has, and that class
abbrev pub is_literal : ℕ → Bool
is_literal k = eqb k (kind "TK_STRING") || eqb k (kind "TK_INTEGER") || eqb k (kind "TK_BLOB")

abbrev pub class_for : ℕ → Class
class_for k = cond (eqb k (kind "TK_STRING")) string (cond (eqb k (kind "TK_INTEGER")) integer blob)

-- a token's kind and one more; 0 for what is no token
abbrev pub kind_after : Answer → ℕ
kind_after (token k start n next d u) = suc k
kind_after (end offset) = 0
kind_after (refusal k start n offset) = 0

found-kind : (p : ℕ → Bool) (es : List Entry) (w : List ℕ) → every (λ e. not (p e.kind)) es ≡ true → p (kind "TK_ID") ≡ false → p (kind_in es w) ≡ false
found-kind p [] w e d = d
found-kind p (y ∷ es) w e d =
    split (same w y.word)
    (λ f. rw f (not-true (p y.kind) (and_left (not (p y.kind)) (every (λ e. not (p e.kind)) es) e)))
    (λ f. rw f (found-kind p es w (and_right (not (p y.kind)) (every (λ e. not (p e.kind)) es) e) d))

no-operator : every (λ e. not (is_literal e.kind)) operators ≡ true
unfolding operators
no-operator = refl

no_word : every (λ e. not (is_literal e.kind)) word_list ≡ true
unfolding word_list
no_word = refl

other : (c : Class) (k j : ℕ) → is_literal k ≡ true → suc k ≡ suc j → is_literal j ≡ false → c ≡ class_for k
other c k j t e f =
    let i : k ≡ j = omega arith in
    absurd (true≢false (sym (subst (λ (m : ℕ). is_literal m ≡ true) i t) ∙ f))

this : (c : Class) (k j : ℕ) → suc k ≡ suc j → c ≡ class_for j → c ≡ class_for k
this c k j e f = let i : j ≡ k = omega arith in f ∙ ap class_for i

pub literal-class : (c : Class) (at : ℕ) (w : List ℕ) (k : ℕ) → is_literal k ≡ true → suc k ≡ kind_after (answer c at w) → c ≡ class_for k
unfolding answer kind_of
literal-class blank_run at w k t e = other blank_run k _ t e refl
literal-class line_comment at w k t e = other line_comment k _ t e refl
literal-class block_comment at w k t e = other block_comment k _ t e refl
literal-class operator at w k t e = other operator k _ t e (found-kind is_literal operators w no-operator refl)
literal-class string at w k t e = this string k (kind "TK_STRING") e refl
literal-class quoted_name at w k t e = other quoted_name k _ t e refl
literal-class integer at w k t e = this integer k (kind "TK_INTEGER") e refl
literal-class float at w k t e = other float k _ t e refl
literal-class blob at w k t e = this blob k (kind "TK_BLOB") e refl
literal-class parameter at w k t e = other parameter k _ t e refl
literal-class word at w k t e = other word k _ t e (found-kind is_literal word_list (fold w) no_word refl)
literal-class illegal at w k t e = other illegal k _ t e refl
literal-class unrecognized at w k t e = absurd (omega arith)
literal-class bang at w k t e = absurd (omega arith)
literal-class open_quote at w k t e = absurd (omega arith)
literal-class open_blob at w k t e = absurd (omega arith)
literal-class odd_blob at w k t e = absurd (omega arith)
literal-class bad_parameter at w k t e = absurd (omega arith)
literal-class underscore at w k t e = absurd (omega arith)
literal-class word_after_integer at w k t e = absurd (omega arith)
literal-class word_after_fraction at w k t e = absurd (omega arith)
literal-class no_exponent at w k t e = absurd (omega arith)
literal-class word_after_exponent at w k t e = absurd (omega arith)
literal-class no_hexdigit at w k t e = absurd (omega arith)
literal-class underscore_after_x at w k t e = absurd (omega arith)
literal-class hex_underscore at w k t e = absurd (omega arith)
literal-class word_after_hex at w k t e = absurd (omega arith)

-- Of the rules that are legal, what opens a quoted name opens those of quoted names alone.
abbrev pub quoted_form : Profile → Form
quoted_form p = opened (one_of "\"") · lit "\"" ∣ opened (one_of "`") · lit "`" ∣ by p never (bracket · lit "]")

abbrev enough : ℕ
enough = 60

abbrev opens_name : Profile → ℕ → Rule → Bool
opens_name p b r = is_void enough (rest b r.form) || malformed r.class || is_within enough (rest b r.form) (rest b (quoted_form p))

names-opened : (p : Profile) → every (opens_name p 34) (rules p) && every (opens_name p 96) (rules p) ≡ true
unfolding rules operators malformed is_digit is_hexdigit is_identifier_start is_identifier_continue is_blank
names-opened Turso = refl
names-opened Sqlite = refl

brackets-opened : every (opens_name Sqlite 91) (rules Sqlite) ≡ true
unfolding rules operators malformed is_digit is_hexdigit is_identifier_start is_identifier_continue is_blank
brackets-opened = refl

opened-by : (p : Profile) (b : ℕ) → is_quote p b ≡ true → every (opens_name p b) (rules p) ≡ true
unfolding is_quote
opened-by p b e =
    split (eqb b 34)
    (λ f. at 34 f (and_left (every (opens_name p 34) (rules p)) _ (names-opened p)))
    (λ f. split (eqb b 96)
    (λ g. at 96 g (and_right (every (opens_name p 34) (rules p)) _ (names-opened p)))
    (λ g. bracketed p e f g))
  where
    at : (k : ℕ) → eqb b k ≡ true → every (opens_name p k) (rules p) ≡ true → every (opens_name p b) (rules p) ≡ true
    at k f h = subst (λ (x : ℕ). every (opens_name p x) (rules p) ≡ true) (sym (eqb-true b k f)) h

    bracketed : (q : Profile) → is_quote q b ≡ true → eqb b 34 ≡ false → eqb b 96 ≡ false → every (opens_name q b) (rules q) ≡ true
    bracketed Turso e f g = absurd (true≢false (sym (rw (f, g) at e)))
    bracketed Sqlite e f g =
        let h : eqb b 91 ≡ true = sym (or-false (eqb b 91)) ∙ rw (f, g) at e in
        subst (λ (x : ℕ). every (opens_name Sqlite x) (rules Sqlite) ≡ true) (sym (eqb-true b 91 h)) brackets-opened

-- so a legal lexeme that it opens has their form
last_of : (a b c : Bool) → a || b || c ≡ true → a ≡ false → b ≡ false → c ≡ true
last_of a b c t e f = rw (e, f) at t

of-that-form : (f g : Form) (m : Bool) (w : List ℕ) → is_void enough f || m || is_within enough f g ≡ true → m ≡ false → Has f w → Has g w
of-that-form f g m w t e h = split (is_void enough f) (λ v. absurd (void enough f v w h)) (λ v. within enough f g (last_of (is_void enough f) m (is_within enough f g) t v e) w h)

pub name-form : (p : Profile) (c : Class) (b : ℕ) (s : List ℕ) (n : ℕ) → is_quote p b ≡ true → malformed c ≡ false → Stands (rules p) c (b ∷ s) (suc n)
    → Has (quoted_form p) (b ∷ take n s)
name-form p c b s n e l (i, h) =
    let P : Rule → Type 0 = λ r. (r.class ≡ c) × Has r.form (b ∷ take n s) × Follows r.next (drop n s) in
    let (r, (is, f, x), t) = some-every (opens_name p b) P (rules p) (opened-by p b e) h in
    let w = take n s in
    (rest_has b (quoted_form p) w).0
    (of-that-form (rest b r.form) (rest b (quoted_form p)) (malformed r.class) w t (ap malformed is ∙ l) ((rest_has b r.form w).1 f))
