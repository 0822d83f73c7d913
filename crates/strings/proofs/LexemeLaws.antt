-- Strings and quoted names that Next gives: what opens them, what closes them, and what stands between. Assumes nothing.
use Prim.Native.Nat.{ℕ, ◌+◌, ◌-◌, ◌≤◌, ◌<◌}
use native.Mathlib.Omega.{arith}
use native.Mathlib.Nat.{add-zero}
use mathlib.Core.Path.{◌≡◌, refl, sym, ◌∙◌, ap}
use mathlib.Core.Bool.{true, false, not, true≢false}
use mathlib.Core.List.{List, [], ◌∷◌, ◌++◌, append_assoc}
use mathlib.Core.Logic.{inl, inr}
use lib.Dec.{eqb}
use lib.ListN.{length, get_or, take, drop, length-append, length-drop, take-append-drop}
use lib.Seq.{length-take-le, take-append_seam, drop-append_seam, drop-drop, get_or-take, get_or-drop}
use borrow.Author.Tests.{eqb-true, eq-eqb, ne_eqb, not-true}
use Rattle.keywords.specs.Kinds.{kind}
use Rattle.keywords.proofs.Logic.{split, every}
use Rattle.words.specs.Bytes.{is}
use Rattle.grammar.specs.declared.profile.Profile.{Profile}
use Rattle.grammar.specs.declared.profile.Profile.TheVariants.{Turso, Sqlite}
use Rattle.grammar.specs.Form.{byte, no, one_of, Form, anything, one, ◌·◌, ◌∣◌, ◌but◌, many, Single, Many, stop, more, Has, text, lit}
use Rattle.grammar.specs.Classes.{by, opened, bracket}
use Rattle.grammar.proofs.Equal.{is_within, within}
use Rattle.buffers.specs.Buffers.{Said, Fills}
use Rattle.spans.specs.Spans.{span, is_quote, IsToken, IsName}
use Rattle.spans.proofs.KindLaws.{quoted_form}
use Rattle.spans.proofs.TokenLaws.{inside, string-form, quoted-form}
use Rattle.strings.specs.Quotes.{opening, undoubled, unquoted, doubled, quoted}
use Rattle.strings.specs.Closing.{closing_of, IsQuoted}
use Rattle.strings.proofs.QuoteLaws.{undoubled-without, inner-between, unquoted-between}

-- what opens a name
pub opens : (p : Profile) → (is_quote p 34 ≡ true) × (is_quote p 96 ≡ true) × (is_quote p 91 ≡ by p false true)
unfolding is_quote
opens Turso = (refl, refl, refl)
opens Sqlite = (refl, refl, refl)

pub opens-no : (p : Profile) (b : ℕ) → (b ≡ 34 → ⊥) → (b ≡ 96 → ⊥) → (b ≡ 91 → ⊥) → is_quote p b ≡ false
unfolding is_quote
opens-no Turso b e f g = rw (ne_eqb b 34 e, ne_eqb b 96 f)
opens-no Sqlite b e f g = rw (ne_eqb b 34 e, ne_eqb b 96 f, ne_eqb b 91 g)

-- a byte, a body of pieces, and a last byte
abbrev enclosing : ℕ → Form → ℕ → Form
enclosing a f c = (one (byte a) · many f) · text (c ∷ [])

single : (a : ℕ) (w : List ℕ) → Single (byte a) w → w ≡ a ∷ []
single a [] h = absurd h
single a (b ∷ []) h = ap (λ (x : ℕ). x ∷ []) (eqb-true b a h)
single a (b ∷ c ∷ w) h = absurd h

enclosed : (a : ℕ) (f : Form) (c : ℕ) (w : List ℕ) → Has (enclosing a f c) w → (body : List ℕ) × (w ≡ a ∷ body ++ c ∷ []) × Many (Has f) body
enclosed a f c w (u, v, e, (x, body, g, h, m), (y, z, i, j, k)) = (body, e ∙ rw (g, i, k, single a x h, single c y j), m)

-- a quote, and a body in which it stands only doubled
abbrev pieces : ℕ → Form
pieces q = one (no (byte q)) ∣ one (byte q) · one (byte q)

abbrev quote_form : ℕ → Form
quote_form q = enclosing q (pieces q) q

abbrev enough : ℕ
enough = 20

string-lexeme : (p : Profile) (s : List ℕ) (start n : ℕ) → IsToken p s start n (kind "TK_STRING") → Has (quote_form 39) (span s start n)
string-lexeme p s start n h = within enough (opened (one_of "'") · lit "'") (quote_form 39) refl (span s start n) (string-form p s start n h)

-- a name by its first byte: `"` opens but one of the three
begins-no : (b : ℕ) (w : List ℕ) → opening w ≡ b → Has (one (no (byte b)) · anything) w → ⊥
begins-no b w e ([], v, f, h, t) = h
begins-no b w e (x ∷ [], v, f, h, t) =
    let g : x ≡ b = sym (ap opening f) ∙ e in
    true≢false (sym (eq-eqb x b g) ∙ not-true (eqb x b) h)
begins-no b w e (x ∷ y ∷ u, v, f, h, t) = h

abbrev begun : Profile → Form
begun p = quoted_form p but one (no (byte 34)) · anything

name-lexeme : (p : Profile) (w : List ℕ) → opening w ≡ 34 → Has (quoted_form p) w → Has (quote_form 34) w
name-lexeme p w e h = within enough (begun p) (quote_form 34) (computed p) w (h, begins-no 34 w e)
  where
    computed : (q : Profile) → is_within enough (begun q) (quote_form 34) ≡ true
    computed Turso = refl
    computed Sqlite = refl

-- a part of a span, and its first byte
pub span-part : (s : List ℕ) (start n : ℕ) (a b c : List ℕ) → span s start n ≡ a ++ b ++ c → span s (start + length a) (length b) ≡ b
span-part s start n a b c e =
    let l = drop start s in
    let d = c ++ drop n l in
    let all : l ≡ a ++ (b ++ d) = sym (take-append-drop n l) ∙ ap (λ (w : List ℕ). w ++ drop n l) e ∙ append_assoc (a ++ b) c (drop n l) ∙ append_assoc a b d in
    let behind : drop (start + length a) s ≡ b ++ d = sym (drop-drop (length a) start s) ∙ ap (drop (length a)) all ∙ drop-append_seam a (b ++ d) in
    ap (take (length b)) behind ∙ take-append_seam b d

pub first_byte : (s : List ℕ) (start n : ℕ) → 0 < n → opening (span s start n) ≡ get_or s start 0
first_byte s start n h = get_or-take n (drop start s) 0 0 h ∙ get_or-drop start s 0 0 ∙ rw (add-zero start)

-- a span between two bytes is quoted
between-quoted : (s : List ℕ) (start n q c : ℕ) (body : List ℕ) → start + n ≤ length s → span s start n ≡ q ∷ body ++ c ∷ []
    → (is "[" q ≡ true → undoubled 93 false body ≡ body) → IsQuoted s start n
unfolding unquoted
between-quoted s start n q c body i e h =
    let long : length (span s start n) ≡ n = length-take-le n (drop start s) (omega (arith, length-drop start s)) in
    let two : n - 2 ≡ length body = omega (arith, ap length e, length-append body (c ∷ [])) in
    let many : 2 ≤ n = omega (arith, ap length e, length-append body (c ∷ [])) in
    let first : get_or s start 0 ≡ q = sym (first_byte s start n (omega arith)) ∙ ap opening e in
    record {
      inside = i;
      two = many;
      told =
          rw (first, two, span-part s start n (q ∷ []) body (c ∷ []) e, e, inner-between q c body)
          (split (is "[" q) (λ f. rw f (h f)) (λ f. rw f));
    }

-- the bytes between, as the code takes them
pub told-fills : {s old new : List ℕ} {start n c : ℕ} {said : Said} → IsQuoted s start n → c ≡ closing_of (get_or s start 0)
    → Fills (undoubled c false (take (start + n - 1 - (start + 1)) (drop (start + 1) s))) old said new → Fills (unquoted (span s start n)) old said new
told-fills {s} {old} {new} {start} {n} q e f =
    let l : start + n - 1 - (start + 1) ≡ n - 2 = omega arith in
    rw (← q.told, ← e, ← l) f

-- strings and names are quoted
quote-quoted : (s : List ℕ) (start n q : ℕ) → is "[" q ≡ false → start + n ≤ length s → Has (quote_form q) (span s start n) → IsQuoted s start n
quote-quoted s start n q f i h =
    let (body, e, m) = enclosed q (pieces q) q (span s start n) h in
    between-quoted s start n q q body i e (λ g. absurd (true≢false (sym g ∙ f)))

bracket-quoted : (s : List ℕ) (start n : ℕ) → start + n ≤ length s → Has (bracket · lit "]") (span s start n) → IsQuoted s start n
bracket-quoted s start n i h =
    let f = within enough (bracket · lit "]") (enclosing 91 (one (no (byte 93))) 93) refl (span s start n) h in
    let (body, e, m) = enclosed 91 (one (no (byte 93))) 93 (span s start n) f in
    between-quoted s start n 91 93 body i e (λ g. undoubled-without 93 body (every_one m))
  where
    one_more : (u v : List ℕ) → Single (no (byte 93)) u → every (λ b. not (eqb b 93)) v ≡ true → every (λ b. not (eqb b 93)) (u ++ v) ≡ true
    one_more [] v h f = absurd h
    one_more (b ∷ []) v h f = rw (h, f)
    one_more (b ∷ c ∷ u) v h f = absurd h

    every_one : {w : List ℕ} → Many (Has (one (no (byte 93)))) w → every (λ b. not (eqb b 93)) w ≡ true
    every_one stop = refl
    every_one (more {u} {v} e h m) = rw e (one_more u v h (every_one m))

module _ (p : Profile) (s : List ℕ) (start n : ℕ) where
  pub string-quoted : IsToken p s start n (kind "TK_STRING") → IsQuoted s start n
  string-quoted h = quote-quoted s start n 39 refl (inside p s start n (kind "TK_STRING") h).0 (string-lexeme p s start n h)

  pub name-quoted : IsName p s start n → IsQuoted s start n
  unfolding IsName
  name-quoted h = of p (inside p s start n (kind "TK_ID") h.0).0 (quoted-form p s start n h)
    where
      of : (q : Profile) → start + n ≤ length s → Has (quoted_form q) (span s start n) → IsQuoted s start n
      of q i (inl f) = quote-quoted s start n 34 refl i (within enough (opened (one_of "\"") · lit "\"") (quote_form 34) refl (span s start n) f)
      of q i (inr (inl f)) = quote-quoted s start n 96 refl i (within enough (opened (one_of "`") · lit "`") (quote_form 96) refl (span s start n) f)
      of Turso i (inr (inr f)) = absurd f
      of Sqlite i (inr (inr f)) = bracket-quoted s start n i f

-- a body with its doubled quotes made single, and doubled again, is that body
again-one : (q : ℕ) (u v : List ℕ) → Has (pieces q) u → doubled q (undoubled q false v) ≡ v → doubled q (undoubled q false (u ++ v)) ≡ u ++ v
unfolding doubled undoubled
again-one q [] v (inl h) e = absurd h
again-one q (b ∷ []) v (inl h) e = rw (not-true (eqb b q) h, e)
again-one q (b ∷ c ∷ u) v (inl h) e = absurd h
again-one q u v (inr (x, y, d, h, k)) e =
    let f : eqb q q ≡ true = eq-eqb q q refl in
    rw (d, single q x h, single q y k) (rw (f, e))

again-body : (q : ℕ) {w : List ℕ} → Many (Has (pieces q)) w → doubled q (undoubled q false w) ≡ w
unfolding doubled undoubled
again-body q stop = refl
again-body q (more {u} {v} e h m) = rw e (again-one q u v h (again-body q m))

again : (q : ℕ) (w : List ℕ) → is "[" q ≡ false → Has (quote_form q) w → quoted q (unquoted w) ≡ w
unfolding quoted
again q w n h =
    let (body, e, m) = enclosed q (pieces q) q w h in
    rw (e, unquoted-between q q body n) (ap (λ (v : List ℕ). q ∷ v ++ q ∷ []) (again-body q m))

module _ (p : Profile) (s : List ℕ) (start n : ℕ) where
  pub string-again : IsToken p s start n (kind "TK_STRING") → quoted 39 (unquoted (span s start n)) ≡ span s start n
  string-again h = again 39 (span s start n) refl (string-lexeme p s start n h)

  pub name-again : IsName p s start n → get_or s start 0 ≡ 34 → quoted 34 (unquoted (span s start n)) ≡ span s start n
  unfolding IsName
  name-again h e =
      let first = first_byte s start n (inside p s start n (kind "TK_ID") h.0).1 in
      again 34 (span s start n) refl (name-lexeme p (span s start n) (first ∙ e) (quoted-form p s start n h))
