-- What is known of a span that is a token. Assumes nothing.
use Prim.Native.Nat.{ℕ, zero, suc, ◌+◌, ◌≤◌, ◌<◌}
use native.Mathlib.Omega.{arith}
use mathlib.Core.Path.{◌≡◌, refl, sym, ◌∙◌, ap, subst}
use mathlib.Core.Bool.{true, false, true≢false}
use mathlib.Core.List.{List, [], ◌∷◌}
use mathlib.Core.Logic.{inl, inr}
use lib.ListN.{length, get_or, take, drop, length-drop}
use lib.Seq.{length-take-le, drop-cons}
use Rattle.keywords.specs.Kinds.{kind}
use Rattle.grammar.specs.declared.profile.Profile.{Profile}
use Rattle.grammar.specs.declared.profile.Profile.TheVariants.{Turso, Sqlite}
use Rattle.grammar.specs.Form.{Has, H, one, many, one_of, lit, ◌·◌, ◌∣◌}
use Rattle.grammar.specs.Classes.{Class, rules, ◌is◌, malformed, string, integer, blob, opened, dig, hex_integer, x}
use Rattle.grammar.specs.Answers.{Answer, token, end, refusal, sum, integer_digits}
use Rattle.grammar.specs.Longest.{Stands, Gives}
use Rattle.grammar.proofs.ClassLaws.{number, only, one-rule}
use Rattle.grammar.proofs.Tokens.{is_number, Told, told, CountsAs}
use Rattle.grammar.proofs.Unique.{gives-unique}
use Rattle.lexer.specs.declared.cursor.Cursor.{Cursor}
use Rattle.lexer.specs.declared.lexed.Lexed.{Lexed}
use Rattle.lexer.specs.declared.lexed.Lexed.TheVariants.{Token, End, Refused}
use Rattle.lexer.specs.Values.{LexesUnder}
use Rattle.spans.specs.Spans.{span, is_quote, IsTokenWith, IsToken, IsName}
use Rattle.spans.proofs.KindLaws.{kind_after, is_literal, class_for, quoted_form, literal-class, name-form}

abbrev length_of : Answer → ℕ
length_of (token k start n next d u) = n
length_of (end offset) = 0
length_of (refusal k start n offset) = 0

-- what Next tells of it
module _ (p : Profile) (s : List ℕ) (start n k : ℕ) where
  pub number-told : (d : ℕ) (h : IsTokenWith p s start n k d) → (u : ℕ) × Told p s start k start n (start + n) d u
  unfolding IsTokenWith
  number-told d (u, g) = (u, told p s start k start n (start + n) d u g)

  -- it lies in the text, and has a byte
  pub inside : IsToken p s start n k → (start + n ≤ length s) × (0 < n)
  unfolding IsToken
  inside (d, h) = let (u, t) = number-told d h in (t.inside, t.some)

  pub span-long : IsToken p s start n k → length (span s start n) ≡ n
  span-long h = let i = (inside h).0 in length-take-le n (drop start s) (omega (arith, length-drop start s))

  -- a token of so many digits is a token
  pub some-digits : (d : ℕ) → IsTokenWith p s start n k d → IsToken p s start n k
  unfolding IsToken
  some-digits d h = (d, h)

  literal-stands : is_literal k ≡ true → IsToken p s start n k → Stands (rules p) (class_for k) (drop start s) n
  unfolding IsToken
  literal-stands l (d, h) =
      let (u, t) = number-told d h in
      subst (λ (c : Class). Stands (rules p) c (drop start s) n) (literal-class t.class start (span s start n) k l (ap kind_after t.gives)) t.longest.stands

-- the form of its bytes
module _ (p : Profile) (s : List ℕ) (start n : ℕ) where
  pub string-form : IsToken p s start n (kind "TK_STRING") → Has (opened (one_of "'") · lit "'") (span s start n)
  unfolding rules
  string-form h = ((one-rule (rules p) string _ (rule p) (drop start s) n).0 (literal-stands p s start n (kind "TK_STRING") refl h)).1
    where
      rule : (q : Profile) → only string (rules q) ≡ (string is opened (one_of "'") · lit "'") ∷ []
      rule Turso = refl
      rule Sqlite = refl

  pub blob-form : IsToken p s start n (kind "TK_BLOB") → Has (x · lit "'" · many (one H · one H) · lit "'") (span s start n)
  unfolding rules
  blob-form h = ((one-rule (rules p) blob _ (rule p) (drop start s) n).0 (literal-stands p s start n (kind "TK_BLOB") refl h)).1
    where
      rule : (q : Profile) → only blob (rules q) ≡ (blob is x · lit "'" · many (one H · one H) · lit "'") ∷ []
      rule Turso = refl
      rule Sqlite = refl

  pub integer-form : IsToken p s start n (kind "TK_INTEGER") → Has (dig ∣ hex_integer) (span s start n)
  unfolding rules
  integer-form h = ((one-rule (rules p) integer _ (rule p) (drop start s) n).0 (literal-stands p s start n (kind "TK_INTEGER") refl h)).1
    where
      rule : (q : Profile) → only integer (rules q) ≡ (integer is dig ∣ hex_integer) ∷ []
      rule Turso = refl
      rule Sqlite = refl

  -- a quoted name's
  pub quoted-form : IsName p s start n → Has (quoted_form p) (span s start n)
  unfolding IsName IsToken
  quoted-form ((d, h), q) =
      let (u, t) = number-told p s start n (kind "TK_ID") d h in
      let i : start < length s = omega (arith, t.inside, t.some) in
      let first : drop start s ≡ get_or s start 0 ∷ drop (suc start) s = drop-cons s start 0 i in
      let stands = subst (λ (w : List ℕ). Stands (rules p) t.class w n) first t.longest.stands in
      subst (λ (w : List ℕ). Has (quoted_form p) (take n w)) (sym first) (of_some n t.some t.class t.legal (get_or s start 0) (drop (suc start) s) q stands)
    where
      of_some : (m : ℕ) → 0 < m → (c : Class) → malformed c ≡ false → (b : ℕ) (w : List ℕ) → is_quote p b ≡ true → Stands (rules p) c (b ∷ w) m
          → Has (quoted_form p) (take m (b ∷ w))
      of_some zero o c l b w q h = absurd (omega arith)
      of_some (suc m) o c l b w q h = name-form p c b w m q l h

  -- an integer's digits are counted
  pub integer-sum : (d : ℕ) → IsTokenWith p s start n (kind "TK_INTEGER") d → d ≡ sum (integer_digits (span s start n))
  integer-sum d h =
      let (u, t) = number-told p s start n (kind "TK_INTEGER") d h in
      let c = literal-class t.class start (span s start n) (kind "TK_INTEGER") refl (ap kind_after t.gives) in
      counted t.class c t.counts
    where
      counted : {u : ℕ} (c : Class) → c ≡ integer → CountsAs sum c (span s start n) d u → d ≡ sum (integer_digits (span s start n))
      counted c e (inl (i, f, g)) = f
      counted c e (inr (inl (i, f, g))) = absurd (let z : ◌≡◌ {A = ℕ} 6 7 = ap number (sym e ∙ i) in omega arith)
      counted c e (inr (inr (i, f, g))) = absurd (true≢false (sym (ap is_number e) ∙ i))

-- what an answer of `next` says of the span
module _ (p : Profile) (s : List ℕ) (start n k : ℕ) where
  pub no-token : (r : Lexed) → LexesUnder p s start r → ((j from m : ℕ) (next : Cursor) (d u : ℕ) → r ≡ Token j from m next d u → ⊥) → IsToken p s start n k → ⊥
  unfolding LexesUnder IsToken IsTokenWith
  no-token (Token j from m next d u) l o g = o j from m next d u refl
  no-token (End next) l o (d, (u, g)) = let e = ap kind_after (gives-unique (rules p) s start _ _ l g) in omega arith
  no-token (Refused why from m next) l o (d, (u, g)) = let e = ap kind_after (gives-unique (rules p) s start _ _ l g) in omega arith

  pub other-kind : (j from m : ℕ) (next : Cursor) (d u : ℕ) → LexesUnder p s start (Token j from m next d u) → (j ≡ k → ⊥) → IsToken p s start n k → ⊥
  unfolding LexesUnder IsToken IsTokenWith
  other-kind j from m next d u l o (e, (v, g)) = let f = ap kind_after (gives-unique (rules p) s start _ _ l g) in o (omega arith)

  pub other_length : (j from m : ℕ) (next : Cursor) (d u : ℕ) → LexesUnder p s start (Token j from m next d u) → (m ≡ n → ⊥) → IsToken p s start n k → ⊥
  unfolding LexesUnder IsToken IsTokenWith
  other_length j from m next d u l o (e, (v, g)) = o (ap length_of (gives-unique (rules p) s start _ _ l g))

  pub found : (j from m : ℕ) (next : Cursor) (d u : ℕ) → LexesUnder p s start (Token j from m next d u) → j ≡ k → m ≡ n → IsTokenWith p s start n k d
  unfolding LexesUnder IsTokenWith
  found j from m next d u l e f =
      let t = told p s start j from m next.at d u l in
      let same : token j from m next.at d u ≡ token k start n (start + n) d u = rw (e, t.starts, t.goes, f) in
      (u, subst (Gives (rules p) s start) same l)
