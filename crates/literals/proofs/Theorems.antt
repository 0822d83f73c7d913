-- For readers. What was written is one token of its kind, from its first byte to its last, under both profiles (`integer-written` and the
-- others). Reading it gives the value again, for every value, by the public contracts (`integers`, `strings`, `names`, `blobs`). Where a span
-- is taken, its bytes by themselves read the same (`integer-alone` and the others); so does a token that a stream gives, from the row's front (`offered-alone`,
-- `finished-alone` in Row.antt). That each call has one result is said by the theorems of integers, strings and blobs; that a legal literal,
-- read and written again, is itself, by `again` there. Assumes nothing.
use Prim.Native.Nat.{ℕ, ◌^◌, ◌<◌}
use native.Mathlib.Omega.{arith}
use mathlib.Core.Path.{◌≡◌, refl, sym, ◌∙◌, ap, subst}
use mathlib.Core.Bool.{true}
use mathlib.Core.List.{List}
use mathlib.Core.Logic.{inl, inr}
use lib.IntN.{ℤ, pos, negsuc}
use lib.Signed.{mag}
use lib.Pow.{are_bytes}
use lib.Dec.{eqb}
use lib.ListN.{length, take}
use lib.Seq.{take-length}
use Rattle.keywords.specs.Kinds.{kind}
use Rattle.keywords.proofs.Logic.{or-false}
use Rattle.grammar.specs.declared.profile.Profile.{Profile}
use Rattle.grammar.specs.declared.profile.Profile.TheVariants.{Turso, Sqlite}
use Rattle.grammar.specs.Form.{one_of}
use Rattle.std.specs.Prelude.{Result, Ok}
use Rattle.buffers.specs.Buffers.{Said, Fills}
use Rattle.buffers.proofs.Theorems.{written-part}
use Rattle.spans.specs.Spans.{span, is_quote, IsToken, IsName, Reads, ReadsBytes, said_of}
use Rattle.spans.proofs.TokenLaws.{span-long}
use Rattle.integers.specs.declared.reading.IntegerError.{IntegerError}
use Rattle.integers.specs.Integers.{bits_of, integer_of, integer_literal, decimal, hexadecimal}
use Rattle.integers.specs.Calls.{ReadsInteger, WritesInteger}
use Rattle.integers.proofs.WritingLaws.{width_some, decimal-long, hexadecimal-long}
use Rattle.integers.proofs.Theorems as Integers
use Rattle.spans.specs.declared.answers.ReadError.{ReadError}
use Rattle.strings.specs.Quotes.{unquoted, quoted}
use Rattle.strings.specs.Calls.{ReadsString, ReadsName, WritesString, WritesName}
use Rattle.strings.proofs.QuoteLaws.{quoted-long}
use Rattle.strings.proofs.Theorems as Strings
use Rattle.blobs.specs.Blobs.{blob_bytes, blob_literal}
use Rattle.blobs.specs.Calls.{ReadsBlob, WritesBlob}
use Rattle.blobs.proofs.BlobLaws.{blob-long}
use Rattle.blobs.proofs.Theorems as Blobs
use Rattle.literals.proofs.Alone.{is-alone, name-alone}
use Rattle.literals.proofs.Whole.{is-string, is-id, is-integer, is-blob}
use Rattle.literals.proofs.Forms.{decimal-form, hexadecimal-form, quoted-form, blob-form}

-- What was written is one token.
module _ (p : Profile) where
  pub integer-written : (v : ℤ) → IsToken p (integer_literal v) 0 (length (integer_literal v)) (kind "TK_INTEGER")
  unfolding integer_literal
  integer-written (pos n) = is-integer p (decimal n) (omega (arith, decimal-long n, width_some 19 n)) (decimal-form n)
  integer-written (negsuc k) = let n = bits_of (negsuc k) in is-integer p (hexadecimal n) (omega (arith, hexadecimal-long n)) (hexadecimal-form n)

  pub string-written : (v : List ℕ) → IsToken p (quoted 39 v) 0 (length (quoted 39 v)) (kind "TK_STRING")
  string-written v = is-string p (quoted 39 v) (omega (arith, quoted-long 39 v)) (quoted-form (one_of "'") 39 (λ b. or-false (eqb b 39)) v)

  pub name-written : (v : List ℕ) → IsName p (quoted 34 v) 0 (length (quoted 34 v))
  unfolding IsName is_quote quoted
  name-written v = (is-id p (quoted 34 v) (omega (arith, quoted-long 34 v)) (inl (quoted-form (one_of "\"") 34 (λ b. or-false (eqb b 34)) v)), first p)
    where
      first : (q : Profile) → is_quote q 34 ≡ true
      first Turso = refl
      first Sqlite = refl

  pub blob-written : (v : List ℕ) → are_bytes v ≡ true → IsToken p (blob_literal v) 0 (length (blob_literal v)) (kind "TK_BLOB")
  blob-written v e = is-blob p (blob_literal v) (omega (arith, blob-long v)) (blob-form v e)

-- Reading what was written gives the value again. The text is the written part of the buffer, whatever stands behind it there.
whole-span : (w : List ℕ) → span w 0 (length w) ≡ w
whole-span w = take-length w

-- n bytes, which are x, are x and its length
is_all : (P : List ℕ → ℕ → Type 0) (w x : List ℕ) (n : ℕ) → (n ≡ length x) × (w ≡ x) → P w n → P x (length x)
is_all P w x n (e, f) h = subst (P x) e (subst (λ (y : List ℕ). P y n) f h)

-- what is said where the literal is taken
taken : {That : Type 0} {v old new : List ℕ} {said : Said} → That → ReadsBytes That v old said new → Fills v old said new
taken t (inl h) = absurd (h.0 t)
taken t (inr h) = h.1

value-again : (p : Profile) (v : ℤ) → mag v < 2 ^ 63 → ReadsInteger p (integer_literal v) 0 (length (integer_literal v)) (Ok v)
unfolding ReadsInteger
value-again p v h = inr (integer-written p v, sym (ap integer_of (whole-span (integer_literal v)) ∙ Integers.read_back v h))

-- every 64-bit integer
pub integers : (p : Profile) (v : ℤ) (old : List ℕ) (n : ℕ) (new : List ℕ) (r : Result ℤ IntegerError) → mag v < 2 ^ 63 → WritesInteger v old (Ok n) new
    → ReadsInteger p (take n new) 0 n r → r ≡ Ok v
unfolding WritesInteger
integers p v old n new r h w i =
    let l = integer_literal v in
    Integers.read-unique p l 0 (length l) r (Ok v) (is_all (λ x m. ReadsInteger p x 0 m r) (take n new) l n (written-part w) i) (value-again p v h)

-- every list of bytes: it fills the buffer that is lent
pub strings : (p : Profile) (v old : List ℕ) (n : ℕ) (new lent : List ℕ) (r : Result ℕ ReadError) (after : List ℕ) → WritesString v old (Ok n) new
    → ReadsString p (take n new) 0 n lent r after → Fills v lent (said_of r) after
unfolding WritesString ReadsString
strings p v old n new lent r after w i =
    let l = quoted 39 v in
    let j : ReadsString p l 0 (length l) lent r after = is_all (λ x m. ReadsString p x 0 m lent r after) (take n new) l n (written-part w) i in
    subst (λ (x : List ℕ). Fills x lent (said_of r) after) (ap unquoted (whole-span l) ∙ Strings.read_back 39 v (λ e. omega arith)) (taken (string-written p v) j)

pub names : (p : Profile) (v old : List ℕ) (n : ℕ) (new lent : List ℕ) (r : Result ℕ ReadError) (after : List ℕ) → WritesName v old (Ok n) new
    → ReadsName p (take n new) 0 n lent r after → Fills v lent (said_of r) after
unfolding WritesName ReadsName
names p v old n new lent r after w i =
    let l = quoted 34 v in
    let j : ReadsName p l 0 (length l) lent r after = is_all (λ x m. ReadsName p x 0 m lent r after) (take n new) l n (written-part w) i in
    subst (λ (x : List ℕ). Fills x lent (said_of r) after) (ap unquoted (whole-span l) ∙ Strings.read_back 34 v (λ e. omega arith)) (taken (name-written p v) j)

pub blobs : (p : Profile) (v old : List ℕ) (n : ℕ) (new lent : List ℕ) (r : Result ℕ ReadError) (after : List ℕ) → are_bytes v ≡ true → WritesBlob v old (Ok n) new
    → ReadsBlob p (take n new) 0 n lent r after → Fills v lent (said_of r) after
unfolding WritesBlob ReadsBlob
blobs p v old n new lent r after b w i =
    let l = blob_literal v in
    let j : ReadsBlob p l 0 (length l) lent r after = is_all (λ x m. ReadsBlob p x 0 m lent r after) (take n new) l n (written-part w) i in
    subst (λ (x : List ℕ). Fills x lent (said_of r) after) (ap blob_bytes (whole-span l) ∙ Blobs.read_back v b) (taken (blob-written p v b) j)

-- Where a span is taken, its bytes by themselves read the same.
module _ (p : Profile) (s : List ℕ) (start n : ℕ) where
  same_bytes : length (span s start n) ≡ n → span (span s start n) 0 n ≡ span s start n
  same_bytes e = ap (λ (m : ℕ). take m (span s start n)) (sym e) ∙ take-length (span s start n)

  -- an answer that says a value of the bytes
  still : {That There : Type 0} {v w said : Said} → That → There → v ≡ w → Reads That v said → Reads There w said
  still t u e (inl h) = absurd (h.0 t)
  still t u e (inr h) = inr (u, h.1 ∙ e)

  still-bytes : {That There : Type 0} {v w old new : List ℕ} {said : Said} → That → There → v ≡ w → ReadsBytes That v old said new → ReadsBytes There w old said new
  still-bytes t u e (inl h) = absurd (h.0 t)
  still-bytes {That} {There} {v} {w} {old} {new} {said} t u e (inr h) = inr (u, subst (λ (x : List ℕ). Fills x old said new) e h.1)

  pub integer-alone : (r : Result ℤ IntegerError) → IsToken p s start n (kind "TK_INTEGER") → ReadsInteger p s start n r → ReadsInteger p (span s start n) 0 n r
  unfolding ReadsInteger
  integer-alone r t = still t (is-alone p s start n (kind "TK_INTEGER") t) (ap integer_of (sym (same_bytes (span-long p s start n (kind "TK_INTEGER") t))))

  pub string-alone : (old : List ℕ) (r : Result ℕ ReadError) (new : List ℕ) → IsToken p s start n (kind "TK_STRING") → ReadsString p s start n old r new
      → ReadsString p (span s start n) 0 n old r new
  unfolding ReadsString
  string-alone old r new t = still-bytes t (is-alone p s start n (kind "TK_STRING") t) (ap unquoted (sym (same_bytes (span-long p s start n (kind "TK_STRING") t))))

  pub named-alone : (old : List ℕ) (r : Result ℕ ReadError) (new : List ℕ) → IsName p s start n → ReadsName p s start n old r new → ReadsName p (span s start n) 0 n old r new
  unfolding ReadsName IsName
  named-alone old r new t = still-bytes t (name-alone p s start n t) (ap unquoted (sym (same_bytes (span-long p s start n (kind "TK_ID") t.0))))

  pub blob-alone : (old : List ℕ) (r : Result ℕ ReadError) (new : List ℕ) → IsToken p s start n (kind "TK_BLOB") → ReadsBlob p s start n old r new
      → ReadsBlob p (span s start n) 0 n old r new
  unfolding ReadsBlob
  blob-alone old r new t = still-bytes t (is-alone p s start n (kind "TK_BLOB") t) (ap blob_bytes (sym (same_bytes (span-long p s start n (kind "TK_BLOB") t))))
