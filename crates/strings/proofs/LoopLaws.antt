-- What the loops keep: bytes that are counted, and bytes that are put into a buffer. Assumes nothing.
use Prim.Native.Nat.{ℕ, ◌+◌, ◌≤◌, ◌<◌}
use native.Mathlib.Omega.{arith}
use mathlib.Core.Path.{◌≡◌, ◌∙◌, ap}
use mathlib.Core.Bool.{Bool, true, false, cond}
use mathlib.Core.List.{List, [], ◌∷◌, ◌++◌}
use lib.Dec.{eqb}
use lib.ListN.{length, get_or, drop, set}
use borrow.Author.Tests.{eq-eqb, ne_eqb}
use Rattle.buffers.specs.Buffers.{before}
use Rattle.buffers.proofs.FillLaws.{Filling, begins, counted, one_more, with-left, whole}
use Rattle.strings.specs.Quotes.{undoubled, doubled, quoted}
use Rattle.strings.proofs.QuoteLaws.{undoubled-step, undoubled-end, doubled-at, doubled-end}

-- bytes of a body with its doubled quotes made single: n are counted, i are behind, and the next is left out or not
pub record Counting (q : ℕ) (body : List ℕ) (n : ℕ) (out : Bool) (i : ℕ) : Type 0 where
  pub fewer : n ≤ i
  pub rest : n + length (undoubled q out (drop i body)) ≡ length (undoubled q false body)

module _ {q : ℕ} {body : List ℕ} {n i : ℕ} {out : Bool} (c : Counting q body n out i) where
  pub count-past : out ≡ true → i < length body → Counting q body n false (i + 1)
  count-past e h =
      let w : undoubled q out (drop i body) ≡ undoubled q false (drop (i + 1) body) = undoubled-step q out body i h ∙ rw e in
      let s = ap length w in
      record { fewer = omega (arith, c.fewer); rest = omega (arith, c.rest) }

  pub count-on : out ≡ false → i < length body → Counting q body (n + 1) (eqb (get_or body i 0) q) (i + 1)
  count-on e h =
      let w : undoubled q out (drop i body) ≡ get_or body i 0 ∷ undoubled q (eqb (get_or body i 0) q) (drop (i + 1) body) = undoubled-step q out body i h ∙ rw e in
      let s = ap length w in
      record { fewer = omega (arith, c.fewer); rest = omega (arith, c.rest) }

  pub all-counted : length body ≤ i → n ≡ length (undoubled q false body)
  all-counted h = omega (arith, c.rest, ap length (undoubled-end q out body i h))

-- the same bytes: n are put into the buffer
pub record Undoubling (q : ℕ) (body old now : List ℕ) (n : ℕ) (out : Bool) (i : ℕ) : Type 0 where
  pub filling : Filling (undoubled q false body) old now n (undoubled q out (drop i body))

module _ {q : ℕ} {body old now : List ℕ} {n i : ℕ} {out : Bool} (u : Undoubling q body old now n out i) where
  pub undouble-past : out ≡ true → i < length body → Undoubling q body old now n false (i + 1)
  undouble-past e h = record { filling = with-left u.filling _ (undoubled-step q out body i h ∙ rw e) }

  pub next-undoubled : out ≡ false → i < length body
      → Filling (undoubled q false body) old now n (get_or body i 0 ∷ undoubled q (eqb (get_or body i 0) q) (drop (i + 1) body))
  next-undoubled e h = with-left u.filling _ (undoubled-step q out body i h ∙ rw e)

  pub undouble-on : out ≡ false → i < length body → Undoubling q body old (set now n (get_or body i 0)) (n + 1) (eqb (get_or body i 0) q) (i + 1)
  undouble-on e h = record { filling = one_more (next-undoubled e h) }

  pub all-undoubled : length body ≤ i → (n ≡ length (undoubled q false body)) × (now ≡ before (undoubled q false body) old)
  all-undoubled h =
      let g = with-left u.filling [] (undoubled-end q out body i h) in
      (omega (arith, counted g), whole g)

-- the literal, from its opening quote: n of its bytes are put into the buffer
pub quote-first : (q : ℕ) (v old : List ℕ) → length (quoted q v) ≤ length old → Filling (quoted q v) old old 0 (q ∷ doubled q v ++ q ∷ [])
unfolding quoted
quote-first q v old h = begins (quoted q v) old h

pub record Quoting (q : ℕ) (v old out : List ℕ) (n i : ℕ) : Type 0 where
  pub upto : i ≤ length v
  pub filling : Filling (quoted q v) old out n (doubled q (drop i v) ++ q ∷ [])

module _ {q : ℕ} {v old out : List ℕ} {n i : ℕ} (f : Quoting q v old out n i) where
  abbrev b : ℕ
  b = get_or v i 0

  pub next-doubled : i < length v → Filling (quoted q v) old out n (b ∷ cond (eqb b q) (b ∷ doubled q (drop (i + 1) v)) (doubled q (drop (i + 1) v)) ++ q ∷ [])
  next-doubled h = with-left f.filling _ (rw (doubled-at q v i h))

  -- a quote's second
  pub next-twice : i < length v → b ≡ q → Filling (quoted q v) old (set out n b) (n + 1) (b ∷ doubled q (drop (i + 1) v) ++ q ∷ [])
  next-twice h e = with-left (one_more (next-doubled h)) _ (rw (eq-eqb b q e))

  pub quote-twice : (h : i < length v) → b ≡ q → Quoting q v old (set (set out n b) (n + 1) b) (n + 1 + 1) (i + 1)
  quote-twice h e = record { upto = omega arith; filling = one_more (next-twice h e) }

  pub quote-once : i < length v → (b ≡ q → ⊥) → Quoting q v old (set out n b) (n + 1) (i + 1)
  quote-once h e = record { upto = omega arith; filling = with-left (one_more (next-doubled h)) _ (rw (ne_eqb b q e)) }

  pub quote-last : length v ≤ i → Filling (quoted q v) old out n (q ∷ [])
  quote-last h = with-left f.filling _ (rw (doubled-end q v i h))
