-- The theorems of request 8: what must have arrived before an answer of Next is final. Assumes nothing.
use Prim.Native.Nat.{ℕ, zero, suc, ◌+◌, ◌-◌, ◌≤◌, ◌<◌, zero-le, suc-le-suc}
use native.Mathlib.Omega.{arith}
use mathlib.Core.Path.{◌≡◌, refl, sym, ◌∙◌, ap, subst}
use mathlib.Core.List.{List, [], ◌∷◌, ◌++◌, nil≢cons, cons≢nil, head-eq_of_cons-eq, tail-eq_of_cons-eq}
use mathlib.Core.Logic.{◌↔◌, ◌⊎◌, inl, inr}
use lib.ListN.{length, take, drop, length-append, length-drop}
use lib.Seq.{take-append-le, drop-append-le, take-take}
use Rattle.keywords.specs.Text.{bytes}
use Rattle.words.specs.Bytes.{is_digit, is_hexdigit, is_identifier_start, is_identifier_continue, is_blank}
use Rattle.grammar.specs.declared.profile.Profile.{Profile}
use Rattle.grammar.specs.declared.profile.Profile.TheVariants.{Turso, Sqlite}
use Rattle.grammar.specs.Classes.{operators, rules}
use Rattle.grammar.specs.Answers.{Answer, token, refusal, answer}
use Rattle.grammar.specs.Longest.{Every, Gives}
use Rattle.grammar.specs.Texts.{offset, Walks, tk, num}
use Rattle.ahead.specs.Ahead.{Agree, span_end, look_ahead}
use Rattle.grammar.proofs.Model
use Rattle.grammar.proofs.Lexemes
use Rattle.grammar.proofs.Theorems.{sound}
use Rattle.grammar.proofs.Tokens.{told}
use Rattle.ahead.proofs.Enough.{enough}
use Rattle.ahead.proofs.Spans.{span-near}

-- the same openings: of two texts that have them, or of two equal ones
same-openings : (n : ℕ) (u v : List ℕ) → take n u ≡ take n v → (u ≡ v) ⊎ ((n ≤ length u) × (n ≤ length v))
same-openings zero u v e = inr (zero-le, zero-le)
same-openings (suc n) [] [] e = inl refl
same-openings (suc n) [] (c ∷ v) e = absurd (nil≢cons e)
same-openings (suc n) (b ∷ u) [] e = absurd (cons≢nil e)
same-openings (suc n) (b ∷ u) (c ∷ v) e = more (same-openings n u v (tail-eq_of_cons-eq e))
  where
    more : (u ≡ v) ⊎ ((n ≤ length u) × (n ≤ length v)) → (b ∷ u ≡ c ∷ v) ⊎ ((suc n ≤ length (b ∷ u)) × (suc n ≤ length (c ∷ v)))
    more (inl d) = inl (ap (λ (x : ℕ). x ∷ u) (head-eq_of_cons-eq e) ∙ ap (λ (l : List ℕ). c ∷ l) d)
    more (inr (h, i)) = inr (suc-le-suc h, suc-le-suc i)

-- Two texts that agree in n bytes both have these, or end at the same place.
pub agree-ends : (at n : ℕ) (s t : List ℕ) → Agree at n s t → (drop at s ≡ drop at t) ⊎ ((n ≤ length (drop at s)) × (n ≤ length (drop at t)))
agree-ends at n s t e = same-openings n (drop at s) (drop at t) e

agree-fewer : (at m n : ℕ) (s t : List ℕ) → n ≤ m → Agree at m s t → Agree at n s t
agree-fewer at m n s t h e = sym (take-take n m (drop at s) h) ∙ ap (take n) e ∙ take-take n m (drop at t) h

-- a text and a longer one agree in what the shorter has
agree-append : (at n : ℕ) (s t : List ℕ) → at + n ≤ length s → Agree at n s (s ++ t)
agree-append at n s t h =
    let l = length-drop at s in
    sym (ap (take n) (drop-append-le at s t (omega arith)) ∙ take-append-le n (drop at s) t (omega arith))

module _ (p : Profile) where
  -- Any answer but End and OffsetPastEnd: a text that agrees from the offset to two bytes behind the span gives it too.
  pub final : (s t : List ℕ) (at : ℕ) (a : Answer) → at < length s → Gives (rules p) s at a → Agree at (span_end a + 2 - at) s t → Gives (rules p) t at a
  final s t at a l (inl (h, d)) e = absurd (omega arith)
  final s t at a l (inr (inl (h, d))) e = absurd (omega arith)
  final s t at a l (inr (inr (h, (c, n, z, d)))) e =
      let look = look_ahead p c in
      let near = subst (λ (a : Answer). at + n + look ≤ span_end a + 2) (sym d) (span-near p c at (drop at s) n z.stands).0 in
      let fewer : (m : ℕ) → m ≤ n + look → Agree at m s t = λ m i. agree-fewer at (span_end a + 2 - at) m s t (omega arith) e in
      let y = enough p (drop at s) (drop at t) c n z (fewer (n + look) (omega arith)) in
      let some = Lexemes.positive (rules p) (sound p) (drop at t) c n y.stands in
      let there : at < length t = omega (arith, y.stands.0, length-drop at t) in
      inr (inr (there, (c, n, y, d ∙ ap (answer c at) (fewer n (omega arith)))))

  -- Request 8: if Next gives a legal token, a text that agrees from the offset through the lexeme and two bytes more gives the same.
  pub token-final : (s t : List ℕ) (at k start n next d u : ℕ) → Gives (rules p) s at (token k start n next d u) → Agree at (n + 2) s t
      → Gives (rules p) t at (token k start n next d u)
  token-final s t at k start n next d u g e =
      let h = told p s at k start n next d u g in
      let i : n + 2 ≡ start + n + 2 - at = omega (arith, h.starts) in
      final s t at (token k start n next d u) (omega (arith, h.goes, h.some, h.inside)) g (subst (λ (m : ℕ). Agree at m s t) i e)

  -- The same of a refusal 1 to 7, through its span and two bytes more.
  pub refusal-final : (s t : List ℕ) (at k start n next : ℕ) → k ≤ 7 → Gives (rules p) s at (refusal k start n next) → Agree at (start + n + 2 - at) s t
      → Gives (rules p) t at (refusal k start n next)
  refusal-final s t at k start n next l g = final s t at (refusal k start n next) (inside g) g
    where
      inside : Gives (rules p) s at (refusal k start n next) → at < length s
      inside (inl (h, d)) = let z : k ≡ 8 = cc in absurd (omega arith)
      inside (inr (inl (h, d))) = let z : ◌≡◌ {A = ℕ} 0 1 = cc in absurd (omega arith)
      inside (inr (inr (h, d))) = h

  -- an answer whose span ends before the text does is not End's
  inside : (s : List ℕ) (at : ℕ) (a : Answer) → at ≤ length s → span_end a < length s → Gives (rules p) s at a → at < length s
  inside s at a l e (inl (h, d)) = absurd (omega arith)
  inside s at a l e (inr (inl (h, d))) = absurd (omega (arith, ap span_end d))
  inside s at a l e (inr (inr (h, d))) = h

  -- the offset that an answer leaves lies in the text
  left-inside : (s : List ℕ) (at : ℕ) (a : Answer) → at ≤ length s → Gives (rules p) s at a → offset a ≤ length s
  left-inside s at a l (inl (h, d)) = absurd (omega arith)
  left-inside s at a l (inr (inl (h, d))) = omega (arith, ap offset d)
  left-inside s at a l (inr (inr (h, (c, n, z, d)))) =
      omega (arith, ap offset d, (span-near p c at (drop at s) n z.stands).1, z.stands.0, length-drop at s)

  -- What has arrived decides: the answers of a text whose spans end two bytes or more before its end are those of every longer text, one
  -- by one, from any offset on, and there are no others.
  pub arrived : (s t : List ℕ) (l : List Answer) (at : ℕ) → at ≤ length s → Every (λ a. span_end a + 2 ≤ length s) l
      → Walks (rules p) s at l ↔ Walks (rules p) (s ++ t) at l
  arrived s t [] at i e = (λ g. tt, λ g. tt)
  arrived s t (a ∷ l) at i (h, e) = (
    λ g. let j = longer g.0 in (j, (arrived s t l (offset a) (left-inside s at a i g.0) e).0 g.1),
    λ g. let j = shorter g.0 in (j, (arrived s t l (offset a) (left-inside s at a i j) e).1 g.1),
  )
    where
      agree : Agree at (span_end a + 2 - at) s (s ++ t)
      agree = agree-append at (span_end a + 2 - at) s t (omega arith)

      longer : Gives (rules p) s at a → Gives (rules p) (s ++ t) at a
      longer g = final s (s ++ t) at a (inside s at a i (omega arith) g) g agree

      shorter : Gives (rules p) (s ++ t) at a → Gives (rules p) s at a
      shorter g =
          let m = length-append s t in
          final (s ++ t) s at a (inside (s ++ t) at a (omega arith) (omega arith) g) g (sym agree)

-- The texts below, as the model computes them.
module _ (p : Profile) where
  abbrev gives : List ℕ → Answer → Type 0
  gives s a = Model.next (rules p) s 0 ≡ a

  given : (s : List ℕ) (a : Answer) → gives s a → Gives (rules p) s 0 a
  given s a e = subst (Gives (rules p) s 0) e (Lexemes.next-gives (rules p) (sound p) s 0)

computed : (p : Profile) → gives p (bytes "$a:b") (tk "TK_VARIABLE" 0 2) × gives p (bytes "$a::b") (tk "TK_VARIABLE" 0 5)
    × gives p (bytes "5") (num "TK_INTEGER" 0 1 1 0) × gives p (bytes "5.e-1") (num "TK_FLOAT" 0 5 2 0)
unfolding rules operators is_digit is_hexdigit is_identifier_start is_identifier_continue is_blank answer
computed Turso = (refl, refl, refl, refl)
computed Sqlite = (refl, refl, refl, refl)

-- One byte behind the lexeme is not enough: these two texts agree in it.
pub two-needed : (p : Profile) → Gives (rules p) (bytes "$a:b") 0 (tk "TK_VARIABLE" 0 2) × Gives (rules p) (bytes "$a::b") 0 (tk "TK_VARIABLE" 0 5)
    × Agree 0 (2 + 1) (bytes "$a:b") (bytes "$a::b")
two-needed p = (given p (bytes "$a:b") _ (computed p).0, given p (bytes "$a::b") _ (computed p).1, refl)

-- Nor is all that a text has, where it ends before these two bytes: the other begins with it.
pub end_needed : (p : Profile) → Gives (rules p) (bytes "5") 0 (num "TK_INTEGER" 0 1 1 0) × Gives (rules p) (bytes "5.e-1") 0 (num "TK_FLOAT" 0 5 2 0)
    × (bytes "5.e-1" ≡ bytes "5" ++ bytes ".e-1")
end_needed p = (given p (bytes "5") _ (computed p).2, given p (bytes "5.e-1") _ (computed p).3, refl)
