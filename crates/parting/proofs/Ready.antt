-- When what a stream says at a place is settled. Assumes nothing.
use Prim.Native.Nat.{ℕ, ◌+◌, ◌≤◌, ◌<◌}
use native.Mathlib.Omega.{arith}
use mathlib.Core.Path.{◌≡◌, refl, sym, ◌∙◌, ap, subst}
use mathlib.Core.Bool.{Bool, true, false, ◌||◌, true≢false}
use mathlib.Core.List.{List, [], ◌∷◌, ◌++◌, append-nil}
use mathlib.Core.Logic.{◌⊎◌, inl, inr, ⊎_elim}
use lib.Dec.{leb, eqb}
use lib.ListN.{length, take, drop, length-append, length-drop}
use lib.Seq.{take-length, take-append-le, drop-append-le}
use borrow.Author.Tests.{leb-true, leb-false, le-leb, lt-leb, eqb-true, eqb-false}
use Rattle.keywords.proofs.Logic.{split}
use Rattle.grammar.specs.declared.profile.Profile.{Profile}
use Rattle.grammar.specs.Classes.{Class, rules}
use Rattle.grammar.specs.Answers.{Answer, end, answer}
use Rattle.grammar.specs.Longest.{Longest, Gives}
use Rattle.ahead.specs.Ahead.{look_ahead, span_end}
use Rattle.readings.specs.declared.reading.Reading.{Reading}
use Rattle.readings.specs.Arrows.{reading, is_lexeme, is_settled}
use Rattle.grammar.proofs.Equivalences.{or-iff}
use Rattle.grammar.proofs.Lexemes
use Rattle.grammar.proofs.Theorems.{sound, grows as longer}
use Rattle.grammar.proofs.Unique.{longest-unique}
use Rattle.ahead.proofs.Spans.{span-near}
use Rattle.readings.proofs.Settled.{lexeme-read, full, not-shorter, grows, settled-longest, differ, one-behind}
use Rattle.stream.specs.Refusals.{own}
use Rattle.parting.specs.Means.{within, Lexeme, Says, Settled, Open}
use Rattle.intake.specs.Takes.{limit, room, is_over, is_ready}
use Rattle.stream.specs.Calls.{shift}
use Rattle.stream.proofs.Shift.{shift-answer, span-shift, no_own}

-- an answer within the limit, and one over it
pub within-short : (n at : ℕ) (a : Answer) → n ≤ limit → within n at a ≡ a
within-short n at a l = rw (le-leb n limit l) refl

within-long : (n at : ℕ) (a : Answer) → limit < n → within n at a ≡ own "LexemeTooLong" at
within-long n at a l = rw (lt-leb n limit l) refl

-- what being over the limit tells, and what not being so tells of more bytes than the limit
over-told : (r : Reading) (h : ℕ) → is_over r h ≡ true → (limit < h) × (is_lexeme r ≡ true)
unfolding is_over
over-told r h e =
    split (leb h limit)
    (λ f. absurd (true≢false (sym e ∙ rw f refl)))
    (λ f. (leb-false h limit f, sym (rw f refl) ∙ e))

not-over : (r : Reading) (h : ℕ) → limit < h → is_over r h ≡ is_lexeme r
unfolding is_over
not-over r h l = rw (lt-leb h limit l) refl

-- the three tests of readiness
or-false : (a b c : Bool) → a || b || c ≡ false → (a ≡ false) × (b ≡ false) × (c ≡ false)
or-false true b c e = absurd (true≢false e)
or-false false true c e = absurd (true≢false e)
or-false false false c e = (refl, refl, e)

pub unready-told : (r : Reading) (h : ℕ) → is_ready room r h ≡ false → (is_settled r ≡ false) × (is_over r h ≡ false) × (h ≤ limit + 1)
unfolding is_ready
unready-told r h e =
    let (a, b, c) = or-false (is_settled r) (is_over r h) (leb room h) e in
    (a, b, omega (arith, leb-false room h c))

ready-told : (r : Reading) (h : ℕ) → is_ready room r h ≡ true → is_settled r ≡ false → (is_over r h ≡ true) ⊎ (limit + 2 ≤ h)
unfolding is_ready
ready-told r h e f =
    ⊎_elim
    (λ g. ⊎_elim (λ s. absurd (true≢false (sym s ∙ f))) inl ((or-iff (is_settled r) (is_over r h)).0 g))
    (λ g. inr (leb-true room h g))
    ((or-iff (is_settled r || is_over r h) (leb room h)).0 e)

module _ (p : Profile) where
  pub some_byte : (w : List ℕ) (c : Class) (n : ℕ) → Longest (rules p) w c n → (0 < n) × (n ≤ length w)
  some_byte w c n x = (Lexemes.positive (rules p) (sound p) w c n x.stands, x.stands.0)

  lexeme-one : (w : List ℕ) (at : ℕ) (a b : Answer) → Lexeme p w at a → Lexeme p w at b → a ≡ b
  lexeme-one w at a b (c, n, x, d) (k, m, y, e) =
      let (f, g) = longest-unique x y in
      d ∙ ap (λ (c : Class). within n at (answer c at (take n w))) f ∙ ap (λ (n : ℕ). within n at (answer k at (take n w))) g ∙ sym e

  -- At a place of a text at most one thing is said.
  pub says-unique : (s : List ℕ) (at : ℕ) (a b : Answer) → Says p s at a → Says p s at b → a ≡ b
  says-unique s at a b (inl (h, d)) (inl (i, e)) = d ∙ sym e
  says-unique s at a b (inl (h, d)) (inr (c, n, x, e)) = absurd (omega (arith, some_byte (drop at s) c n x, length-drop at s))
  says-unique s at a b (inr (c, n, x, d)) (inl (i, e)) = absurd (omega (arith, some_byte (drop at s) c n x, length-drop at s))
  says-unique s at a b (inr x) (inr y) = lexeme-one (drop at s) at a b x y

  some-lexeme : (w : List ℕ) → 0 < length w → (c : Class) × (n : ℕ) × Longest (rules p) w c n
  some-lexeme w l = let (c, n, x, e) = Lexemes.lexeme-given (rules p) (sound p) w 0 l in (c, n, x)

  lexeme-says : (w : List ℕ) (at : ℕ) (c : Class) (n : ℕ) → Longest (rules p) w c n → (a : Answer) × Lexeme p w at a
  lexeme-says w at c n x = (within n at (answer c at (take n w)), (c, n, x, refl))

  -- At each place of a text, its end included, something is said.
  pub says_some : (s : List ℕ) (at : ℕ) → at ≤ length s → (a : Answer) × Says p s at a
  says_some s at l =
      split (eqb at (length s))
      (λ e. (end at, inl (eqb-true at (length s) e, refl)))
      (λ e.
      let before = eqb-false at (length s) e in
      let there : 0 < length (drop at s) = omega (arith, length-drop at s) in
      let (c, n, x) = some-lexeme (drop at s) there in
      let (a, h) = lexeme-says (drop at s) at c n x in
      (a, inr h))

  -- a longest lexeme over the limit is refused, and where there is no other nothing else is said
  long-says : (s : List ℕ) (at : ℕ) (c : Class) (n : ℕ) → Longest (rules p) (drop at s) c n → limit < n → Says p s at (own "LexemeTooLong" at)
  long-says s at c n x l = inr (c, n, x, sym (within-long n at (answer c at (take n (drop at s))) l))

  says-long : (s : List ℕ) (at : ℕ) (a : Answer) → at < length s → ((c : Class) (n : ℕ) → Longest (rules p) (drop at s) c n → limit < n)
      → Says p s at a → a ≡ own "LexemeTooLong" at
  says-long s at a l far (inl (h, d)) = absurd (omega arith)
  says-long s at a l far (inr (c, n, x, d)) = d ∙ within-long n at (answer c at (take n (drop at s))) (far c n x)

  -- What reads as a lexeme over the limit is refused.
  pub over-says : (s : List ℕ) (at : ℕ) → is_over (reading p (drop at s)) (length (drop at s)) ≡ true → Says p s at (own "LexemeTooLong" at)
  over-says s at e =
      let w = drop at s in
      let (l, i) = over-told (reading p w) (length w) e in
      let (c, h) = (lexeme-read p w).0 i in
      long-says s at c (length w) (full p w c h) l

  -- where the longest lexeme is over the limit whatever follows, what is said is settled
  far-settled : (s : List ℕ) (at : ℕ) → at < length s
      → ((t : List ℕ) (c : Class) (n : ℕ) → Longest (rules p) (drop at s ++ t) c n → limit < n) → Settled p s at
  far-settled s at l far t a g =
      let here : (c : Class) (n : ℕ) → Longest (rules p) (drop at s) c n → limit < n =
      λ c n x. far [] c n (subst (λ (w : List ℕ). Longest (rules p) w c n) (sym (append-nil (drop at s))) x) in
      let there : (c : Class) (n : ℕ) → Longest (rules p) (drop at (s ++ t)) c n → limit < n =
      λ c n x. far t c n (subst (λ (w : List ℕ). Longest (rules p) w c n) (drop-append-le at s t (omega arith)) x) in
      let (b, h) = says_some s at (omega arith) in
      let same = says-long (s ++ t) at a (omega (arith, length-append s t)) there g in
      subst (Says p s at) (says-long s at b l here h ∙ sym same) h

  settled_says : (s : List ℕ) (at : ℕ) → at ≤ length s → is_settled (reading p (drop at s)) ≡ true → Settled p s at
  settled_says s at l e t a (inl (h, d)) = inl (omega (arith, length-append s t), d)
  settled_says s at l e t a (inr x) = inr (shorter (subst (λ (u : List ℕ). Lexeme p u at a) (drop-append-le at s t l) x))
    where
      w : List ℕ
      w = drop at s

      shorter : Lexeme p (w ++ t) at a → Lexeme p w at a
      shorter (c, n, y, d) =
          let z = (settled-longest p w t e c n).1 y in
          (c, n, z, d ∙ ap (λ (u : List ℕ). within n at (answer c at u)) (take-append-le n w t z.stands.0))

  -- Where no byte more is wanted, no continuation alters what is said.
  pub ready-settled : (s : List ℕ) (at : ℕ) → at ≤ length s → is_ready room (reading p (drop at s)) (length (drop at s)) ≡ true → Settled p s at
  ready-settled s at l e =
      split (is_settled (reading p (drop at s)))
      (λ f. settled_says s at l f)
      (λ f. by_length f (ready-told (reading p (drop at s)) (length (drop at s)) e f))
    where
      w : List ℕ
      w = drop at s

      by_length : is_settled (reading p w) ≡ false → (is_over (reading p w) (length w) ≡ true) ⊎ (limit + 2 ≤ length w) → Settled p s at
      by_length f (inl o) =
          let (i, j) = over-told (reading p w) (length w) o in
          far-settled s at (omega (arith, length-drop at s)) (λ t c n x. omega (arith, i, not-shorter p w t c n j x))
      by_length f (inr o) =
          let (d, m, y) = some-lexeme w (omega arith) in
          let i = one-behind p w d m f y in
          far-settled s at (omega (arith, o, length-drop at s)) (λ t c n x. omega (arith, o, i, longer p w t d c m n y x))

  -- the longest lexeme reads as a lexeme
  longest-read : (w : List ℕ) (c : Class) (n : ℕ) → Longest (rules p) w c n → is_lexeme (reading p (take n w)) ≡ true
  longest-read w c n x =
      let u = take n w in
      let h = Lexemes.stands-anywhere (rules p) (sound p) c w n x.stands in
      let m = ((Lexemes.anywhere-meets (rules p) (sound p) c w n).0 h).1 in
      let m = subst (λ (v : List ℕ). Lexemes.Meets (rules p) (sound p) c v (λ r. Unit {0})) (sym (take-length u)) m in
      (lexeme-read p u).1 (c, (Lexemes.anywhere-meets (rules p) (sound p) c u (length u)).1 (omega arith, m))

  -- so many bytes that are more than the limit and read as no lexeme over it are not the longest lexeme
  no-lexeme : (w : List ℕ) (c : Class) (n : ℕ) → Longest (rules p) w c n → limit < n → is_over (reading p (take n w)) n ≡ false → ⊥
  no-lexeme w c n x l e = true≢false (sym (longest-read w c n x) ∙ sym (not-over (reading p (take n w)) n l) ∙ e)

  not-whole : (w : List ℕ) (c : Class) (n : ℕ) → Longest (rules p) w c n → limit < n → is_over (reading p w) (length w) ≡ false → n ≡ length w → ⊥
  not-whole w c n x l e d =
      let y = subst (Longest (rules p) w c) d x in
      no-lexeme w c (length w) y (omega arith) (ap (λ (u : List ℕ). is_over (reading p u) (length w)) (take-length w) ∙ e)

  -- The longest lexeme is within the limit where the text is so, or has one or two bytes more and neither it nor what is one over it is a lexeme.
  pub short-lexeme : (w : List ℕ)
      → ((length w ≤ limit)
      ⊎ ((is_over (reading p w) (length w) ≡ false) × (length w ≤ limit + 1))
      ⊎ ((is_over (reading p w) (length w) ≡ false) × (is_over (reading p (take (limit + 1) w)) (limit + 1) ≡ false) × (length w ≤ limit + 2)))
      → (c : Class) (n : ℕ) → Longest (rules p) w c n → n ≤ limit
  short-lexeme w (inl i) c n x = omega (arith, x.stands.0)
  short-lexeme w (inr (inl (e, i))) c n x =
      let inside = x.stands.0 in
      split (leb n limit) (leb-true n limit) (λ d. let l = leb-false n limit d in absurd (not-whole w c n x l e (omega arith)))
  short-lexeme w (inr (inr (e, f, i))) c n x =
      let inside = x.stands.0 in
      split (leb n limit)
      (leb-true n limit)
      (λ d.
      let l = leb-false n limit d in
      split (eqb n (limit + 1))
      (λ g. let y = subst (Longest (rules p) w c) (eqb-true n (limit + 1) g) x in absurd (no-lexeme w c (limit + 1) y (omega arith) f))
      (λ g. let more = eqb-false n (limit + 1) g in absurd (not-whole w c n x l e (omega arith))))

  -- a text whose lexemes are within the limit, and which with one byte more is a lexeme of a class that looks ahead: then something else is said
  module _ (w : List ℕ) (b : ℕ) (c : Class) (at : ℕ) (z : Longest (rules p) (w ++ b ∷ []) c (length (w ++ b ∷ [])))
      (brief : (k : Class) (n : ℕ) → Longest (rules p) w k n → n ≤ limit) where
    of-class : (a : Answer) (k : Class) (n : ℕ) → Longest (rules p) w k n → a ≡ within n at (answer k at (take n w)) → a ≡ answer k at (take n w)
    of-class a k n y d = d ∙ within-short n at (answer k at (take n w)) (brief k n y)

    other-span : (a : Answer) → (a ≡ end at) ⊎ Lexeme p w at a → span_end a ≡ at + length (w ++ b ∷ []) → ⊥
    other-span a (inl d) e = omega (arith, ap span_end d, length-append w (b ∷ []))
    other-span a (inr (k, n, y, d)) e =
        let u = take n w in
        let same = ap span_end (of-class a k n y d ∙ shift-answer k at u) ∙ span-shift at (answer k 0 u) in
        let there : 0 < length w = omega (arith, some_byte w k n y) in
        differ p w b c z (answer k 0 u) (omega arith) (inr (inr (there, (k, n, y, refl))))

    other-limit : (a : Answer) → (a ≡ end at) ⊎ Lexeme p w at a → a ≡ own "LexemeTooLong" at → ⊥
    other-limit a (inl d) e = let f = sym d ∙ e in let z : ◌≡◌ {A = ℕ} 0 1 = cc in omega arith
    other-limit a (inr (k, n, y, d)) e = no_own k at (take n w) (sym (of-class a k n y d) ∙ e)

    other-says : (v : List ℕ) → v ≡ w ++ b ∷ [] → 0 < look_ahead p c → (a : Answer) → (a ≡ end at) ⊎ Lexeme p w at a
        → a ≡ within (length v) at (answer c at (take (length v) v)) → ⊥
    other-says v same looks a g e =
        let x = subst (λ (v : List ℕ). Longest (rules p) v c (length v)) (sym same) z in
        split (leb (length v) limit)
        (λ f.
        let d = e ∙ within-short (length v) at (answer c at (take (length v) v)) (leb-true (length v) limit f) in
        other-span a g (ap span_end d ∙ (span-near p c at v (length v) x.stands).2 looks ∙ ap (λ (v : List ℕ). at + length v) same))
        (λ f. other-limit a g (e ∙ within-long (length v) at (answer c at (take (length v) v)) (leb-false (length v) limit f)))

  -- Where a byte more is wanted, some byte alters what is said.
  pub unready-open : (s : List ℕ) (at : ℕ) → at ≤ length s → is_ready room (reading p (drop at s)) (length (drop at s)) ≡ false → Open p s at
  unready-open s at l e =
      let w = drop at s in
      let (i, j, k) = unready-told (reading p w) (length w) e in
      let (b, c, looks, h) = grows p w i in
      let z = full p (w ++ b ∷ []) c h in
      let (a, g) = says_some s at l in
      let v = drop at (s ++ b ∷ []) in
      let same = drop-append-le at s (b ∷ []) l in
      let x = subst (λ (v : List ℕ). Longest (rules p) v c (length v)) (sym same) z in
      let here : (a ≡ end at) ⊎ Lexeme p w at a = ⊎_elim (λ d. inl d.1) inr g in
      let other = other-says w b c at z (short-lexeme w (inr (inl (j, k)))) v same looks a here in
      (b ∷ [], a, within (length v) at (answer c at (take (length v) v)), g, inr (c, length v, x, refl), other)

  -- What is settled is not open.
  pub settled-not-open : (s : List ℕ) (at : ℕ) → Settled p s at → Open p s at → ⊥
  settled-not-open s at h (t, a, b, f, g, n) = n (says-unique s at a b f (h t b g))

  -- What Next gives for what is left of a text, told from the text's beginning, is said there, if no lexeme is over the limit.
  pub gives-says : (s : List ℕ) (at : ℕ) (a : Answer) → at ≤ length s
      → ((c : Class) (n : ℕ) → Longest (rules p) (drop at s) c n → n ≤ limit) → Gives (rules p) (drop at s) 0 a → Says p s at (shift at a)
  gives-says s at a l short (inl (h, d)) = absurd (omega arith)
  gives-says s at a l short (inr (inl (h, d))) =
      let i : at + 0 ≡ at = omega arith in
      inl (omega (arith, length-drop at s), ap (shift at) d ∙ ap end i)
  gives-says s at a l short (inr (inr (h, (c, n, x, d)))) =
      let u = take n (drop at s) in
      inr (c, n, x, ap (shift at) d ∙ sym (shift-answer c at u) ∙ sym (within-short n at (answer c at u) (short c n x)))

  -- One byte behind a text that is not settled, at most two are behind the longest lexeme.
  pub two-behind : (w : List ℕ) (b : ℕ) (c : Class) (n : ℕ) → is_settled (reading p w) ≡ false → Longest (rules p) (w ++ b ∷ []) c n
      → length (w ++ b ∷ []) ≤ n + 2
  two-behind [] b c n e x = omega arith
  two-behind (a ∷ w) b c n e x =
      let (d, m, y) = some-lexeme (a ∷ w) (omega arith) in
      let i = one-behind p (a ∷ w) d m e y in
      omega (arith, longer p (a ∷ w) (b ∷ []) d c m n y x, length-append (a ∷ w) (b ∷ []))
