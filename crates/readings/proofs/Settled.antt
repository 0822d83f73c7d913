-- What the reading of a text tells: whether it is a lexeme, and whether its first lexeme is settled. Assumes nothing.
use Prim.Native.Nat.{ℕ, suc, ◌+◌, ◌≤◌, ◌<◌}
use native.Mathlib.Omega.{arith}
use mathlib.Core.Path.{◌≡◌, refl, sym, ◌∙◌, ap, subst}
use mathlib.Core.Bool.{Bool, true, false, ◌&&◌, ◌||◌, true≢false}
use mathlib.Core.List.{List, [], ◌∷◌, ◌++◌}
use mathlib.Core.Logic.{◌↔◌, ◌⊎◌, inl, inr, ⊎_elim}
use lib.Dec.{ltb, eqb}
use lib.ListN.{length, take, drop, length-append, length-drop}
use lib.Seq.{take-length, take-append-le, drop-append-le}
use borrow.Author.Tests.{lt-ltb, eqb-true, eqb-false}
use Rattle.keywords.proofs.Logic.{split, and_left, and_right, every}
use Rattle.words.specs.Bytes.{is_digit, is_hexdigit, is_identifier_start, is_identifier_continue, is_blank}
use Rattle.grammar.specs.declared.profile.Profile.{Profile}
use Rattle.grammar.specs.declared.profile.Profile.TheVariants.{Turso, Sqlite}
use Rattle.grammar.specs.Classes.{Class, rules}
use Rattle.grammar.specs.Answers.{Answer, answer}
use Rattle.grammar.specs.Longest.{Some, Stands, Longest, anywhere, Lexeme, Gives}
use Rattle.ahead.specs.Ahead.{look_ahead, span_end}
use Rattle.readings.specs.declared.reading.Reading.{Reading}
use Rattle.readings.specs.declared.reading.Reading.TheVariants.{Start}
use Rattle.readings.specs.Arrows.{follow, arrows, onward, onwards, reading, is_lexeme, is_settled}
use Rattle.readings.specs.Settled.{Settled, Final}
use Rattle.grammar.proofs.Equivalences.{or-iff}
use Rattle.grammar.proofs.States.{State, rule_at, start, step, after, met, Met, met-rule}
use Rattle.grammar.proofs.Model.{Found, onward as further, scan}
use Rattle.grammar.proofs.High.{plain_set, low, low_small}
use Rattle.grammar.proofs.Reach.{below, below_at}
use Rattle.grammar.proofs.Scan.{meets}
use Rattle.grammar.proofs.Theorems.{sound, one_class, look-ahead, grows as longer}
use Rattle.grammar.proofs.Unique.{longest-unique}
use Rattle.grammar.proofs.Lexemes
use Rattle.ahead.proofs.Enough.{enough}
use Rattle.ahead.proofs.Spans.{span-near}
use Rattle.ahead.proofs.Tells.{after-append, Tells, told-behind, still-here}
use Rattle.readings.proofs.Numbers.{readings, each-reading}
use Rattle.readings.proofs.Beside.{follow-low, Q, plain-state, reading-meets, reading-tells, reading-grows}

-- The computed test of each reading: behind two bytes neither of which leads to a lexeme it is settled; and no arrow names a byte above
-- 7F.
abbrev is_short : Profile → Reading → Bool
is_short p r =
    every (λ a. plain_set a.on) (arrows p r)
    && below 129 (λ b. let on = follow (arrows p r) b in is_lexeme r || is_lexeme on || is_settled on)

computed : (p : Profile) → every (is_short p) readings ≡ true
unfolding is_lexeme is_settled is_digit is_hexdigit is_identifier_start is_identifier_continue is_blank
computed Turso = refl
computed Sqlite = refl

-- a text that is settled, and what is scanned of a longer one
scan-append : (w t : List ℕ) (q : State) → Tells 0 (after q w) → scan q (w ++ t) ≡ scan q w
scan-append [] t q h = still-here 0 q h [] t refl refl
scan-append (b ∷ w) t q h = ap (λ (f : Found). further f (met q)) (scan-append w t (step b q) h)

after_nothing : (w : List ℕ) → after [] w ≡ []
after_nothing [] = refl
after_nothing (b ∷ w) = after_nothing w

pub onwards-append : (p : Profile) (u w : List ℕ) (r : Reading) → onwards p r (u ++ w) ≡ onwards p (onwards p r u) w
onwards-append p [] w r = refl
onwards-append p (b ∷ u) w r = onwards-append p u w (onward p r b)

-- a text is empty or has a last byte
last_byte : (w : List ℕ) → (w ≡ []) ⊎ ((u : List ℕ) × (b : ℕ) × (w ≡ u ++ b ∷ []))
last_byte [] = inl refl
last_byte (b ∷ w) = more (last_byte w)
  where
    more : (w ≡ []) ⊎ ((u : List ℕ) × (c : ℕ) × (w ≡ u ++ c ∷ [])) → (b ∷ w ≡ []) ⊎ ((u : List ℕ) × (c : ℕ) × (b ∷ w ≡ u ++ c ∷ []))
    more (inl e) = inr ([], b, ap (λ (l : List ℕ). b ∷ l) e)
    more (inr (u, c, e)) = inr (b ∷ u, c, ap (λ (l : List ℕ). b ∷ l) e)

module _ (p : Profile) where
  -- a rule is met behind a text where the text has its form
  met-stands : (w : List ℕ) (k : ℕ) → Met k (Q p w) → Stands (anywhere (rules p)) (rule_at (rules p) k).class w (length w)
  met-stands w k m =
      let c = (rule_at (rules p) k).class in
      let m = subst (λ (u : List ℕ). Met k (Q p u)) (sym (take-length w)) m in
      (Lexemes.anywhere-meets (rules p) (sound p) c w (length w)).1 (omega arith, (k, ((met-rule (rules p) (take (length w) w) k).0 m).0, refl, m, tt))

  stands-met : (w : List ℕ) (c : Class) → Stands (anywhere (rules p)) c w (length w) → (k : ℕ) × Met k (Q p w)
  stands-met w c h =
      let (l, (k, i, e, m, o)) = (Lexemes.anywhere-meets (rules p) (sound p) c w (length w)).0 h in
      (k, subst (λ (u : List ℕ). Met k (Q p u)) (take-length w) m)

  -- A text reads as a lexeme exactly where it has the form of a class, whatever follows it.
  pub lexeme-read : (w : List ℕ) → (is_lexeme (reading p w) ≡ true) ↔ ((c : Class) × Stands (anywhere (rules p)) c w (length w))
  lexeme-read w = (λ h. of-met (met (Q p w)) refl (reading-meets p w ∙ h), back)
    where
      of-met : (l : List ℕ) → met (Q p w) ≡ l → ltb 0 (length l) ≡ true → (c : Class) × Stands (anywhere (rules p)) c w (length w)
      of-met [] e h = absurd (true≢false (sym h))
      of-met (k ∷ l) e h = ((rule_at (rules p) k).class, met-stands w k (rw e (inl refl)))

      some-met : (k : ℕ) (l : List ℕ) → Some (λ i. i ≡ k) l → ltb 0 (length l) ≡ true
      some-met k [] h = absurd h
      some-met k (j ∷ l) h = lt-ltb 0 (suc (length l)) (omega arith)

      back : (c : Class) × Stands (anywhere (rules p)) c w (length w) → is_lexeme (reading p w) ≡ true
      back (c, h) = let (k, m) = stands-met w c h in sym (reading-meets p w) ∙ some-met k (met (Q p w)) m

  -- one that has the form of a class is its own longest lexeme
  pub full : (w : List ℕ) (c : Class) → Stands (anywhere (rules p)) c w (length w) → Longest (rules p) w c (length w)
  full w c h =
      (look-ahead p w c (length w)).1
      (record { stands = h; longest = λ d m t. t.0; alone = λ d t. one_class p w (length w) d c t h })

  pub not-shorter : (w t : List ℕ) (c : Class) (n : ℕ) → is_lexeme (reading p w) ≡ true → Longest (rules p) (w ++ t) c n → length w ≤ n
  not-shorter w t c n e z = let (d, h) = (lexeme-read w).0 e in longer p w t d c (length w) n (full w d h) z

  tells-nothing : (w : List ℕ) → is_settled (reading p w) ≡ true → Tells 0 (Q p w)
  tells-nothing w e = told-behind 0 (start (rules p)) w (plain-state p) (reading-tells p w ∙ e)

  -- one that is not settled is the opening of a lexeme that has one byte more, and whose class looks ahead
  pub grows : (w : List ℕ) → is_settled (reading p w) ≡ false
      → (b : ℕ) × (c : Class) × (0 < look_ahead p c) × Stands (anywhere (rules p)) c (w ++ b ∷ []) (length (w ++ b ∷ []))
  grows w e = let (b, k, m, i) = reading-grows p w e in (b, (rule_at (rules p) k).class, i, met-stands (w ++ b ∷ []) k m)

  -- A text reads as settled exactly where nothing longer has the form of a class.
  pub settled-read : (w : List ℕ)
      → (is_settled (reading p w) ≡ true) ↔ ((b : ℕ) (t : List ℕ) (c : Class) → Stands (anywhere (rules p)) c (w ++ b ∷ t) (length (w ++ b ∷ t)) → ⊥)
  settled-read w = (make, back)
    where
      none : is_settled (reading p w) ≡ true → (b : ℕ) (t : List ℕ) → is_lexeme (reading p (w ++ b ∷ t)) ≡ false
      none e b t =
          sym (reading-meets p (w ++ b ∷ t))
          ∙ ap meets (after-append w (b ∷ t) (start (rules p)) ∙ ap (λ (q : State). after q t) (tells-nothing w e b) ∙ after_nothing t)

      make : is_settled (reading p w) ≡ true → (b : ℕ) (t : List ℕ) (c : Class) → Stands (anywhere (rules p)) c (w ++ b ∷ t) (length (w ++ b ∷ t)) → ⊥
      make e b t c h = true≢false (sym ((lexeme-read (w ++ b ∷ t)).1 (c, h)) ∙ none e b t)

      back : ((b : ℕ) (t : List ℕ) (c : Class) → Stands (anywhere (rules p)) c (w ++ b ∷ t) (length (w ++ b ∷ t)) → ⊥) → is_settled (reading p w) ≡ true
      back h =
          split (is_settled (reading p w))
          (λ e. e)
          (λ e. let (b, c, i, f) = grows w e in absurd (h b [] c f))

  -- What follows a settled text makes no difference to its longest lexeme.
  pub settled-longest : (w t : List ℕ) → is_settled (reading p w) ≡ true → (c : Class) (n : ℕ) → Longest (rules p) w c n ↔ Longest (rules p) (w ++ t) c n
  settled-longest w t e c n = (move w (w ++ t) (sym same), move (w ++ t) w same)
    where
      same : scan (start (rules p)) (w ++ t) ≡ scan (start (rules p)) w
      same = scan-append w t (start (rules p)) (tells-nothing w e)

      move : (u v : List ℕ) → scan (start (rules p)) u ≡ scan (start (rules p)) v → Longest (rules p) u c n → Longest (rules p) v c n
      move u v d z =
          let (k, f, class) = Lexemes.longest-scan (rules p) (sound p) u c n z in
          subst (λ (c : Class). Longest (rules p) v c n) class (Lexemes.scan-longest (rules p) (sound p) v n k (sym d ∙ f))

  -- A text reads as settled exactly where nothing that follows makes a difference to its longest lexeme.
  pub settled-exactly : (w : List ℕ) → (is_settled (reading p w) ≡ true) ↔ Settled p w
  settled-exactly w = (λ e t c n. (settled-longest w t e c n).1, back)
    where
      back : Settled p w → is_settled (reading p w) ≡ true
      back h =
          split (is_settled (reading p w))
          (λ e. e)
          (λ e.
          let (b, c, i, f) = grows w e in
          let l = (h (b ∷ []) c (length (w ++ b ∷ [])) (full (w ++ b ∷ []) c f)).stands.0 in
          absurd (omega (arith, length-append w (b ∷ []))))

  settled-some : (w : List ℕ) → is_settled (reading p w) ≡ true → 0 < length w
  unfolding is_settled
  settled-some [] e = absurd (true≢false (sym e))
  settled-some (b ∷ w) e = omega arith

  -- Where what is left of a text reads as settled, every longer text gives the same answer there.
  pub settled-final : (s t : List ℕ) (at : ℕ) (a : Answer) → at ≤ length s → is_settled (reading p (drop at s)) ≡ true
      → Gives (rules p) s at a ↔ Gives (rules p) (s ++ t) at a
  settled-final s t at a l e = (longer-gives, shorter-gives)
    where
      w : List ℕ
      w = drop at s

      more : drop at (s ++ t) ≡ w ++ t
      more = drop-append-le at s t l

      some : at < length s
      some = omega (arith, settled-some w e, length-drop at s)

      taken : (c : Class) (n : ℕ) → Longest (rules p) w c n → answer c at (take n (w ++ t)) ≡ answer c at (take n w)
      taken c n z = ap (answer c at) (take-append-le n w t z.stands.0)

      longer-gives : Gives (rules p) s at a → Gives (rules p) (s ++ t) at a
      longer-gives (inl (h, d)) = absurd (omega arith)
      longer-gives (inr (inl (h, d))) = absurd (omega (arith, some))
      longer-gives (inr (inr (h, (c, n, z, d)))) =
          let y = (settled-longest w t e c n).0 z in
          let lexeme : Lexeme (rules p) (w ++ t) at a = (c, n, y, d ∙ sym (taken c n z)) in
          inr (inr (omega (arith, length-append s t), subst (λ (u : List ℕ). Lexeme (rules p) u at a) (sym more) lexeme))

      shorter : Lexeme (rules p) (w ++ t) at a → Lexeme (rules p) w at a
      shorter (c, n, y, d) = let z = (settled-longest w t e c n).1 y in (c, n, z, d ∙ taken c n z)

      shorter-gives : Gives (rules p) (s ++ t) at a → Gives (rules p) s at a
      shorter-gives (inl (h, d)) = absurd (omega (arith, length-append s t))
      shorter-gives (inr (inl (h, d))) = absurd (omega (arith, some, length-append s t))
      shorter-gives (inr (inr (h, d))) = inr (inr (some, shorter (subst (λ (u : List ℕ). Lexeme (rules p) u at a) more d)))

  -- where a text and one byte more are a lexeme, an answer whose span ends with it is none of the text's
  pub differ : (w : List ℕ) (b : ℕ) (c : Class) → Longest (rules p) (w ++ b ∷ []) c (length (w ++ b ∷ [])) → (a : Answer)
      → span_end a ≡ length (w ++ b ∷ []) → Gives (rules p) w 0 a → ⊥
  differ w b c z a e (inl (h, d)) = omega arith
  differ w b c z a e (inr (inl (h, d))) = omega (arith, ap span_end d, length-append w (b ∷ []))
  differ w b c z a e (inr (inr (h, (k, n, y, d)))) =
      let more = length-append w (b ∷ []) in
      let inside = y.stands.0 in
      split (eqb (look_ahead p k) 0)
      (λ f.
      let zero_is = eqb-true (look_ahead p k) 0 f in
      let same = enough p w (w ++ b ∷ []) k n y (sym (take-append-le (n + look_ahead p k) w (b ∷ []) (omega arith))) in
      omega (arith, (longest-unique same z).1))
      (λ f.
      let some = eqb-false (look_ahead p k) 0 f in
      omega (arith, ap span_end d, (span-near p k 0 w n y.stands).2 (omega arith)))

  -- A text reads as settled exactly where nothing that follows makes a difference to Next's answer.
  pub answer-exactly : (w : List ℕ) → (is_settled (reading p w) ≡ true) ↔ Final p w
  answer-exactly w = (λ e t a. (settled-final w t 0 a (omega arith) e).1, back)
    where
      back : Final p w → is_settled (reading p w) ≡ true
      back h =
          split (is_settled (reading p w))
          (λ e. e)
          (λ e.
          let (b, c, i, f) = grows w e in
          let v = w ++ b ∷ [] in
          let z = full v c f in
          let a = answer c 0 (take (length v) v) in
          let there : 0 < length v = omega (arith, length-append w (b ∷ [])) in
          let ends = (span-near p c 0 v (length v) z.stands).2 i in
          absurd (differ w b c z a (omega (arith, ends)) (h (b ∷ []) a (inr (inr (there, (c, length v, z, refl)))))))

  short : (u : List ℕ) (b : ℕ) → (is_lexeme (reading p u) ≡ true) ⊎ (is_lexeme (reading p (u ++ b ∷ [])) ≡ true) ⊎ (is_settled (reading p (u ++ b ∷ [])) ≡ true)
  unfolding onward
  short u b =
      let r = reading p u in
      let plains = every (λ a. plain_set a.on) (arrows p r) in
      let t = each-reading (is_short p) (computed p) r in
      let test : Reading → Bool = λ on. is_lexeme r || is_lexeme on || is_settled on in
      let f = below_at (λ b. test (follow (arrows p r) b)) 129 (and_right plains _ t) (low b) (low_small b) in
      let on = follow-low b (arrows p r) (and_left plains _ t) ∙ sym (onwards-append p u (b ∷ []) Start) in
      let g = subst (λ (on : Reading). test on ≡ true) on f in
      ⊎_elim
      (λ h. ⊎_elim inl (λ i. inr (inl i)) ((or-iff (is_lexeme r) _).0 h))
      (λ h. inr (inr h))
      ((or-iff (is_lexeme r || is_lexeme (reading p (u ++ b ∷ []))) _).0 g)

  -- Behind the longest lexeme of a text that is not settled there is at most one byte.
  pub one-behind : (w : List ℕ) (c : Class) (n : ℕ) → is_settled (reading p w) ≡ false → Longest (rules p) w c n → length w ≤ n + 1
  one-behind w c n e z = go (last_byte w)
    where
      behind : (u : List ℕ) (b : ℕ) → w ≡ u ++ b ∷ []
          → (is_lexeme (reading p u) ≡ true) ⊎ (is_lexeme (reading p (u ++ b ∷ [])) ≡ true) ⊎ (is_settled (reading p (u ++ b ∷ [])) ≡ true) → length w ≤ n + 1
      behind u b d (inl h) =
          omega (arith, not-shorter u (b ∷ []) c n h (subst (λ (w : List ℕ). Longest (rules p) w c n) d z), ap length d ∙ length-append u (b ∷ []))
      behind u b d (inr (inl h)) =
          let (k, y) = (lexeme-read w).0 (subst (λ (w : List ℕ). is_lexeme (reading p w) ≡ true) (sym d) h) in
          omega (arith, (longest-unique (full w k y) z).1)
      behind u b d (inr (inr h)) = absurd (true≢false (sym h ∙ ap (λ (w : List ℕ). is_settled (reading p w)) (sym d) ∙ e))

      go : (w ≡ []) ⊎ ((u : List ℕ) × (b : ℕ) × (w ≡ u ++ b ∷ [])) → length w ≤ n + 1
      go (inl d) = omega (arith, ap length d)
      go (inr (u, b, d)) = behind u b d (short u b)
