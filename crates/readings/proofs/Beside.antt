-- The readings beside the states of the rules: walked together over every text, by one computed test for each profile. Assumes nothing.
use Prim.Native.Nat.{ℕ, zero, suc, ◌<◌}
use mathlib.Core.Path.{◌≡◌, refl, sym, ◌∙◌, ap, subst}
use mathlib.Core.Bool.{Bool, true, false, ◌&&◌, ◌||◌, beq, true≢false}
use mathlib.Core.List.{List, [], ◌∷◌, ◌++◌}
use mathlib.Core.Logic.{inl, ⊎_elim}
use lib.Dec.{eqb, ltb}
use lib.ListN.{length}
use borrow.Author.Tests.{ltb-true}
use Rattle.keywords.proofs.Logic.{and_left, and_right, every}
use Rattle.words.specs.Bytes.{is_digit, is_hexdigit, is_identifier_start, is_identifier_continue, is_blank}
use Rattle.grammar.specs.declared.profile.Profile.{Profile}
use Rattle.grammar.specs.declared.profile.Profile.TheVariants.{Turso, Sqlite}
use Rattle.grammar.specs.Classes.{operators, rules}
use Rattle.ahead.specs.Ahead.{look_ahead}
use Rattle.readings.specs.declared.reading.Reading.{Reading}
use Rattle.readings.specs.declared.reading.Reading.TheVariants.{Start}
use Rattle.readings.specs.Arrows.{Arrow, follow, arrows, onward, onwards, reading, is_lexeme, is_settled}
use Rattle.grammar.proofs.Equivalences.{beq-eq, or-iff}
use Rattle.grammar.proofs.States.{State, start, step, after, met, Met}
use Rattle.grammar.proofs.High.{plain_set, plain, low, low-set, low_step}
use Rattle.grammar.proofs.Alike.{alike, alike-eq, key}
use Rattle.grammar.proofs.Follow.{goes, finds, found-always}
use Rattle.grammar.proofs.Scan.{meets}
use Rattle.ahead.proofs.Tells.{after-append, tells}
use Rattle.ahead.proofs.Enough.{look}
use Rattle.readings.proofs.Numbers.{number, same_number}

-- what is left of the rules, and the reading
pub record Both : Type 0 where
  pub state : State
  pub read : Reading

abbrev go : Profile → ℕ → Both → Both
go p b x = record { state = step b x.state; read = follow (arrows p x.read) b }

abbrev mark : Both → ℕ
mark x = key x.state

abbrev same : Both → Both → Bool
same x y = alike x.state y.state && eqb (number x.read) (number y.read)

same-eq : (x y : Both) → same x y ≡ true → x ≡ y
same-eq x y e =
    let a = alike x.state y.state in
    let s = alike-eq x.state y.state (and_left a (eqb (number x.read) (number y.read)) e) in
    let r = same_number x.read y.read (and_right a (eqb (number x.read) (number y.read)) e) in
    ap (λ (q : State). record { state = q; read = x.read }) s ∙ ap (λ (r : Reading). record { state = y.state; read = r }) r

-- neither names a byte above 7F
abbrev is_plain : Profile → Both → Bool
is_plain p x = every plain x.state && every (λ a. plain_set a.on) (arrows p x.read)

-- some of the n lowest bytes passes the test
abbrev somewhere : ℕ → (ℕ → Bool) → Bool
somewhere zero test = false
somewhere (suc n) test = test n || somewhere n test

some_byte : (n : ℕ) (test : ℕ → Bool) → somewhere n test ≡ true → (b : ℕ) × (test b ≡ true)
some_byte zero test e = absurd (true≢false (sym e))
some_byte (suc n) test e = ⊎_elim (λ h. (n, h)) (some_byte n test) ((or-iff (test n) (somewhere n test)).0 e)

-- a rule is met, and its class looks ahead
abbrev looks_on : Profile → State → Bool
looks_on p q = meets q && every (λ k. ltb 0 (look p k)) (met q)

-- The reading is a lexeme's where a rule is met; it is settled where every byte leads to nothing; where it is not, some byte leads on to
-- a lexeme of a class that looks ahead.
abbrev is_met : Both → Bool
is_met x = beq (meets x.state) (is_lexeme x.read)

abbrev is_done : Both → Bool
is_done x = beq (tells 0 x.state) (is_settled x.read)

abbrev is_open : Profile → Both → Bool
is_open p x = is_settled x.read || somewhere 129 (λ b. looks_on p (step b x.state))

abbrev agrees : Profile → Both → Bool
agrees p x = is_met x && is_done x && is_open p x

abbrev begun : Profile → Both
begun p = record { state = start (rules p); read = Start }

-- The computed test, of each profile.
computed : (p : Profile) → finds (go p) mark same 100 (λ x. is_plain p x && agrees p x) (begun p) ≡ true
unfolding look_ahead is_lexeme is_settled rules operators is_digit is_hexdigit is_identifier_start is_identifier_continue is_blank
computed Turso = refl
computed Sqlite = refl

pub follow-low : (b : ℕ) (l : List Arrow) → every (λ a. plain_set a.on) l ≡ true → follow l (low b) ≡ follow l b
follow-low b [] e = refl
follow-low b (a ∷ l) e =
    rw (low-set b a.on (and_left (plain_set a.on) _ e), follow-low b l (and_right (plain_set a.on) _ e))

module _ (p : Profile) where
  abbrev test : Both → Bool
  test x = is_plain p x && agrees p x

  low-go : (b : ℕ) (x : Both) → test x ≡ true → go p (low b) x ≡ go p b x
  low-go b x e =
      let s = every plain x.state in
      let a = every (λ a. plain_set a.on) (arrows p x.read) in
      let h = and_left (s && a) (agrees p x) e in
      ap (λ (q : State). record { state = q; read = follow (arrows p x.read) (low b) }) (low_step b x.state (and_left s a h))
      ∙ ap (λ (r : Reading). record { state = step b x.state; read = r }) (follow-low b (arrows p x.read) (and_right s a h))

  -- behind a text both are where it leads each of them
  together : (w : List ℕ) (q : State) (r : Reading)
      → goes (go p) (record { state = q; read = r }) w ≡ record { state = after q w; read = onwards p r w }
  unfolding onward
  together [] q r = refl
  together (b ∷ w) q r = together w (step b q) (follow (arrows p r) b)

  abbrev pub Q : List ℕ → State
  Q w = after (start (rules p)) w

  abbrev both : List ℕ → Both
  both w = record { state = Q w; read = reading p w }

  passed : (w : List ℕ) → test (both w) ≡ true
  passed w =
      subst (λ (x : Both). test x ≡ true) (together w (start (rules p)) Start)
      (found-always (go p) mark same same-eq test low-go 100 (begun p) (computed p) w)

  agreed : (w : List ℕ) → agrees p (both w) ≡ true
  agreed w = and_right (is_plain p (both w)) (agrees p (both w)) (passed w)

  pub plain-state : (w : List ℕ) → every plain (Q w) ≡ true
  plain-state w = and_left (every plain (Q w)) _ (and_left (is_plain p (both w)) (agrees p (both w)) (passed w))

  -- behind every text a rule is met exactly where the reading is a lexeme's
  pub reading-meets : (w : List ℕ) → meets (Q w) ≡ is_lexeme (reading p w)
  reading-meets w =
      beq-eq (meets (Q w)) (is_lexeme (reading p w))
      (and_left (is_met (both w)) (is_done (both w)) (and_left (is_met (both w) && is_done (both w)) (is_open p (both w)) (agreed w)))

  -- every byte leads to nothing exactly where it is settled
  pub reading-tells : (w : List ℕ) → tells 0 (Q w) ≡ is_settled (reading p w)
  reading-tells w =
      beq-eq (tells 0 (Q w)) (is_settled (reading p w))
      (and_right (is_met (both w)) (is_done (both w)) (and_left (is_met (both w) && is_done (both w)) (is_open p (both w)) (agreed w)))

  -- where it is not, some byte leads on to a rule met, whose class looks ahead
  pub reading-grows : (w : List ℕ) → is_settled (reading p w) ≡ false
      → (b : ℕ) × (k : ℕ) × Met k (Q (w ++ b ∷ [])) × (0 < look p k)
  reading-grows w e =
      let opens = and_right (is_met (both w) && is_done (both w)) (is_open p (both w)) (agreed w) in
      let t = ⊎_elim (λ f. absurd (true≢false (sym f ∙ e))) (λ f. f) ((or-iff (is_settled (reading p w)) _).0 opens) in
      let (b, f) = some_byte 129 (λ b. looks_on p (step b (Q w))) t in
      let g = subst (λ (q : State). looks_on p q ≡ true) (sym (after-append w (b ∷ []) (start (rules p)))) f in
      let q = Q (w ++ b ∷ []) in
      let (k, m, i) = first q (met q) refl (and_left (meets q) _ g) (and_right (meets q) _ g) in
      (b, k, m, i)
    where
      first : (q : State) (l : List ℕ) → met q ≡ l → ltb 0 (length l) ≡ true → every (λ k. ltb 0 (look p k)) l ≡ true → (k : ℕ) × Met k q × (0 < look p k)
      first q [] d h t = absurd (true≢false (sym h))
      first q (k ∷ l) d h t = (k, rw d (inl refl), ltb-true 0 (look p k) (and_left (ltb 0 (look p k)) _ t))
