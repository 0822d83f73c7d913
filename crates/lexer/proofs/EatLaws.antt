-- The eaters' laws, over plain texts and places. Assumes nothing.
use Prim.Native.Nat.{ℕ, ◌+◌, ◌≤◌, ◌<◌}
use native.Mathlib.Nat.{add-zero}
use native.Mathlib.Numerals.{add-one}
use native.Mathlib.Omega.{arith}
use mathlib.Core.Path.{◌≡◌, refl, sym, ◌∙◌, ap}
use mathlib.Core.Bool.{Bool, true, false, ◌&&◌, true≢false}
use mathlib.Core.List.{List, [], ◌∷◌}
use lib.ListN.{length, get_or, drop, drop_of_length-le}
use lib.Seq.{drop-cons, drop-drop}
use Rattle.std.specs.Prelude.{Option, Some, None, Ok, Err, MatchOption}
use Rattle.keywords.proofs.Logic.{split, and_left, and-false}
use Rattle.grammar.specs.Form.{Set, byte, no, ◌or◌, holds}
use Rattle.grammar.specs.Answers.{is_hex}
use Rattle.grammar.specs.Runs.{char, sees_pair, sees, run_length, moved, optional, over}
use Rattle.grammar.proofs.Seen.{moved-one, optional-one, over-on, moved_up, seen-in, pair-seen}
use Rattle.lexer.specs.Eaten.{cursor, head, past, Past}

-- what is peeked
pub head-some : (s : List ℕ) (at : ℕ) → at < length s → Some (get_or s at 0) ≡ head (drop at s)
unfolding head
head-some s at h = rw (drop-cons s at 0 h)

pub head-none : (s : List ℕ) (at : ℕ) → length s ≤ at → None ≡ head (drop at s)
unfolding head
head-none s at h = rw (drop_of_length-le s h)

pub head-sees : (t : Set) (b : ℕ) (l : List ℕ) → Some b ≡ head l → holds t b ≡ sees t l
unfolding sees head
head-sees t b [] e = absurd (let z : ◌≡◌ {A = Bool} true false = cc in true≢false z)
head-sees t b (x ∷ l) e = let d : b ≡ x = cc in ap (holds t) d

pub none-sees : (t : Set) (l : List ℕ) → None ≡ head l → false ≡ sees t l
unfolding sees head
none-sees t [] e = refl
none-sees t (x ∷ l) e = absurd (let z : ◌≡◌ {A = Bool} true false = cc in true≢false z)

-- a test of what is peeked
pub head-tested : (t : Set) (l : List ℕ) (o : Option ℕ) (r : Bool) (P : ℕ → Type 0) → o ≡ head l → MatchOption o (r ≡ false) P
    → ((b : ℕ) → P b → r ≡ holds t b) → r ≡ sees t l
head-tested t l None r P e m f = m ∙ none-sees t l e
head-tested t l (Some b) r P e m f = f b m ∙ head-sees t b l e

-- a byte is eaten, or none is there
pub moved_on : (s : List ℕ) (at : ℕ) → at < length s → at + 1 ≡ moved at s
unfolding moved
moved_on s at h = rw (drop-cons s at 0 h)

pub moved-not : (s : List ℕ) (at : ℕ) → length s ≤ at → at ≡ moved at s
unfolding moved
moved-not s at h = rw (drop_of_length-le s h, add-zero)

-- a loop over a run: from i it ends where it ends from the start
module _ (t : Set) (s : List ℕ) (i : ℕ) where
  pub over-more : i < length s → holds t (get_or s i 0) ≡ true → over t i s ≡ over t (i + 1) s
  unfolding over run_length
  over-more h e = rw (drop-cons s i 0 h, e, add-one i) (omega arith)

  pub over-stop : i < length s → holds t (get_or s i 0) ≡ false → over t i s ≡ i
  unfolding over run_length
  over-stop h e = rw (drop-cons s i 0 h, e, add-zero)

  pub over-end : length s ≤ i → over t i s ≡ i
  unfolding over run_length
  over-end h = rw (drop_of_length-le s h, add-zero)

-- `::`
pub pair-first : (l : List ℕ) → false ≡ sees (char ":") l → false ≡ sees_pair l
unfolding sees_pair
pair-first l e = rw (← e)

pub pair-second : (s : List ℕ) (at d : ℕ) (b : Bool) → true ≡ sees (char ":") (drop at s) → d ≡ moved at s → b ≡ sees (char ":") (drop d s)
    → b ≡ sees_pair (drop at s)
unfolding sees_pair
pair-second s at d b e f g = rw (← e) (g ∙ rw (f, moved-one (char ":") s at (sym e), ← drop-drop 1 at s))

pub pair-on : (s : List ℕ) (at : ℕ) → sees_pair (drop at s) ≡ true → {d e : ℕ} → d ≡ moved at s → e ≡ moved d s → (at < e) × (at < length s)
pair-on s at h {d} {e} f g =
    let x = (pair-seen s at h).0 in
    let n = moved-one (char ":") s at x in
    let m = moved_up s d e g in
    (omega arith, seen-in (char ":") s at x)

-- `0x`
hex-sees : (l : List ℕ) → is_hex l ≡ sees (char "0") l && sees (char "x" or char "X") (drop 1 l)
unfolding sees
hex-sees [] = refl
hex-sees (a ∷ []) = sym (and-false (holds (char "0") a))
hex-sees (a ∷ b ∷ l) = refl

pub hex-zero : (l : List ℕ) → is_hex l ≡ true → sees (char "0") l ≡ true
hex-zero l e = and_left (sees (char "0") l) _ (sym (hex-sees l) ∙ e)

pub hex-no-zero : (l : List ℕ) → false ≡ sees (char "0") l → false ≡ is_hex l
hex-no-zero l e = rw (hex-sees l, ← e)

-- behind a 0 the `x` decides
pub hex-then : (s : List ℕ) (at d : ℕ) → sees (char "0") (drop at s) ≡ true → d ≡ moved at s → {b : Bool} → is_hex (drop at s) ≡ b
    → sees (char "x" or char "X") (drop d s) ≡ b
hex-then s at d z f e = rw (f, moved-one (char "0") s at z, ← drop-drop 1 at s) (sym (hex-sees (drop at s) ∙ rw z) ∙ e)

-- an optional byte
pub optional-taken : (t : Set) (s : List ℕ) (at d : ℕ) → sees t (drop at s) ≡ true → d ≡ moved at s → d ≡ optional t at s
optional-taken t s at d e f = f ∙ moved-one t s at e ∙ sym (optional-one t s at e)

abbrev place : Past → ℕ
place (Ok c) = c.at
place (Err c) = c.at

-- the next byte of a kind, and behind it
module _ (b : ℕ) (s : List ℕ) (at stop : ℕ) (e : stop ≡ over (no (byte b)) at s) where
  pub past-found : (d : ℕ) → sees (byte b) (drop stop s) ≡ true → d ≡ moved stop s → Ok (cursor d) ≡ past b at s
  unfolding past
  past-found d h f = let g : d ≡ stop + 1 = f ∙ moved-one (byte b) s stop h in rw (← e, h, g)

  pub past-missed : sees (byte b) (drop stop s) ≡ false → Err (cursor stop) ≡ past b at s
  unfolding past
  past-missed h = rw (← e, h)

-- a byte that was found, or missed
pub record Reached (b : ℕ) (s : List ℕ) (at d : ℕ) : Type 0 where
  pub stop : ℕ
  pub run : stop ≡ over (no (byte b)) at s
  pub seen : sees (byte b) (drop stop s) ≡ true
  pub next : d ≡ moved stop s

pub found-past : (b : ℕ) (s : List ℕ) (at d : ℕ) → Ok (cursor d) ≡ past b at s → Reached b s at d
unfolding past
found-past b s at d =
    let stop = over (no (byte b)) at s in
    split (sees (byte b) (drop stop s))
    (λ e. let h = e in rw e (λ f. record { stop = stop; run = refl; seen = h; next = ap place f ∙ sym (moved-one (byte b) s stop h) }))
    (λ e. rw e (λ f. absurd (let z : ◌≡◌ {A = Bool} true false = cc in true≢false z)))

pub missed-past : (b : ℕ) (s : List ℕ) (at d : ℕ) → Err (cursor d) ≡ past b at s → (d ≡ over (no (byte b)) at s) × (sees (byte b) (drop d s) ≡ false)
unfolding past
missed-past b s at d =
    let stop = over (no (byte b)) at s in
    split (sees (byte b) (drop stop s))
    (λ e. rw e (λ f. absurd (let z : ◌≡◌ {A = Bool} true false = cc in true≢false z)))
    (λ e. let h = e in rw e (λ f. let g : d ≡ stop = ap place f in (g, rw g h)))

pub reached-on : (b : ℕ) (s : List ℕ) (at d : ℕ) → Reached b s at d → (at < d) × (d ≤ length s)
reached-on b s at d r =
    let h = over-on _ _ _ _ r.run in
    let n : d ≡ r.stop + 1 = r.next ∙ moved-one _ _ _ r.seen in
    let i = seen-in (byte b) s r.stop r.seen in
    (omega arith, omega arith)
