-- Reading a text by hand: what is found from its start on is what is found from here on in a state. Assumes nothing.
use Prim.Native.Nat.{ℕ, zero, suc, ◌+◌, ◌-◌, ◌≤◌, ◌<◌}
use Prim.Native.String.{String}
use native.Mathlib.Omega.{arith}
use native.Mathlib.Nat.{add-zero}
use borrow.Author.Tests.{ltb-true, ltb-false, le-ltb, ne_eqb, eqb-true}
use mathlib.Core.Path.{◌≡◌, refl, sym, ◌∙◌, ap, subst}
use mathlib.Core.Bool.{Bool, true, false, ◌&&◌, true≢false}
use mathlib.Core.List.{List, [], ◌∷◌, ◌++◌, map, append_assoc}
use lib.Dec.{ltb}
use lib.ListN.{length, take, drop, get_or, drop_of_length-le, length-append, length-drop}
use lib.Seq.{drop-drop, take-append_seam, length-take-le}
use Rattle.keywords.specs.Text.{bytes}
use Rattle.keywords.proofs.Logic.{split, and_left, and_right}
use Rattle.grammar.specs.Form.{Set, D, byte, no, ◌or◌, one_of}
use Rattle.grammar.specs.declared.profile.Profile.{Profile}
use Rattle.grammar.specs.declared.profile.Profile.TheVariants.{Turso, Sqlite}
use Rattle.words.specs.Bytes.{is_digit, is_hexdigit, is_identifier_start, is_identifier_continue, is_blank}
use Rattle.grammar.specs.Classes.{Class, blank_run, Rule, operators, rules}
use Rattle.grammar.specs.Answers.{Answer, answer}
use Rattle.grammar.specs.Longest.{Gives}
use Rattle.grammar.specs.Runs.{char, sees, run_length, sees_pair, part, moved, over}
use Rattle.grammar.proofs.States.{State, rule_at, start, after, met}
use Rattle.grammar.proofs.Model.{Found, nothing, found, here, onward, scan, given, next, Right, scan-right}
use Rattle.grammar.proofs.Lexemes.{next-gives}
use Rattle.grammar.proofs.Unique.{gives-unique}
use Rattle.grammar.proofs.Theorems.{sound}
use Rattle.grammar.proofs.Seen.{moved-one, seen-in, seen-cons, seen-holds, pair-seen, sees-no}
use Rattle.grammar.proofs.Scan.{ends, goes, meets, is_found, scan-found, ends-step, ends-run, joins, scan-join, scan-stop, alternate}
use Rattle.grammar.proofs.Scan.{ends-alternate, scan-joined, paired, scan-pair, twice, scan-no-pair, unpaired, along, ends-along}

-- what is left of the rules behind a text; and of the profile Turso's, for what is alike under both
unfoldable pub behind_under : Profile → String → State
behind_under π t = after (start (rules π)) (bytes t)

unfoldable pub behind : String → State
behind t = after (start (rules Turso)) (bytes t)

-- the lexeme of s from `from` on is what is found from `at` on in the state q
pub record ReadsUnder (π : Profile) (s : List ℕ) (from at : ℕ) (q : State) : Type 0 where
  pub ordered : from ≤ at
  pub same : ends from (scan (start (rules π)) (drop from s)) ≡ ends at (scan q (drop at s))

abbrev pub Reads : List ℕ → ℕ → ℕ → State → Type 0
Reads = ReadsUnder Turso

-- nothing is read yet
pub begin_under : (π : Profile) (s : List ℕ) (at : ℕ) → ReadsUnder π s at at (behind_under π "")
unfolding behind_under
begin_under π s at = record { ordered = omega arith; same = refl }

pub begin : (s : List ℕ) (at : ℕ) → Reads s at at (behind "")
unfolding behind
begin s at = record { ordered = omega arith; same = refl }

-- the lexeme of s from `from` on ends at `at`, and the k-th rule is met there
pub record EndsUnder (π : Profile) (s : List ℕ) (from at k : ℕ) : Type 0 where
  pub ordered : from ≤ at
  pub same : ends from (scan (start (rules π)) (drop from s)) ≡ found at k

abbrev pub Ends : List ℕ → ℕ → ℕ → ℕ → Type 0
Ends = EndsUnder Turso

module _ {π : Profile} {s : List ℕ} {from at : ℕ} {q : State} (p : ReadsUnder π s from at q) where
  reads-step : (t : Set) (r : State) → goes q t r && meets r ≡ true → sees t (drop at s) ≡ true → ReadsUnder π s from (at + 1) r
  reads-step t r g e =
      let d = p.ordered in
      record {
        ordered = omega arith;
        same = p.same ∙ ap (λ (l : List ℕ). ends at (scan q l)) (seen-cons t s at e)
            ∙ ends-step q t r (and_left (goes q t r) (meets r) g) (and_right (goes q t r) (meets r) g) at (get_or s at 0) (drop (at + 1) s) (seen-holds t s at e);
      }

  -- a byte is eaten
  pub reads-eat : (t : Set) (r : State) → goes q t r && meets r ≡ true → sees t (drop at s) ≡ true → {d : ℕ} → d ≡ moved at s → ReadsUnder π s from d r
  reads-eat t r g e f = subst (λ (n : ℕ). ReadsUnder π s from n r) (sym (f ∙ moved-one t s at e)) (reads-step t r g e)

  reads_over : (t : Set) → goes q t q && meets q ≡ true → ReadsUnder π s from (over t at s) q
  unfolding over
  reads_over t g =
      let d = p.ordered in
      record {
        ordered = omega arith;
        same = p.same ∙ ends-run q t (and_left (goes q t q) (meets q) g) (and_right (goes q t q) (meets q) g) (drop at s) at
            ∙ ap (λ (l : List ℕ). ends (at + run_length t (drop at s)) (scan q l)) (drop-drop (run_length t (drop at s)) at s);
      }

  -- a run is eaten
  pub reads-while : (t : Set) → goes q t q && meets q ≡ true → {d : ℕ} → d ≡ over t at s → ReadsUnder π s from d q
  reads-while t g f = subst (λ (n : ℕ). ReadsUnder π s from n q) (sym f) (reads_over t g)

  pub reads-join : (r : State) (t : Set) → joins q r t ≡ true → met q ≡ met r → sees (no t) (drop at s) ≡ false → ReadsUnder π s from at r
  reads-join r t g m e = record { ordered = p.ordered; same = p.same ∙ ap (ends at) (scan-join q r t g m (drop at s) e) }

  pub reads-alternate : (r : State) (t : Set) → goes q t r && meets r ≡ true → goes r t q && meets q ≡ true → {d : ℕ} → d ≡ over t at s
      → ReadsUnder π s from d (alternate (d - at) q r)
  unfolding over
  reads-alternate r t g h {d} f =
      let o = p.ordered in
      let n : d - at ≡ run_length t (drop at s) = omega arith in
      rw n
      (record {
        ordered = omega arith;
        same = p.same ∙ ends-alternate t (drop at s) q r g h at ∙ rw (drop-drop, ← f);
      })

  pub reads-joined : (r : State) (t : Set) (u : State) → goes q t u && goes r t u && meets u ≡ true → sees t (drop at s) ≡ true → ReadsUnder π s from at r
  reads-joined r t u g e =
      let a = goes q t u in
      let b = goes r t u in
      let h = and_left (a && b) (meets u) g in
      record {
        ordered = p.ordered;
        same = p.same ∙ ap (ends at) (scan-joined q r t u (and_left a b h) (and_right a b h) (and_right (a && b) (meets u) g) (drop at s) e);
      }

  -- a pair is eaten
  pub reads-pair : (m r : State) → paired q m r ≡ true → sees_pair (drop at s) ≡ true → {d e : ℕ} → d ≡ moved at s → e ≡ moved d s → ReadsUnder π s from e r
  reads-pair m r g h {d} {e} f i =
      let (x, y) = pair-seen s at h in
      let n : d ≡ at + 1 = f ∙ moved-one (char ":") s at x in
      let z : sees (char ":") (drop d s) ≡ true = rw n y in
      let k : e ≡ at + 2 = i ∙ moved-one (char ":") s d z ∙ omega arith in
      let o = p.ordered in
      let w : d + 1 ≡ e = omega arith in
      let both : drop at s ≡ get_or s at 0 ∷ get_or s d 0 ∷ drop (d + 1) s = seen-cons (char ":") s at x ∙ rw (← n, seen-cons (char ":") s d z) in
      record {
        ordered = omega arith;
        same = p.same
            ∙ ap (λ (l : List ℕ). ends at (scan q l)) both
            ∙ ap (ends at) (scan-pair q m r g (get_or s at 0) (get_or s d 0) (drop (d + 1) s) (seen-holds (char ":") s at x) (seen-holds (char ":") s d z))
            ∙ twice (scan r (drop (d + 1) s)) (met m) (met q) at (scan-found r (drop (d + 1) s) (and_right (goes q (char ":") m && goes m (char ":") r) (meets r) g))
            ∙ rw (w, k);
      }

  pub reads-joined-pair : (m r u : State) → paired q m u ≡ true → paired r m u ≡ true → sees_pair (drop at s) ≡ true → ReadsUnder π s from at r
  reads-joined-pair m r u g i h =
      let (x, z) = pair-seen s at h in
      let b = get_or s at 0 in
      let c = get_or s (at + 1) 0 in
      let l = drop (at + 1 + 1) s in
      let e : drop at s ≡ b ∷ c ∷ l = seen-cons (char ":") s at x ∙ rw (seen-cons (char ":") s (at + 1) z) in
      let v = seen-holds (char ":") s at x in
      let w = seen-holds (char ":") s (at + 1) z in
      record {
        ordered = p.ordered;
        same = p.same ∙ ap (ends at)
            (ap (scan q) e ∙ scan-pair q m u g b c l v w ∙ double (scan u l) (scan-found u l (and_right (goes q (char ":") m && goes m (char ":") u) (meets u) g))
            ∙ sym (scan-pair r m u i b c l v w) ∙ sym (ap (scan r) e));
      }
    where
      double : (f : Found) → is_found f ≡ true → onward (onward f (met m)) (met q) ≡ onward (onward f (met m)) (met r)
      double nothing e = absurd (true≢false (sym e))
      double (found n k) e = refl

  reads-found : (k : ℕ) → scan q (drop at s) ≡ found 0 k → EndsUnder π s from at k
  reads-found k e = record { ordered = p.ordered; same = p.same ∙ ap (ends at) e ∙ ap (λ (n : ℕ). found n k) (omega arith) }

  pub reads-stop : (t : Set) (k : ℕ) → goes q (no t) [] ≡ true → met q ≡ k ∷ [] → sees t (drop at s) ≡ false → EndsUnder π s from at k
  reads-stop t k g m e = reads-found k (scan-stop q t k g m (drop at s) e)

  pub reads-no-pair : (m : State) (t : Set) (k : ℕ) → unpaired q m t ≡ true
      → met m ≡ [] → met q ≡ k ∷ []
      → sees t (drop at s) ≡ false → sees_pair (drop at s) ≡ false → EndsUnder π s from at k
  reads-no-pair m t k g n e f h = reads-found k (scan-no-pair q m t k g n e (drop at s) f h)

  -- nothing follows
  pub reads_end : (k : ℕ) → met q ≡ k ∷ [] → drop at s ≡ [] → EndsUnder π s from at k
  reads_end k m e = reads-found k (ap (scan q) e ∙ ap here m)

-- What ends there is the lexeme, and its class gives the answer.
empty-text : (π : Profile) → scan (start (rules π)) [] ≡ nothing
unfolding rules operators
empty-text Turso = refl
empty-text Sqlite = refl

ends_found : (from at k : ℕ) (f : Found) → ends from f ≡ found at k → f ≡ found (at - from) k
ends_found from at k nothing e = absurd (let z : ◌≡◌ {A = Bool} true false = cc in true≢false z)
ends_found from at k (found n j) e =
    let h : from + n ≡ at = cc in
    let i : j ≡ k = cc in
    rw i (ap (λ (m : ℕ). found m k) (omega arith))

module _ {π : Profile} {s : List ℕ} {from at k : ℕ} (e : EndsUnder π s from at k) where
  lexeme : scan (start (rules π)) (drop from s) ≡ found (at - from) k
  lexeme = ends_found from at k (scan (start (rules π)) (drop from s)) e.same

  ends-from : from < length s
  ends-from =
      split (ltb from (length s))
      (λ h. ltb-true from (length s) h)
      (λ h. let d = drop_of_length-le s (ltb-false from (length s) h) in absurd (none (sym (empty-text π) ∙ ap (scan (start (rules π))) (sym d) ∙ lexeme)))
    where
      none : nothing ≡ found (at - from) k → ⊥
      none z = let y : ◌≡◌ {A = Bool} true false = cc in true≢false y

  pub ends-gives : Gives (rules π) s from (answer (rule_at (rules π) k).class from (part s from at))
  ends-gives =
      let h = ends-from in
      subst (Gives (rules π) s from)
      (rw (le-ltb (length s) from (omega arith), ne_eqb from (length s) (omega arith)) (ap (given (rules π) (drop from s) from) lexeme))
      (next-gives (rules π) (sound π) s from)

  inside-text : at - from ≤ length (drop from s)
  inside-text = (subst (Right (start (rules π)) (drop from s)) lexeme (scan-right (drop from s) (start (rules π)))).0

  pub ends-long : length (part s from at) ≡ at - from
  ends-long = length-take-le (at - from) (drop from s) inside-text

  pub ends-in : at ≤ length s
  ends-in = omega (arith, ends-from, inside-text, length-drop from s)

-- What is found alike under two profiles gives the same answer under both.
classes : (p r : Profile) → map (λ r. r.class) (rules p) ≡ map (λ r. r.class) (rules r)
unfolding rules
classes p r = refl

class-alike : (p r : Profile) (k : ℕ) → (rule_at (rules p) k).class ≡ (rule_at (rules r) k).class
class-alike p r k = sym (class-at (rules p) k) ∙ ap (λ (l : List Class). get_or l k blank_run) (classes p r) ∙ class-at (rules r) k
  where
    class-at : (l : List Rule) (k : ℕ) → get_or (map (λ r. r.class) l) k blank_run ≡ (rule_at l k).class
    class-at [] k = refl
    class-at (x ∷ l) zero = refl
    class-at (x ∷ l) (suc k) = class-at l k

given-alike : (p r : Profile) (s : List ℕ) (at : ℕ) (f : Found) → given (rules p) s at f ≡ given (rules r) s at f
given-alike p r s at nothing = refl
given-alike p r s at (found n k) = ap (λ (c : Class). answer c at (take n s)) (class-alike p r k)

gives-alike : (p r : Profile) (s : List ℕ) (at : ℕ) (a : Answer) → at < length s → scan (start (rules p)) (drop at s) ≡ scan (start (rules r)) (drop at s)
    → Gives (rules p) s at a → Gives (rules r) s at a
gives-alike p r s at a h e g =
    let n : next (rules p) s at ≡ next (rules r) s at = rw (le-ltb (length s) at (omega arith), ne_eqb at (length s) (omega arith))
    (given-alike p r (drop at s) at (scan (start (rules p)) (drop at s)) ∙ ap (given (rules r) (drop at s) at) e) in
    subst (Gives (rules r) s at) (sym (gives-unique (rules p) s at a (next (rules p) s at) g (next-gives (rules p) (sound p) s at) ∙ n)) (next-gives (rules r) (sound r) s at)

-- whatever the first byte, but for these
abbrev pub alike_first : Set
alike_first = no (D or one_of "[&@:.")

alike-first : joins (start (rules Turso)) (start (rules Sqlite)) alike_first ≡ true
unfolding rules operators is_digit is_hexdigit is_identifier_start is_identifier_continue is_blank
alike-first = refl

pub first_alike : (π : Profile) (s : List ℕ) (at : ℕ) (a : Answer) → sees alike_first (drop at s) ≡ true → Gives (rules Turso) s at a → Gives (rules π) s at a
first_alike Turso s at a h g = g
first_alike Sqlite s at a h g =
    gives-alike Turso Sqlite s at a (seen-in alike_first s at h)
    (scan-join (start (rules Turso)) (start (rules Sqlite)) alike_first alike-first ((sound Turso).empty ∙ sym (sound Sqlite).empty) (drop at s) (sees-no alike_first (drop at s) h)) g

-- and where the same is left inside of a lexeme
pub reads-alike : {p r : Profile} {s : List ℕ} {from at : ℕ} {q : State} → ReadsUnder p s from at q → ReadsUnder r s from at q → from < length s → (a : Answer) → Gives (rules p) s from a → Gives (rules r) s from a
reads-alike {p} {r} {s} {from} x y h a g = gives-alike p r s from a h (ends-back from _ _ (x.same ∙ sym y.same)) g
  where
    ends-back : (n : ℕ) (f g : Found) → ends n f ≡ ends n g → f ≡ g
    ends-back n nothing nothing e = refl
    ends-back n nothing (found m k) e = absurd (let z : ◌≡◌ {A = Bool} true false = cc in true≢false z)
    ends-back n (found m k) nothing e = absurd (let z : ◌≡◌ {A = Bool} true false = cc in true≢false z)
    ends-back n (found m k) (found i j) e = let d : n + m ≡ n + i = cc in let b : k ≡ j = cc in rw b (ap (λ (m : ℕ). found m j) (omega arith))

-- The text has w from `from` to `at`.
pub record Spelled (s : List ℕ) (from at : ℕ) (w : List ℕ) : Type 0 where
  pub long : at ≡ from + length w
  pub text : drop from s ≡ w ++ drop at s

module _ {s : List ℕ} {from at : ℕ} {w : List ℕ} (p : Spelled s from at w) where
  pub spelled-reads : {π : Profile} → along (start (rules π)) w ≡ true → ReadsUnder π s from at (after (start (rules π)) w)
  spelled-reads {π} a =
      let l = p.long in
      record {
        ordered = omega arith;
        same = ap (λ (u : List ℕ). ends from (scan (start (rules π)) u)) p.text ∙ ends-along w (start (rules π)) a (drop at s) from
            ∙ ap (λ (n : ℕ). ends n (scan (after (start (rules π)) w) (drop at s))) (sym l);
      }

  pub spelled-part : part s from at ≡ w
  spelled-part =
      let l = p.long in
      let d : at - from ≡ length w = omega arith in
      rw (d, p.text, take-append_seam)

  one_more : (b : ℕ) → sees (byte b) (drop at s) ≡ true → Spelled s from (at + 1) (w ++ b ∷ [])
  one_more b e =
      let l = p.long in
      let h : get_or s at 0 ≡ b = eqb-true (get_or s at 0) b (seen-holds (byte b) s at e) in
      record {
        long = rw (length-append w (b ∷ [])) (omega arith);
        text = p.text ∙ rw (seen-cons (byte b) s at e, h) (sym (append_assoc w (b ∷ []) (drop (at + 1) s)));
      }

  pub spelled-more : (b : ℕ) → sees (byte b) (drop at s) ≡ true → {d : ℕ} → d ≡ moved at s → Spelled s from d (w ++ b ∷ [])
  spelled-more b e f = subst (λ (n : ℕ). Spelled s from n (w ++ b ∷ [])) (sym (f ∙ moved-one (byte b) s at e)) (one_more b e)

spelled_none : (s : List ℕ) (at : ℕ) → Spelled s at at []
spelled_none s at = record { long = sym (add-zero at); text = refl }

pub spelled-first : (b : ℕ) (s : List ℕ) (at : ℕ) → sees (byte b) (drop at s) ≡ true → {d : ℕ} → d ≡ moved at s → Spelled s at d (b ∷ [])
spelled-first b s at e f = spelled-more (spelled_none s at) b e f
