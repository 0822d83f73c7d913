-- For readers. `accepted-is-lists`: what is accepted is List's list, of a text without a refusal. `lists-is-accepted`: List's list is
-- accepted. `accepted-one`: no other is. `first-differs`: the index of a list that differs is that of the first record that differs, is
-- surplus or is missing. `long-is-refused`: a text that is too long is refused, whatever the records. `check-unique`: the contract of
-- `check_list` leaves one answer. Assumes nothing.
use Prim.Native.Nat.{ℕ, suc, ◌+◌, ◌*◌, ◌≤◌, ◌<◌}
use native.Mathlib.Omega.{arith}
use mathlib.Core.Path.{◌≡◌, refl, sym, ◌∙◌, ap, subst}
use mathlib.Core.Bool.{Bool, true, false, cond, not, ◌&&◌, true≢false}
use mathlib.Core.List.{List, [], ◌∷◌, ◌++◌, append_assoc}
use mathlib.Core.Logic.{inl, inr}
use lib.Dec.{eqb}
use lib.ListN.{length, take, get_or, length-append}
use borrow.Author.Tests.{eqb-true, eq-eqb, not-false}
use Rattle.keywords.proofs.Logic.{split, and_left, and_right}
use Rattle.grammar.specs.Answers.{Answer, token, end, refusal, is_refusal}
use Rattle.grammar.specs.Longest.{Source, Next}
use Rattle.grammar.proofs.Tokens.{end-told}
use Rattle.lexer.specs.declared.cursor.Cursor.{Cursor}
use Rattle.lexer.specs.Eaten.{cursor}
use Rattle.records.specs.declared.Record.{Record}
use Rattle.records.specs.Records.{width, read_back, at_front}
use Rattle.walks.specs.Walk.{Legal, token_of, Always, Passes, Walk}
use Rattle.walks.proofs.WalkLaws.{legal, is-legal, end-no-token, passes-also, walk-one}
use Rattle.lists.specs.declared.list.Listed.TheVariants.{End}
use Rattle.lists.specs.Lists.{records_of, HasRoom, list_answer, longest_text, Lists}
use Rattle.lists.proofs.KeptLaws.{records-many}
use Rattle.lists.proofs.SliceLaws.{front-first}
use Rattle.std.specs.Prelude.{Result, Ok, Err}
use Rattle.agreeing.specs.declared.CheckError.{CheckError}
use Rattle.agreeing.specs.declared.CheckError.TheVariants.{TooLong, ListDiffers}
use Rattle.agreeing.specs.Agreeing.{same, agreeing, all_agree, Verdict, accepted, refused, list_differs, verdict, Checking, verdict_of, Checks, DiffersAt}
use Rattle.agreeing.proofs.AgreeLaws.{same-is, same_self}

-- An answer can be read back from its verdict.
abbrev checked_of : Verdict → Result (Unit {0}) CheckError
checked_of accepted = Ok tt
checked_of (refused number index) = Err (cond (eqb number 9) TooLong (ListDiffers index))

back : (r : Result (Unit {0}) CheckError) → checked_of (verdict_of r) ≡ r
back (Ok u) = refl
back (Err TooLong) = refl
back (Err (ListDiffers index)) = refl

same-verdict : (r q : Result (Unit {0}) CheckError) → verdict_of r ≡ verdict_of q → r ≡ q
same-verdict r q e = sym (back r) ∙ ap checked_of e ∙ back q

pub checking-unique : (s : Source) (rs : List Record) (v u : Verdict) → Checking s rs v → Checking s rs u → v ≡ u
checking-unique s rs v u x y =
    let (p, e, t) = walk-one Always s 0 x.walk y.walk in
    x.answers ∙ ap (λ (l : List Legal). verdict rs (records_of s.text l) x.walk.there) p ∙
    ap (verdict rs (records_of s.text y.walk.passed)) t ∙ sym y.answers

-- The contract leaves one answer.
pub check-unique : (s : Source) (rs : List Record) (r q : Result (Unit {0}) CheckError) → Checks s rs r → Checks s rs q → r ≡ q
unfolding Checks
check-unique s rs r q (inl (h, e)) (inl (k, f)) = same-verdict r q (e ∙ sym f)
check-unique s rs r q (inl (h, e)) (inr (k, y)) = absurd (omega arith)
check-unique s rs r q (inr (h, x)) (inl (k, f)) = absurd (omega arith)
check-unique s rs r q (inr (h, x)) (inr (k, y)) = same-verdict r q (checking-unique s rs (verdict_of r) (verdict_of q) x y)

pub long-is-refused : (s : Source) (rs : List Record) (r : Result (Unit {0}) CheckError) → longest_text < length s.text → Checks s rs r → r ≡ Err TooLong
unfolding Checks
long-is-refused s rs r h (inl (k, e)) = same-verdict r (Err TooLong) e
long-is-refused s rs r h (inr (k, x)) = absurd (omega arith)

-- lists that agree to the end of both are one
agree-is : (rs qs : List Record) → agreeing rs qs ≡ length rs → agreeing rs qs ≡ length qs → rs ≡ qs
unfolding agreeing
agree-is [] [] a b = refl
agree-is [] (q ∷ qs) a b = absurd (omega (arith, b))
agree-is (r ∷ rs) [] a b = absurd (omega (arith, a))
agree-is (r ∷ rs) (q ∷ qs) a b =
    split (same r q)
    (λ e.
    let a = rw e at a in
    let b = rw e at b in
    ap (λ (x : Record). x ∷ rs) (same-is r q e) ∙ ap (λ (x : List Record). q ∷ x) (agree-is rs qs (omega arith) (omega arith)))
    (λ e. let a = rw e at a in absurd (omega arith))

agree-self : (rs : List Record) → agreeing rs rs ≡ length rs
unfolding agreeing
agree-self [] = refl
agree-self (r ∷ rs) = rw (same_self r) (ap suc (agree-self rs))

all-agree : (rs qs : List Record) → all_agree rs qs ≡ true → rs ≡ qs
all-agree rs qs e =
    agree-is rs qs
    (eqb-true (agreeing rs qs) (length rs) (and_left (eqb (agreeing rs qs) (length rs)) (eqb (agreeing rs qs) (length qs)) e))
    (eqb-true (agreeing rs qs) (length qs) (and_right (eqb (agreeing rs qs) (length rs)) (eqb (agreeing rs qs) (length qs)) e))

accepted-so : (b : Bool) (i : ℕ) → accepted ≡ cond b accepted (list_differs i) → b ≡ true
accepted-so true i e = refl
accepted-so false i e = let z : ◌≡◌ {A = ℕ} 0 1 = cc in absurd (omega arith)

-- a walk that passes every lexeme stops at a refusal or at the text's end
ends_so : (s : Source) (to : ℕ) (there : Answer) → Next s to there → ((t : Legal) → there ≡ token_of t → ⊥) → not (is_refusal there) ≡ true
    → there ≡ end (length s.text)
ends_so s to (token k start n next d u) g stuck e = absurd (stuck (legal k start n d u) (is-legal s to k start n next d u g))
ends_so s to (end offset) g stuck e = let (l, o) = end-told s.profile s.text to offset g in ap end (o ∙ l)
ends_so s to (refusal k start n offset) g stuck e = absurd (true≢false (sym e))

-- what is accepted is the text's own list, and the text ends behind it
own-list : (s : Source) (rs : List Record) (x : Checking s rs accepted)
    → (rs ≡ records_of s.text x.walk.passed) × (x.walk.there ≡ end (length s.text))
own-list s rs x =
    let w = x.walk in
    let own = records_of s.text w.passed in
    let b = accepted-so (all_agree rs own && not (is_refusal w.there)) (agreeing rs own) x.answers in (
      all-agree rs own (and_left (all_agree rs own) (not (is_refusal w.there)) b),
      ends_so s w.to w.there w.gives (λ t e. w.stops t e tt) (and_right (all_agree rs own) (not (is_refusal w.there)) b),
    )

-- Of one text no more than one list is accepted: whatever else a record says is refused.
pub accepted-one : (s : Source) (rs qs : List Record) → Checks s rs (Ok tt) → Checks s qs (Ok tt) → rs ≡ qs
unfolding Checks
accepted-one s rs qs (inl (h, e)) y = let z : ◌≡◌ {A = ℕ} 0 1 = cc in absurd (omega arith)
accepted-one s rs qs (inr (h, x)) (inl (k, e)) = absurd (omega arith)
accepted-one s rs qs (inr (h, x)) (inr (k, y)) =
    (own-list s rs x).0 ∙ ap (records_of s.text) (walk-one Always s 0 x.walk y.walk).0 ∙ sym (own-list s qs y).0

-- with room for all lexemes every one has room
room-all : (s : Source) (room : ℕ) (before : List Legal) (from : ℕ) (l : List Legal) (to : ℕ) → Passes Always s before from l to
    → width * length (before ++ l) ≤ room → Passes (HasRoom room) s before from l to
unfolding Passes
room-all s room before from [] to p k = p
room-all s room before from (t ∷ l) to (e, g, o, p) k = (
  e,
  g,
  omega (arith, length-append before (t ∷ l)),
  room-all s room (before ++ (t ∷ [])) (from + t.length) l to p
      (subst (λ (x : List Legal). width * length x ≤ room) (sym (append_assoc before (t ∷ []) l)) k),
)

-- Accepted: lent room enough, List writes just this list from offset 0 and comes to the text's end.
pub accepted-is-lists : (s : Source) (rs : List Record) → Checks s rs (Ok tt) → (old : List ℕ) → width * length rs ≤ length old
    → Lists s 0 old (End (length rs) (cursor (length s.text))) (at_front rs old)
unfolding Checks Lists
accepted-is-lists s rs (inl (h, e)) old room = let z : ◌≡◌ {A = ℕ} 0 1 = cc in absurd (omega arith)
accepted-is-lists s rs (inr (short, x)) old room =
    let w = x.walk in
    let (own, last) = own-list s rs x in
    let many : length rs ≡ length w.passed = ap length own ∙ records-many s.text w.passed in
    inr (
      short,
      record {
        walk =
            record {
              passed = w.passed;
              to = w.to;
              passes = room-all s (length old) [] 0 w.passed w.to w.passes (subst (λ (m : ℕ). width * m ≤ length old) many room);
              there = end (length s.text);
              gives = subst (Next s w.to) last w.gives;
              stops = λ t f h. end-no-token (length s.text) t f;
            };
        answers = refl;
        counted = many;
        written = ap (λ (y : List Record). at_front y old) own;
      },
    )

answers-end : (at : ℕ) (there : Answer) (offset : ℕ) → end offset ≡ list_answer at there → there ≡ end offset
answers-end at (token k start n next d u) offset e = let z : ◌≡◌ {A = ℕ} 0 1 = cc in absurd (omega arith)
answers-end at (end o) offset e = sym e
answers-end at (refusal k start n o) offset e = let z : ◌≡◌ {A = ℕ} 0 1 = cc in absurd (omega arith)

-- What List writes from offset 0, where it comes to the text's end, is accepted.
pub lists-is-accepted : (s : Source) (old new : List ℕ) (records : ℕ) (next : Cursor) → Lists s 0 old (End records next) new
    → Checks s (take records (read_back new)) (Ok tt)
unfolding Checks Lists
lists-is-accepted s old new records next (inl (h, e, m, f)) = let z : ◌≡◌ {A = ℕ} 0 1 = cc in absurd (omega arith)
lists-is-accepted s old new records next (inr (short, x)) =
    let w = x.walk in
    let own = records_of s.text w.passed in
    let read : take records (read_back new) ≡ own = front-first s w.passed records old new x.counted x.written in
    let last = answers-end w.to w.there next.at x.answers in
    let yes : verdict own own (end next.at) ≡ accepted = rw (agree-self own, eq-eqb (length own) (length own) refl) in
    inr (
      short,
      record {
        walk =
            record {
              passed = w.passed;
              to = w.to;
              passes = passes-also (HasRoom (length old)) Always (λ b t h. tt) s [] 0 w.passed w.to w.passes;
              there = w.there;
              gives = w.gives;
              stops = λ t f h. end-no-token next.at t (sym last ∙ f);
            };
        answers = sym (ap (λ (y : List Record). verdict y own w.there) read ∙ ap (verdict own own) last ∙ yes);
      },
    )

-- how far lists agree: the same records up to there, and there none in common
agree-front : (rs qs : List Record) → take (agreeing rs qs) rs ≡ take (agreeing rs qs) qs
unfolding agreeing
agree-front [] qs = refl
agree-front (r ∷ rs) [] = refl
agree-front (r ∷ rs) (q ∷ qs) =
    split (same r q)
    (λ e. rw e (ap (λ (x : Record). x ∷ take (agreeing rs qs) rs) (same-is r q e) ∙ ap (λ (x : List Record). q ∷ x) (agree-front rs qs)))
    (λ e. rw e)

agree-few : (rs qs : List Record) → (agreeing rs qs ≤ length rs) × (agreeing rs qs ≤ length qs)
unfolding agreeing
agree-few [] qs = (omega arith, omega arith)
agree-few (r ∷ rs) [] = (omega arith, omega arith)
agree-few (r ∷ rs) (q ∷ qs) =
    let i = agree-few rs qs in
    split (same r q) (λ e. rw e (omega (arith, i.0), omega (arith, i.1))) (λ e. rw e (omega arith, omega arith))

agree-no-more : (rs qs : List Record) (d : Record) → agreeing rs qs < length rs → agreeing rs qs < length qs
    → get_or rs (agreeing rs qs) d ≡ get_or qs (agreeing rs qs) d → ⊥
unfolding agreeing
agree-no-more [] qs d h k e = omega arith
agree-no-more (r ∷ rs) [] d h k e = omega arith
agree-no-more (r ∷ rs) (q ∷ qs) d h k e =
    split (same r q)
    (λ f. agree-no-more rs qs d (omega (arith, rw f at h)) (omega (arith, rw f at k)) (rw f at e))
    (λ f. true≢false (sym (same_self q) ∙ ap (λ (x : Record). same x q) (sym (rw f at e)) ∙ f))

differs-so : (b : Bool) (i j : ℕ) → list_differs i ≡ cond b accepted (list_differs j) → (b ≡ false) × (i ≡ j)
differs-so true i j e = let z : ◌≡◌ {A = ℕ} 0 1 = cc in absurd (omega arith)
differs-so false i j e = (refl, cc)

-- Not accepted: the index is that of the first record that differs, is surplus or is missing; or of the lexeme that is refused.
pub first-differs : (s : Source) (rs : List Record) (i : ℕ) → length s.text ≤ longest_text → Checks s rs (Err (ListDiffers i)) → (w : Walk Always s 0)
    → DiffersAt rs (records_of s.text w.passed) w.there i
unfolding Checks
first-differs s rs i short (inl (h, e)) w = absurd (omega arith)
first-differs s rs i short (inr (h, x)) w =
    let (p, e, t) = walk-one Always s 0 x.walk w in
    let own = records_of s.text w.passed in
    let same-verdicts =
    x.answers ∙ ap (λ (l : List Legal). verdict rs (records_of s.text l) x.walk.there) p ∙ ap (verdict rs own) t in
    let (not-all, at) = differs-so (all_agree rs own && not (is_refusal w.there)) i (agreeing rs own) same-verdicts in
    record {
      reached = subst (λ (j : ℕ). (j ≤ length rs) × (j ≤ length own)) (sym at) (agree-few rs own);
      before = subst (λ (j : ℕ). take j rs ≡ take j own) (sym at) (agree-front rs own);
      within = λ d h k e.
          agree-no-more rs own d (omega (arith, at)) (omega (arith, at)) (subst (λ (j : ℕ). get_or rs j d ≡ get_or own j d) at e);
      behind = λ h k.
          let all : all_agree rs own ≡ true =
          rw (eq-eqb (agreeing rs own) (length rs) (sym at ∙ h), eq-eqb (agreeing rs own) (length own) (sym at ∙ k)) in
          not-false (is_refusal w.there) (rw all at not-all);
    }
