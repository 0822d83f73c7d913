-- A stream is open until a finish call or an end, and closed behind an end. Assumes nothing.
use Prim.Native.Nat.{ℕ}
use mathlib.Core.Path.{◌≡◌, refl, sym, ◌∙◌, ap, subst}
use mathlib.Core.Bool.{Bool, true, false, cond, not, true≢false}
use mathlib.Core.List.{List, [], ◌∷◌, ◌++◌}
use mathlib.Core.Logic.{inl, inr}
use lib.Dec.{eqb}
use lib.ListN.{length, take, drop}
use Rattle.grammar.specs.declared.profile.Profile.{Profile}
use Rattle.grammar.specs.Classes.{Class, rules}
use Rattle.grammar.specs.Answers.{Answer, token, end, refusal, answer}
use Rattle.grammar.specs.Longest.{Gives}
use Rattle.ahead.proofs.Each.{each-class}
use Rattle.intake.specs.declared.state.Phase.{Phase}
use Rattle.intake.specs.declared.state.Stream.{Stream}
use Rattle.intake.specs.Takes.{waiting, taken_of, text_of}
use Rattle.stream.specs.declared.stream.Given.{Given}
use Rattle.stream.specs.Refusals.{stream_refusal}
use Rattle.stream.specs.Calls.{Told, tells, values_of, shift, after, ended, moved, is_open, is_closed, Course, refuse_closed, refuse_part, ask_more}
use Rattle.stream.specs.Calls.{refuse_lexeme, lex, Goes, offering, finishing, Offered, Finished}
use Rattle.parting.specs.Histories.{Call, offer, finish, Event, Made, Calls, stream_after, closing_in, closings, is_offer, Unfinished}
use Rattle.parting.proofs.Walks.{closed-stays, refusing-says}

abbrev pub some : List Answer → Bool
some [] = false
some (a ∷ l) = true

-- the number of a refusal, and 0 for any other answer
abbrev number_in : Answer → ℕ
number_in (token kind start n next d u) = 0
number_in (end offset) = 0
number_in (refusal number start n offset) = number

abbrev is_other : Answer → Bool
is_other a = eqb (number_in a) (stream_refusal "Closed")

-- Next never answers Closed
class-other : (c : Class) (at : ℕ) (w : List ℕ) → is_other (answer c at w) ≡ false
unfolding answer
class-other c at w = no (is_other (answer c at w)) (each-class (λ c. not (is_other (answer c at w))) refl c)
  where
    no : (b : Bool) → not b ≡ true → b ≡ false
    no true e = absurd (true≢false (sym e))
    no false e = refl

gives_other : (p : Profile) (s : List ℕ) (at : ℕ) (a : Answer) → Gives (rules p) s at a → is_other a ≡ false
gives_other p s at a (inl (h, d)) = ap is_other d
gives_other p s at a (inr (inl (h, d))) = ap is_other d
gives_other p s at a (inr (inr (h, (c, n, x, d)))) = ap is_other d ∙ class-other c at (take n (drop at s))

-- a course that ends nothing leaves what was true of the phases before
module _ (Q : Phase → Type 0) where
  lexed-phase : (m : Stream) (k : ℕ) (a : Answer) → is_other a ≡ false → Q m.phase → closing_in (tells (shift k a)) ≡ [] → Q (after m a).phase
  lexed-phase m k (token kind start n next d u) o q c = q
  lexed-phase m k (end offset) o q c = absurd (true≢false (ap some c))
  lexed-phase m k (refusal number start n offset) o q c =
      absurd (true≢false (ap some (subst (λ (t : Bool). cond t [] (shift k (refusal number start n offset) ∷ []) ≡ []) o c)))

  goes-phase : (c : Course) (s m : Stream) (text : List ℕ) (n : ℕ) (row : List ℕ) (g : Given) (new : List ℕ) → Q s.phase → Q m.phase
      → Goes c s m text n row g new → closing_in (values_of g.answer) ≡ [] → Q g.stream.phase
  goes-phase refuse_closed s m text n row g new qs qm (r, e) c = subst (λ (t : Stream). Q t.phase) (sym r.left) qs
  goes-phase refuse_part s m text n row g new qs qm (r, e) c = absurd (true≢false (ap (λ (t : Told). some (closing_in t)) (sym r.told) ∙ ap some c))
  goes-phase ask_more s m text n row g new qs qm (r, e) c = subst (λ (t : Stream). Q t.phase) (sym r.left) qm
  goes-phase refuse_lexeme s m text n row g new qs qm (r, e) c = absurd (true≢false (ap (λ (t : Told). some (closing_in t)) (sym r.told) ∙ ap some c))
  goes-phase lex s m text n row g new qs qm (r, e) c =
      subst (λ (t : Stream). Q t.phase) (sym r.left)
      (lexed-phase m _ r.next (gives_other m.profile text 0 r.next r.gives) qm (ap closing_in (sym r.told) ∙ c))

-- one that ends something closes the stream
lexed-closes : (m : Stream) (k : ℕ) (a : Answer) → some (closing_in (tells (shift k a))) ≡ true → is_closed (after m a).phase ≡ true
lexed-closes m k (token kind start n next d u) c = absurd (true≢false (sym c))
lexed-closes m k (end offset) c = refl
lexed-closes m k (refusal number start n offset) c = refl

goes-closes : (c : Course) (s m : Stream) (text : List ℕ) (n : ℕ) (row : List ℕ) (g : Given) (new : List ℕ) → Goes c s m text n row g new
    → some (closing_in (values_of g.answer)) ≡ true → is_closed g.stream.phase ≡ true
goes-closes refuse_closed s m text n row g new (r, e) c = absurd (true≢false (sym c ∙ ap (λ (t : Told). some (closing_in t)) r.told))
goes-closes refuse_part s m text n row g new (r, e) c = ap (λ (t : Stream). is_closed t.phase) r.left
goes-closes ask_more s m text n row g new (r, e) c = absurd (true≢false (sym c ∙ ap (λ (t : Told). some (closing_in t)) r.told))
goes-closes refuse_lexeme s m text n row g new (r, e) c = ap (λ (t : Stream). is_closed t.phase) r.left
goes-closes lex s m text n row g new (r, e) c =
    ap (λ (t : Stream). is_closed t.phase) r.left ∙ lexed-closes m _ r.next (ap (λ (t : Told). some (closing_in t)) (sym r.told) ∙ c)

-- of a call
made-phase : (Q : Phase → Type 0) (c : Call) (s : Stream) (row : List ℕ) (g : Given) (new : List ℕ) → Q s.phase
    → (is_offer c ≡ false → Q (ended s 0).phase) → Made c s row g new → closing_in (values_of g.answer) ≡ [] → Q g.stream.phase
unfolding Offered Finished
made-phase Q (offer part) s row g new q e h =
    goes-phase Q (offering s row part) s (moved s row part) (text_of s row part) (taken_of s row part) row g new q q h
made-phase Q finish s row g new q e h =
    goes-phase Q (finishing s) s (ended s (length (waiting s row))) (waiting s row) 0 row g new q (e refl) h

made-closes : (c : Call) (s : Stream) (row : List ℕ) (g : Given) (new : List ℕ) → Made c s row g new → some (closing_in (values_of g.answer)) ≡ true
    → is_closed g.stream.phase ≡ true
unfolding Offered Finished
made-closes (offer part) s row g new h = goes-closes (offering s row part) s (moved s row part) (text_of s row part) (taken_of s row part) row g new h
made-closes finish s row g new h = goes-closes (finishing s) s (ended s (length (waiting s row))) (waiting s row) 0 row g new h

none_in : (x y : List Answer) → x ++ y ≡ [] → (x ≡ []) × (y ≡ [])
none_in [] y e = (refl, e)
none_in (a ∷ x) y e = absurd (true≢false (ap some e))

-- Nothing has ended: the stream is not closed.
pub unclosed-after : (l : List Event) (s : Stream) (row : List ℕ) → is_closed s.phase ≡ false → Calls s row l → closings l ≡ []
    → is_closed (stream_after s l).phase ≡ false
unfolding Calls stream_after closings
unclosed-after [] s row o h c = o
unclosed-after (v ∷ l) s row o (h, t) c =
    let (a, b) = none_in (closing_in (values_of v.given.answer)) (closings l) c in
    unclosed-after l v.given.stream v.row (made-phase (λ f. is_closed f ≡ false) v.call s row v.given v.row o (λ e. refl) h a) t b

-- Nor was a finish call made: it is open.
pub open_after : (l : List Event) (s : Stream) (row : List ℕ) → is_open s.phase ≡ true → Calls s row l → Unfinished l → closings l ≡ []
    → is_open (stream_after s l).phase ≡ true
unfolding Calls stream_after closings
open_after [] s row o h u c = o
open_after (v ∷ l) s row o (h, t) (i, u) c =
    let (a, b) = none_in (closing_in (values_of v.given.answer)) (closings l) c in
    let now = made-phase (λ f. is_open f ≡ true) v.call s row v.given v.row o (λ e. absurd (true≢false (sym i ∙ e))) h a in
    open_after l v.given.stream v.row now t u b

-- Something has ended: it is closed.
pub closed_after : (l : List Event) (s : Stream) (row : List ℕ) → Calls s row l → some (closings l) ≡ true → is_closed (stream_after s l).phase ≡ true
unfolding Calls stream_after closings
closed_after [] s row h c = absurd (true≢false (sym c))
closed_after (v ∷ l) s row (h, t) c = by (closed_after l v.given.stream v.row t) (closing_in (values_of v.given.answer)) refl
  where
    by : (some (closings l) ≡ true → is_closed (stream_after v.given.stream l).phase ≡ true) → (x : List Answer)
        → closing_in (values_of v.given.answer) ≡ x → is_closed (stream_after v.given.stream l).phase ≡ true
    by rest [] e = rest (ap (λ (x : List Answer). some (x ++ closings l)) (sym e) ∙ c)
    by rest (a ∷ x) e =
        let now = made-closes v.call s row v.given v.row h (ap some e) in
        let (i, j, k, same) = refusing-says l v.given.stream v.row (closed-stays l v.given.stream v.row now t) in
        ap (λ (q : Stream). is_closed q.phase) same ∙ now
