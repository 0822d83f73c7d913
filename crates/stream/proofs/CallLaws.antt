-- From what the parts of a call give to what the call owes. Assumes nothing.
use Prim.Native.Nat.{ℕ, suc, ◌+◌, ◌-◌, ◌≤◌, ◌<◌}
use native.Mathlib.Omega.{arith}
use mathlib.Core.Path.{◌≡◌, refl, sym, ◌∙◌, ap, subst}
use mathlib.Core.Bool.{Bool, true, false, cond}
use mathlib.Core.List.{List, [], ◌∷◌}
use lib.ListN.{length, take, drop}
use lib.Seq.{take-append_seam}
use borrow.Author.Tests.{lt-ltb, le-ltb}
use Rattle.keywords.proofs.Logic.{split}
use Rattle.grammar.specs.declared.profile.Profile.{Profile}
use Rattle.readings.specs.declared.reading.Reading.{Reading}
use Rattle.readings.specs.Arrows.{onward}
use Rattle.intake.specs.declared.state.Phase.{Phase}
use Rattle.intake.specs.declared.state.Phase.TheVariants.{Open, Ending, Closed}
use Rattle.intake.specs.declared.state.Stream.{Stream}
use Rattle.stream.specs.declared.stream.Given.{Given}
use Rattle.stream.specs.declared.stream.Answer.{Answer}
use Rattle.stream.specs.declared.stream.Answer.TheVariants.{More}
use Rattle.stream.specs.Refusals.{own}
use Prim.Native.String.{String}
use Rattle.intake.specs.Takes.{is_over, is_ready, takes, front, waiting, taken_of, text_of, read_then, ready_then}
use Rattle.stream.specs.Calls.{Course, refuse_closed, refuse_part, ask_more, refuse_lexeme, lex, most, is_open, is_closed, offering}
use Rattle.stream.specs.Calls.{tells, values_of, last_end, Refuses, Answers, Goes, closed, holding, ended, moved, Offered, Finished}
use Rattle.intake.proofs.TakeLaws.{unready-room}

-- a phase that is another
pub not-open : (p : Phase) → (p ≡ Open → ⊥) → is_open p ≡ false
not-open Open f = absurd (f refl)
not-open Ending f = refl
not-open Closed f = refl

pub not-closed : (p : Phase) → (p ≡ Closed → ⊥) → is_closed p ≡ false
not-closed Open f = refl
not-closed Ending f = refl
not-closed Closed f = absurd (f refl)

-- a refusal by its parts
pub refuses : (s : Stream) (n : ℕ) (name : String) (a : Answer) (g : Given) → values_of a ≡ tells (own name (last_end s)) → g.stream ≡ s → g.taken ≡ n
    → g.answer ≡ a → Refuses s n name g
refuses s n name a g e l t told = record { left = l; taken = t; told = ap values_of told ∙ e }

-- what is taken stays in the part and in the row
pub takes_part : (full : ℕ) (p : Profile) (r : Reading) (h : ℕ) (part : List ℕ) → takes full p r h part ≤ length part
unfolding takes
takes_part full p r h [] = omega arith
takes_part full p r h (b ∷ s) =
    split (is_ready full r h) (λ e. rw e (omega arith)) (λ e. rw e (omega (arith, takes_part full p (onward p r b) (suc h) s)))

pub takes-room : (full : ℕ) (p : Profile) (r : Reading) (h : ℕ) (part : List ℕ) → h ≤ full → h + takes full p r h part ≤ full
unfolding takes
takes-room full p r h [] l = omega arith
takes-room full p r h (b ∷ s) l =
    split (is_ready full r h)
    (λ e. rw e (omega arith))
    (λ e.
    let m = takes-room full p (onward p r b) (suc h) s (omega (arith, unready-room full r h e)) in
    rw e (omega arith))

module _ (s : Stream) (row part : List ℕ) where
  abbrev n : ℕ
  n = taken_of s row part

  pub taken-inside : n ≤ length part
  taken-inside = takes_part (length row) s.profile _ (length (waiting s row)) part

  -- the order of the refusals
  abbrev pub taking : Course
  taking = cond (ready_then s row part) (cond (is_over (read_then s row part) (length (text_of s row part))) refuse_lexeme lex) ask_more

  pub allowed : is_open s.phase ≡ true → length part ≤ most - s.total → offering s row part ≡ taking
  allowed o l = rw (o, le-ltb (most - s.total) (length part) l)

  by : (k : Course) (g : Given) (new : List ℕ) → offering s row part ≡ k → Goes k s (moved s row part) (text_of s row part) n row g new
      → Offered s row part g new
  unfolding Offered
  by k g new e x = subst (λ (k : Course). Goes k s (moved s row part) (text_of s row part) n row g new) (sym e) x

  pub offered-closed : (g : Given) → is_open s.phase ≡ false → Refuses s 0 "Closed" g → Offered s row part g row
  offered-closed g o x = by refuse_closed g row (rw o) (x, refl)

  pub offered-long : (g : Given) → is_open s.phase ≡ true → most - s.total < length part → Refuses (closed s) 0 "TooLong" g
      → Offered s row part g row
  offered-long g o l x = by refuse_part g row (rw (o, lt-ltb (most - s.total) (length part) l)) (x, refl)

  -- What is taken in, by its equations; m is the stream then.
  module _ (r : Reading) (h t : ℕ) (ready : Bool) (new : List ℕ) (m : Stream) (o : is_open s.phase ≡ true) (l : length part ≤ most - s.total)
      (er : r ≡ read_then s row part) (eh : h ≡ length (text_of s row part)) (et : t ≡ n) (ey : ready ≡ ready_then s row part)
      (en : new ≡ front (text_of s row part) row) (em : m ≡ holding s r h t) where
    moved-is : m ≡ moved s row part
    moved-is = rw (em, er, eh, et)

    pub offered-more : ready ≡ false → Offered s row part (record { stream = m; taken = t; answer = More }) new
    offered-more f =
        by ask_more _ new (allowed o l ∙ rw (sym ey ∙ f)) (record { left = moved-is; taken = et; told = refl }, en)

    over-is : (v : Bool) → is_over r h ≡ v → is_over (read_then s row part) (length (text_of s row part)) ≡ v
    over-is v e = ap (λ (r : Reading). is_over r (length (text_of s row part))) (sym er) ∙ ap (is_over r) (sym eh) ∙ e

    pub offered-over : (g : Given) → ready ≡ true → is_over r h ≡ true → Refuses (closed m) t "LexemeTooLong" g → Offered s row part g new
    offered-over g f v x =
        by refuse_lexeme g new (allowed o l ∙ rw (sym ey ∙ f, over-is true v))
        (subst (λ (t : ℕ). Refuses (closed (moved s row part)) t "LexemeTooLong" g) et (subst (λ (m : Stream). Refuses (closed m) t "LexemeTooLong" g) moved-is x), en)

    held-front : take m.held new ≡ text_of s row part
    held-front = rw (em, eh, en) (take-append_seam (text_of s row part) (drop (length (text_of s row part)) row))

    pub offered-lexed : (g : Given) → ready ≡ true → is_over r h ≡ false → Answers m (take m.held new) t g → Offered s row part g new
    offered-lexed g f v x =
        let y = subst (λ (w : List ℕ). Answers m w t g) held-front x in
        let z = subst (λ (m : Stream). Answers m (text_of s row part) t g) moved-is y in
        by lex g new (allowed o l ∙ rw (sym ey ∙ f, over-is false v)) (subst (λ (t : ℕ). Answers (moved s row part) (text_of s row part) t g) et z, en)

-- no part comes any more
module _ (s : Stream) (row : List ℕ) where
  pub finished-closed : (g : Given) → is_closed s.phase ≡ true → Refuses s 0 "Closed" g → Finished s row g row
  unfolding Finished
  finished-closed g o x = rw o (x, refl)

  module _ (h : ℕ) (new : List ℕ) (m : Stream) (eh : h ≡ length (waiting s row)) (en : new ≡ front (waiting s row) row) (em : m ≡ ended s h) where
    pub finished-lexed : (g : Given) → is_closed s.phase ≡ false → Answers m (take m.held new) 0 g → Finished s row g new
    unfolding Finished
    finished-lexed g o x =
        let f : take m.held new ≡ waiting s row = rw (em, eh, en) (take-append_seam (waiting s row) (drop (length (waiting s row)) row)) in
        let y = subst (λ (w : List ℕ). Answers m w 0 g) f x in
        let z = subst (λ (m : Stream). Answers m (waiting s row) 0 g) (em ∙ ap (ended s) eh) y in
        rw o (z, en)
