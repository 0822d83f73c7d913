-- What is kept behind any calls: the bytes taken and the end of the token given last. Assumes nothing.
use Prim.Native.Nat.{ℕ, ◌+◌, ◌-◌}
use native.Mathlib.Omega.{arith}
use mathlib.Core.Path.{◌≡◌, refl, sym, ◌∙◌, ap, subst}
use mathlib.Core.Bool.{Bool, true, false, cond, true≢false}
use mathlib.Core.List.{List, [], ◌∷◌, ◌++◌, append-nil, append_assoc}
use mathlib.Core.Logic.{◌⊎◌, inl, inr, ⊎_elim}
use lib.Dec.{ltb}
use lib.ListN.{length, take}
use borrow.Author.Tests.{ltb-true, ltb-false}
use Rattle.keywords.proofs.Logic.{split}
use Rattle.grammar.specs.declared.profile.Profile.{Profile}
use Rattle.grammar.specs.Answers.{Answer, token, end, refusal}
use Rattle.intake.specs.declared.state.Phase.{Phase}
use Rattle.intake.specs.declared.state.Phase.TheVariants as Ph
use Rattle.intake.specs.declared.state.Stream.{Stream}
use Rattle.stream.specs.declared.stream.Given.{Given}
use Rattle.intake.specs.Takes.{room, waiting, taken_of}
use Rattle.stream.specs.Calls.{Told, more, tells, values_of, most, ended, after, is_open, is_closed, refuse_closed, lex, Goes, Finished}
use Rattle.parting.specs.Histories.{Call, offer, finish, Event, Made, Calls, stream_after, row_after, taken_by, taken}
use Rattle.stream.proofs.HeldLaws.{Within, offered-row, finished-row, offered-within, finished-within}
use Rattle.parting.proofs.Keeps.{Keeps, Left, offered, finished}
use Rattle.parting.proofs.Walks.{part-refused, closed-refuses, part-too-long, not-open, closed-stays, refusing-says}

module _ (p : Profile) where
  -- closed, or still kept
  abbrev Kept : List ℕ → Stream → List ℕ → Type 0
  Kept text s row = (is_closed s.phase ≡ true) ⊎ ((k : ℕ) × Keeps p text k s row)

  left-kept : (text : List ℕ) (at : ℕ) (f : Phase) (told : Told) (s : Stream) (row : List ℕ) → Left p text at f told s row → Kept text s row
  left-kept text at f more s row (k, e) = inr (at, k)
  left-kept text at f (tells (token kind start n next d u)) s row (a, b, c, k, e, at_front) = inr (at + n, k)
  left-kept text at f (tells (end offset)) s row (e, l) = inl (ap is_closed e)
  left-kept text at f (tells (refusal number start n offset)) s row (e, l) = inl (ap is_closed e)

  module _ {text : List ℕ} {at : ℕ} {s : Stream} {row : List ℕ} (k : Keeps p text at s row) (v : Event) where
    abbrev g : Given
    g = v.given

    abbrev here : List ℕ
    here = text ++ taken_by v.call g.taken

    nothing : taken_by v.call g.taken ≡ [] → here ≡ text
    nothing e = ap (λ (x : List ℕ). text ++ x) e ∙ append-nil text

    still : (c : Call) → v.call ≡ c → g.taken ≡ 0 → g.stream ≡ s → v.row ≡ row → Kept here g.stream v.row
    still c d e f h =
        let none : taken_by v.call g.taken ≡ [] = ap (λ (n : ℕ). taken_by v.call n) e ∙ zero-taken v.call in
        inr (
          at,
          subst (λ (x : List ℕ). Keeps p x at g.stream v.row) (sym (nothing none))
              (subst (λ (x : Stream). Keeps p text at x v.row) (sym f) (subst (Keeps p text at s) (sym h) k)),
        )
      where
        zero-taken : (c : Call) → taken_by c 0 ≡ []
        zero-taken (offer part) = refl
        zero-taken finish = refl

    -- one call more
    call-keeps : (c : Call) → v.call ≡ c → Made c s row g v.row → Kept here g.stream v.row
    call-keeps (offer part) c h =
        split (is_open s.phase)
        (λ o.
        split (ltb (most - s.total) (length part))
        (λ l.
        let (r, e) = part-too-long s row o part (ltb-true (most - s.total) (length part) l) g v.row h in
        inl (ap (λ (q : Stream). is_closed q.phase) r.left))
        (λ l.
        let (n-is, (offers, left)) = offered k part g v.row o (ltb-false (most - s.total) (length part) l) h in
        let same : here ≡ text ++ take (taken_of s row part) part =
        ap (λ (x : List ℕ). text ++ x) (ap (λ (c : Call). taken_by c g.taken) c ∙ ap (λ (i : ℕ). take i part) n-is) in
        subst (λ (x : List ℕ). Kept x g.stream v.row) (sym same) (left-kept (text ++ take (taken_of s row part) part) at s.phase (values_of g.answer) g.stream v.row left)))
        (λ o. let (r, e) = part-refused s row o part g v.row h in still (offer part) c r.taken r.left e)
    call-keeps finish c h =
        split (is_closed s.phase)
        (λ o. let (r, e) = closed-refuses s row o finish g v.row h in inl (ap (λ (q : Stream). is_closed q.phase) r.left ∙ o))
        (λ o.
        let (z, (a, told, says, left)) = finished k g v.row o h in
        subst (λ (x : List ℕ). Kept x g.stream v.row) (sym (nothing (ap (λ (c : Call). taken_by c g.taken) c)))
        (left-kept text at Ph.Ending (tells a) g.stream v.row left))

  -- Behind any calls that leave the stream unclosed.
  pub kept : (l : List Event) (text : List ℕ) (at : ℕ) (s : Stream) (row : List ℕ) → Keeps p text at s row → Calls s row l
      → is_closed (stream_after s l).phase ≡ false → (k : ℕ) × Keeps p (text ++ taken l) k (stream_after s l) (row_after row l)
  unfolding Calls stream_after row_after taken
  kept [] text at s row k h o = (at, subst (λ (x : List ℕ). Keeps p x at s row) (sym (append-nil text)) k)
  kept (v ∷ l) text at s row k (h, t) o =
      ⊎_elim
      (λ c.
      let (i, j, m, q) = refusing-says l v.given.stream v.row (closed-stays l v.given.stream v.row c t) in
      absurd (true≢false (sym c ∙ ap (λ (x : Stream). is_closed x.phase) (sym q) ∙ o)))
      (λ (j, w).
      let (i, r) = kept l (text ++ taken_by v.call v.given.taken) j v.given.stream v.row w t o in
      (i, subst (λ (x : List ℕ). Keeps p x i (stream_after v.given.stream l) (row_after v.row l)) (append_assoc text (taken_by v.call v.given.taken) (taken l)) r))
      (call-keeps k v v.call refl h)

-- a finish call leaves no stream open, and none opens again
not-open-after : (s : Stream) (a : Answer) → is_open s.phase ≡ false → is_open (after s a).phase ≡ false
not-open-after s (token kind start n next d u) e = e
not-open-after s (end offset) e = refl
not-open-after s (refusal number start n offset) e = refl

pub finish-shuts : (s : Stream) (row : List ℕ) (g : Given) (new : List ℕ) → Finished s row g new → is_open g.stream.phase ≡ false
unfolding Finished
finish-shuts s row g new h =
    split (is_closed s.phase)
    (λ o.
    let (r, e) = closed-refuses s row o finish g new h in
    ap (λ (q : Stream). is_open q.phase) r.left ∙ not-open s.phase o)
    (λ o.
    let (r, e) = subst (λ (t : Bool). Goes (cond t refuse_closed lex) s (ended s (length (waiting s row))) (waiting s row) 0 row g new) o h in
    ap (λ (q : Stream). is_open q.phase) r.left ∙ not-open-after (ended s (length (waiting s row))) r.next refl)

pub stays-shut : (l : List Event) (s : Stream) (row : List ℕ) → Calls s row l → is_open s.phase ≡ false → is_open (stream_after s l).phase ≡ false
unfolding Calls stream_after
stays-shut [] s row h o = o
stays-shut (v ∷ l) s row (h, t) o = stays-shut l v.given.stream v.row t (one v.call h)
  where
    one : (c : Call) → Made c s row v.given v.row → is_open v.given.stream.phase ≡ false
    one (offer part) h = let (r, e) = part-refused s row o part v.given v.row h in ap (λ (q : Stream). is_open q.phase) r.left ∙ o
    one finish h = finish-shuts s row v.given v.row h

-- A row of so many bytes stays one, and no call leaves more bytes given or held than it has.
abbrev pub Fits : Stream → List ℕ → Type 0
Fits s row = Within room s × (length row ≡ room)

call_fits : (c : Call) (s : Stream) (row : List ℕ) (g : Given) (new : List ℕ) → Fits s row → Made c s row g new → Fits g.stream new
call_fits (offer part) s row g new (f, l) h = (offered-within s row g new room (omega arith) f part h, offered-row s row g new part h ∙ l)
call_fits finish s row g new (f, l) h = (finished-within s row g new room (omega arith) f h, finished-row s row g new h ∙ l)

pub fits_after : (l : List Event) (s : Stream) (row : List ℕ) → Fits s row → Calls s row l → Fits (stream_after s l) (row_after row l)
unfolding Calls stream_after row_after
fits_after [] s row f h = f
fits_after (v ∷ l) s row f (h, t) = fits_after l v.given.stream v.row (call_fits v.call s row v.given v.row f h) t
