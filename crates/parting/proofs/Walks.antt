-- What a stream's calls say in all is what Next gives, walked over the bytes taken. Assumes nothing.
use Prim.Native.Nat.{ℕ, ◌+◌, ◌-◌, ◌≤◌, ◌<◌}
use native.Mathlib.Omega.{arith}
use mathlib.Core.Path.{◌≡◌, refl, sym, ◌∙◌, ap, subst}
use mathlib.Core.Bool.{Bool, true, false, cond, true≢false}
use mathlib.Core.List.{List, [], ◌∷◌, ◌++◌, append-nil, append_assoc}
use mathlib.Core.Logic.{◌⊎◌, inl, inr}
use lib.Dec.{eqb, leb, ltb}
use lib.ListN.{length, take, drop, length-append, length-drop}
use borrow.Author.Tests.{lt-ltb, ltb-true, ltb-false}
use Rattle.keywords.proofs.Logic.{split}
use Rattle.grammar.specs.declared.profile.Profile.{Profile}
use Rattle.grammar.specs.Answers.{Answer, token, end, refusal, answer}
use Rattle.grammar.specs.Longest.{Every, source, Next}
use Rattle.walks.specs.Walk.{Legal, Passes}
use Rattle.intake.specs.declared.state.Phase.{Phase}
use Rattle.intake.specs.declared.state.Phase.TheVariants as Ph
use Rattle.intake.specs.declared.state.Stream.{Stream}
use Rattle.stream.specs.declared.stream.Given.{Given}
use Rattle.stream.specs.Refusals.{stream_refusal, own}
use Rattle.parting.specs.Means.{Says, Settled, Open}
use Rattle.intake.specs.Takes.{limit, waiting, taken_of, text_of}
use Rattle.stream.specs.Calls.{Told, more, tells, values_of, most, last_end, closed, ended, moved, is_open, is_closed, refuse_closed}
use Rattle.stream.specs.Calls.{refuse_part, lex, Goes, Refuses, Offered, Finished}
use Rattle.parting.specs.Histories.{Offers, Call, offer, finish, Event, Made, Calls, stream_after, taken_by, taken, token_in, tokens, closing_in, closings}
use Rattle.parting.specs.Histories.{Short, is_offer, Unfinished}
use Rattle.parting.proofs.Ready.{some_byte, says-unique, says_some}
use Rattle.stream.proofs.CallLaws.{taking}
use Rattle.parting.proofs.Keeps.{Keeps, Left, last-is, offered, finished}

-- what is settled is said of every longer text
pub settled_says : (p : Profile) (s t : List ℕ) (at : ℕ) (a : Answer) → at ≤ length s → Settled p s at → Says p s at a → Says p (s ++ t) at a
settled_says p s t at a l h x =
    let (b, y) = says_some p (s ++ t) at (omega (arith, length-append s t)) in
    subst (Says p (s ++ t) at) (says-unique p s at b a (h t b y) x) y

abbrev pub is_token : Answer → Bool
is_token (token k start n next d u) = true
is_token (end offset) = false
is_token (refusal k start n offset) = false

abbrev pub is_more : Told → Bool
is_more more = true
is_more (tells a) = false

abbrev pub answer_in : Told → Answer
answer_in more = end 0
answer_in (tells a) = a

-- a token that is said is one that Next gives
pub says-next : (p : Profile) (s : List ℕ) (at k start n next d u : ℕ) → Says p s at (token k start n next d u) → Next (source p s) at (token k start n next d u)
says-next p s at k start n next d u (inl (e, f)) = absurd (true≢false (ap is_token f))
says-next p s at k start n next d u (inr (c, m, z, e)) =
    let there : at < length s = omega (arith, some_byte p (drop at s) c m z, length-drop at s) in
    split (leb m limit)
    (λ l. inr (inr (there, (c, m, z, subst (λ (t : Bool). token k start n next d u ≡ cond t (answer c at (take m (drop at s))) (own "LexemeTooLong" at)) l e))))
    (λ l. absurd (true≢false (ap is_token (subst (λ (t : Bool). token k start n next d u ≡ cond t (answer c at (take m (drop at s))) (own "LexemeTooLong" at)) l e))))

pub not-open : (f : Phase) → is_closed f ≡ true → is_open f ≡ false
not-open Ph.Open e = absurd (true≢false (sym e))
not-open Ph.Ending e = refl
not-open Ph.Closed e = refl

-- parts are refused by a stream that is not open
pub part-refused : (s : Stream) (row : List ℕ) → is_open s.phase ≡ false → (part : List ℕ) (g : Given) (new : List ℕ) → Offered s row part g new
    → Refuses s 0 "Closed" g × (new ≡ row)
unfolding Offered
part-refused s row e part g new h =
    subst (λ (t : Bool). Goes (cond t (cond (ltb (most - s.total) (length part)) refuse_part (taking s row part)) refuse_closed) s (moved s row part) (text_of s row part) (taken_of s row part) row g new) e h

-- once closed a stream refuses every call, and nothing changes
pub closed-refuses : (s : Stream) (row : List ℕ) → is_closed s.phase ≡ true → (c : Call) (g : Given) (new : List ℕ) → Made c s row g new
    → Refuses s 0 "Closed" g × (new ≡ row)
unfolding Finished
closed-refuses s row e (offer part) g new h = part-refused s row (not-open s.phase e) part g new h
closed-refuses s row e finish g new h =
    subst (λ (t : Bool). Goes (cond t refuse_closed lex) s (ended s (length (waiting s row))) (waiting s row) 0 row g new) e h

-- a part that is too long is refused by an open stream, which it closes
pub part-too-long : (s : Stream) (row : List ℕ) → is_open s.phase ≡ true → (part : List ℕ) → most - s.total < length part → (g : Given) (new : List ℕ)
    → Offered s row part g new → Refuses (closed s) 0 "TooLong" g × (new ≡ row)
unfolding Offered
part-too-long s row e part l g new h =
    let x = subst (λ (t : Bool). Goes (cond t (cond (ltb (most - s.total) (length part)) refuse_part (taking s row part)) refuse_closed) s (moved s row part) (text_of s row part) (taken_of s row part) row g new) e h in
    subst (λ (t : Bool). Goes (cond t refuse_part (taking s row part)) s (moved s row part) (text_of s row part) (taken_of s row part) row g new) (lt-ltb (most - s.total) (length part) l) x

-- what refused calls say and take
nothing_said : (told : Told) (k : ℕ) → told ≡ tells (own "Closed" k) → (token_in told ≡ []) × (closing_in told ≡ [])
nothing_said told k e = rw e (refl, refl)

nothing-taken : (c : Call) (n : ℕ) → n ≡ 0 → taken_by c n ≡ []
nothing-taken (offer part) n e = rw e
nothing-taken finish n e = refl

-- Once closed: every call is refused, takes nothing and changes nothing.
abbrev pub Refusing : Stream → List ℕ → List Event → Type 0
Refusing s row l = Every (λ e. Refuses s 0 "Closed" e.given × (e.row ≡ row)) l

pub closed-stays : (l : List Event) (s : Stream) (row : List ℕ) → is_closed s.phase ≡ true → Calls s row l → Refusing s row l
unfolding Calls
closed-stays [] s row e h = tt
closed-stays (v ∷ l) s row e (h, t) =
    let (r, row_is) = closed-refuses s row e v.call v.given v.row h in
    let u = subst (λ (q : List ℕ). Calls v.given.stream q l) row_is t in
    ((r, row_is), closed-stays l s row e (subst (λ (q : Stream). Calls q row l) r.left u))

pub refusing-says : (l : List Event) (s : Stream) (row : List ℕ) → Refusing s row l → (tokens l ≡ []) × (closings l ≡ []) × (taken l ≡ []) × (stream_after s l ≡ s)
unfolding tokens closings taken stream_after
refusing-says [] s row h = (refl, refl, refl, refl)
refusing-says (v ∷ l) s row ((r, e), t) =
    let (a, b, c, d) = refusing-says l s row t in
    let (x, y) = nothing_said (values_of v.given.answer) (last_end s) r.told in
    (rw (a, x), rw (b, y), rw (c, nothing-taken v.call v.given.taken r.taken), ap (λ (q : Stream). stream_after q l) r.left ∙ d)

-- what is told from a state on, walked over a text
pub record From (p : Profile) (u : List ℕ) (before : List Legal) (at : ℕ) (s : Stream) (l : List Event) : Type 0 where
  pub to : ℕ
  pub last : last_end (stream_after s l) ≡ to
  pub passes : Passes Short (source p u) before at (tokens l) to
  pub ends : (closings l ≡ []) ⊎ ((a : Answer) × (closings l ≡ a ∷ []) × (Says p u to a ⊎ (a ≡ own "TooLong" to)))

-- a call and what comes behind it
module _ (p : Profile) (u text : List ℕ) (at : ℕ) (f : Phase) (before : List Legal) (s : Stream) (v : Event) (l : List Event) where
  abbrev Behind : Type 0
  Behind = (b : List Legal) (k : ℕ) → Keeps p text k v.given.stream v.row → v.given.stream.phase ≡ f → From p u b k v.given.stream l

  abbrev Stopped : Type 0
  Stopped = v.given.stream.phase ≡ Ph.Closed → (tokens l ≡ []) × (closings l ≡ []) × (stream_after v.given.stream l ≡ v.given.stream)

  -- nothing comes behind what closes the stream
  closes : (a : Answer) → token_in (tells a) ≡ [] → closing_in (tells a) ≡ a ∷ [] → values_of v.given.answer ≡ tells a
      → (tokens l ≡ []) × (closings l ≡ []) × (stream_after v.given.stream l ≡ v.given.stream) → last_end v.given.stream ≡ at
      → Says p u at a ⊎ (a ≡ own "TooLong" at) → From p u before at s (v ∷ l)
  unfolding tokens closings Passes stream_after
  closes a x y e (i, j, m) last h = record { to = at; last = ap last_end m ∙ last; passes = rw (e, x, i) refl; ends = inr (a, rw (e, y, j) refl, h) }

  goes_on : (told : Told) → values_of v.given.answer ≡ told → Left p text at f told v.given.stream v.row
      → ((a : Answer) → told ≡ tells a → Says p u at a) → Behind → Stopped → From p u before at s (v ∷ l)
  unfolding tokens closings Passes stream_after
  goes_on more e (k, ph) says rest stop =
      let r = rest before at k ph in
      record { to = r.to; last = r.last; passes = rw e r.passes; ends = rw e r.ends }
  goes_on (tells (token kind start n next d w)) e (a, b, c, k, ph, at_front) says rest stop =
      let t : Legal = record { kind = kind; start = start; length = n; digits = d; underscores = w } in
      let r = rest (before ++ (t ∷ [])) (at + n) k ph in
      let x = says-next p u at kind start n next d w (says (token kind start n next d w) refl) in
      let y : next ≡ start + n = omega (arith, a, b) in
      record {
        to = r.to;
        last = r.last;
        passes = rw e (a, subst (λ (m : ℕ). Next (source p u) at (token kind start n m d w)) y x, c, r.passes);
        ends = rw e r.ends;
      }
  goes_on (tells (end offset)) e (ph, last) says rest stop = closes (end offset) refl refl e (stop ph) last (inl (says (end offset) refl))
  goes_on (tells (refusal k start n offset)) e (ph, last) says rest stop =
      let a = refusal k start n offset in
      split (eqb k (stream_refusal "Closed"))
      (λ d. let (i, j, m) = stop ph in record { to = at; last = ap last_end m ∙ last; passes = rw (e, i) refl; ends = inl (rw (e, d, j) refl) })
      (λ d. closes a refl (rw d) e (stop ph) last (inl (says a refl)))

module _ (p : Profile) where
  stopped : (l : List Event) (s : Stream) (row : List ℕ) → Calls s row l → s.phase ≡ Ph.Closed
      → (tokens l ≡ []) × (closings l ≡ []) × (taken l ≡ []) × (stream_after s l ≡ s)
  stopped l s row h e = refusing-says l s row (closed-stays l s row (ap is_closed e) h)

  abbrev Ended : List Event → List ℕ → Type 0
  Ended l text =
      (at : ℕ) (s : Stream) (row : List ℕ) → Keeps p text at s row → s.phase ≡ Ph.Ending → Calls s row l
      → (taken l ≡ []) × ((before : List Legal) → From p text before at s l)

  module _ (v : Event) (l : List Event) (text : List ℕ) (rest : Ended l text) (t : Calls v.given.stream v.row l) where
    left-takes : (at : ℕ) (a : Answer) → Left p text at Ph.Ending (tells a) v.given.stream v.row → taken l ≡ []
    left-takes at (token k start n next d u) (a, b, c, w, f, at_front) = (rest (at + n) v.given.stream v.row w f t).0
    left-takes at (end offset) (f, e) = (stopped l v.given.stream v.row t f).2
    left-takes at (refusal k start n offset) (f, e) = (stopped l v.given.stream v.row t f).2

    finish-says : (at : ℕ) (a : Answer) → values_of v.given.answer ≡ tells a → Says p text at a
        → Left p text at Ph.Ending (tells a) v.given.stream v.row → (before : List Legal) (s : Stream) → From p text before at s (v ∷ l)
    finish-says at a told says left before s =
        goes_on p text text at Ph.Ending before s v l (tells a) told left (λ b d. subst (Says p text at) (ap answer_in d) says)
        (λ b i w f. (rest i v.given.stream v.row w f t).1 b)
        (λ f. let (i, j, m, q) = stopped l v.given.stream v.row t f in (i, j, q))

    one_more : (at : ℕ) (s : Stream) (row : List ℕ) → Keeps p text at s row → s.phase ≡ Ph.Ending → (c : Call) → v.call ≡ c
        → Made c s row v.given v.row → (taken (v ∷ l) ≡ []) × ((before : List Legal) → From p text before at s (v ∷ l))
    unfolding taken tokens closings stream_after
    one_more at s row k e (offer part) c h =
        let (r, row_is) = part-refused s row (ap is_open e) part v.given v.row h in
        let there = subst (λ (q : Stream). Calls q row l) r.left (subst (λ (q : List ℕ). Calls v.given.stream q l) row_is t) in
        let (none, told) = rest at s row k e there in
        let (x, y) = nothing_said (values_of v.given.answer) (last_end s) r.told in (
          rw (nothing-taken v.call v.given.taken r.taken) none,
          λ before. let q = told before in record { to = q.to; last = ap (λ (z : Stream). last_end (stream_after z l)) r.left ∙ q.last; passes = rw x q.passes; ends = rw y q.ends },
        )
    one_more at s row k e finish c h =
        let (z, (a, told, says, left)) = finished k v.given v.row (ap is_closed e) h in
        (rw (nothing-taken v.call v.given.taken z) (left-takes at a left), λ before. finish-says at a told says left before s)

  -- no part comes any more
  endings : (l : List Event) (text : List ℕ) → Ended l text
  unfolding Calls taken tokens closings Passes stream_after
  endings [] text at s row k e h = (refl, λ before. record { to = at; last = last-is k; passes = refl; ends = inl refl })
  endings (v ∷ l) text at s row k e (h, t) = one_more v l text (endings l text) t at s row k e v.call refl h

  -- parts come still; behind them any bytes may, if no finish call was made
  abbrev Final : List Event → List ℕ → Type 0
  Final l t = (t ≡ []) ⊎ Unfinished l

  abbrev Going : List Event → Type 0
  Going l =
      (text : List ℕ) (at : ℕ) (s : Stream) (row : List ℕ) → Keeps p text at s row → s.phase ≡ Ph.Open → Calls s row l → (t : List ℕ) → Final l t
      → (u : List ℕ) → u ≡ text ++ taken l ++ t → (before : List Legal) → From p u before at s l

  module _ (v : Event) (l : List Event) (rest : Going l) (t : Calls v.given.stream v.row l) (beyond : List ℕ) where
    abbrev g : Given
    g = v.given

    abbrev told : Told
    told = values_of g.answer

    tail : Final (v ∷ l) beyond → Final l beyond
    tail (inl e) = inl e
    tail (inr (h, r)) = inr r

    -- what an offer says is said of every longer text
    offer-says : (text : List ℕ) (at : ℕ) (part : List ℕ) (n : ℕ) → at ≤ length text → Offers p text at part n told
        → (a : Answer) → told ≡ tells a → Says p (text ++ take n part ++ (taken l ++ beyond)) at a
    offer-says text at part n place o a e = by o.told-so
      where
        by : ((told ≡ more) × (n ≡ length part) × Open p (text ++ take n part) at) ⊎
            ((a : Answer) × (told ≡ tells a) × Settled p (text ++ take n part) at × Says p (text ++ take n part) at a)
            → Says p (text ++ take n part ++ (taken l ++ beyond)) at a
        by (inl (m, i, x)) = absurd (true≢false (ap is_more (sym m ∙ e)))
        by (inr (b, m, settled, says)) =
            settled_says p (text ++ take n part) (taken l ++ beyond) at a (omega (arith, length-append text (take n part))) settled
            (subst (Says p (text ++ take n part) at) (ap answer_in (sym m ∙ e)) says)

    offer-call : (text : List ℕ) (at : ℕ) (s : Stream) (row : List ℕ) → Keeps p text at s row → s.phase ≡ Ph.Open → (part : List ℕ) → v.call ≡ offer part
        → Offered s row part g v.row → Final (v ∷ l) beyond → (u : List ℕ) → u ≡ text ++ taken (v ∷ l) ++ beyond → (before : List Legal) → From p u before at s (v ∷ l)
    unfolding taken last_end
    offer-call text at s row k e part c h fin u eq before =
        split (ltb (most - s.total) (length part))
        (λ f.
        let (r, row_is) = part-too-long s row (ap is_open e) part (ltb-true (most - s.total) (length part) f) g v.row h in
        let (i, j, m, q) = stopped l g.stream v.row t (ap (λ (q : Stream). q.phase) r.left) in
        closes p u text at Ph.Open before s v l (own "TooLong" at) refl refl (r.told ∙ ap (λ (x : ℕ). tells (own "TooLong" x)) (last-is k)) (i, j, q) (ap last_end r.left ∙ last-is k) (inr refl))
        (λ f.
        let (n-is, (offers, left)) = offered k part g v.row (ap is_open e) (ltb-false (most - s.total) (length part) f) h in
        let n = taken_of s row part in
        let later = text ++ take n part in
        let here : taken_by v.call g.taken ≡ take n part = ap (λ (c : Call). taken_by c g.taken) c ∙ ap (λ (i : ℕ). take i part) n-is in
        let whole : u ≡ later ++ (taken l ++ beyond) =
        eq ∙ ap (λ (x : List ℕ). text ++ (x ++ taken l) ++ beyond) here ∙ ap (λ (x : List ℕ). x ++ beyond) (sym (append_assoc text (take n part) (taken l)))
        ∙ append_assoc later (taken l) beyond in
        goes_on p u later at Ph.Open before s v l told refl (subst (λ (f : Phase). Left p later at f told g.stream v.row) e left)
        (λ a d. subst (λ (x : List ℕ). Says p x at a) (sym whole) (offer-says text at part n k.place offers a d))
        (λ b i w d. rest later i g.stream v.row w d t beyond (tail fin) u (whole ∙ sym (append_assoc later (taken l) beyond)) b)
        (λ d. let (i, j, m, q) = stopped l g.stream v.row t d in (i, j, q)))

    next-call : (text : List ℕ) (at : ℕ) (s : Stream) (row : List ℕ) → Keeps p text at s row → s.phase ≡ Ph.Open → (c : Call) → v.call ≡ c
        → Made c s row v.given v.row → Final (v ∷ l) beyond → (u : List ℕ) → u ≡ text ++ taken (v ∷ l) ++ beyond → (before : List Legal) → From p u before at s (v ∷ l)
    unfolding taken
    next-call text at s row k e (offer part) c h fin u eq before = offer-call text at s row k e part c h fin u eq before
    next-call text at s row k e finish c h (inr (o, r)) u eq before = absurd (true≢false (sym o ∙ ap is_offer c))
    next-call text at s row k e finish c h (inl z) u eq before =
        let (i, (a, said, says, left)) = finished k g v.row (ap is_closed e) h in
        let none = left-takes v l text (endings l text) t at a left in
        let same : u ≡ text = eq ∙ rw (nothing-taken v.call g.taken i, none, z) (append-nil (text ++ []) ∙ append-nil text) in
        subst (λ (x : List ℕ). From p x before at s (v ∷ l)) (sym same) (finish-says v l text (endings l text) t at a said says left before s)

  pub goings : (l : List Event) → Going l
  unfolding Calls tokens closings Passes stream_after
  goings [] text at s row k e h t fin u eq before = record { to = at; last = last-is k; passes = refl; ends = inl refl }
  goings (v ∷ l) text at s row k e (h, t) beyond fin u eq before = next-call v l (goings l) t beyond text at s row k e v.call refl h fin u eq before
