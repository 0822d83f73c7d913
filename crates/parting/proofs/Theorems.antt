-- For readers. `said`: what a stream says is what Next gives, up to a lexeme over the limit. `settled-not-open`: a text is settled, or something
-- to come alters its answer, not both.
-- Of a stream behind any calls from `begin` on: `walked`, the tokens, their offsets and the first refusal are those of Next walked over the
-- bytes taken, up to the first lexeme over the limit; `final`, and over every longer text, as long as no finish call was made; `offers`,
-- `no_end`, `too_long`, `finishes`, what one call more tells, takes and leaves; `offered-front`, `finished-front`, where a token's bytes lie; `refused`,
-- `parts-refused`, what is refused behind an end and behind a finish call; `bounded`, and `reached` in Reached.antt, what is held.
-- Of two partings of the same bytes: `same-tokens`, one gave the tokens of the other or the first of them; `same-at-more`, `same-at-end`, both
-- gave the same. That each answer is unique is said by the theorems of `stream`. Assumes nothing.
use Prim.Native.Nat.{ℕ, ◌+◌, ◌≤◌, ◌<◌}
use native.Mathlib.Omega.{arith}
use mathlib.Core.Path.{◌≡◌, refl, sym, ◌∙◌, ap, subst}
use mathlib.Core.Bool.{Bool, true, false, cond, not, true≢false}
use mathlib.Core.List.{List, [], ◌∷◌, ◌++◌, append-nil}
use mathlib.Core.Logic.{◌⊎◌, inl, inr, ⊎_elim}
use lib.Dec.{eqb, leb}
use lib.ListN.{length, take, drop, length-append, length-drop}
use borrow.Author.Tests.{leb-false}
use Rattle.keywords.proofs.Logic.{split}
use Rattle.grammar.specs.declared.profile.Profile.{Profile}
use Rattle.grammar.specs.Classes.{Class, rules}
use Rattle.grammar.specs.Answers.{Answer, token, end, refusal, answer}
use Rattle.grammar.specs.Longest.{Every, Longest, source, Next}
use Rattle.ahead.proofs.Each.{each-class}
use Rattle.walks.specs.Walk.{Legal, Passes}
use Rattle.intake.specs.declared.state.Phase.{Phase}
use Rattle.intake.specs.declared.state.Phase.TheVariants as Ph
use Rattle.intake.specs.declared.state.Stream.{Stream}
use Rattle.stream.specs.declared.stream.Given.{Given}
use Rattle.stream.specs.Refusals.{stream_refusal, own}
use Rattle.parting.specs.Means.{Says, Settled, Open}
use Rattle.intake.specs.Takes.{limit, room, taken_of}
use Rattle.stream.specs.Calls.{Told, more, tells, values_of, most, begun, last_end, closed, is_open, is_closed, Refuses, Offered, Finished}
use Rattle.parting.specs.Histories.{Offers, Call, Event, Made, Calls, stream_after, row_after, taken, tokens, closing_in, closings}
use Rattle.parting.specs.Histories.{last_of, Short, Walked, Unfinished}
use Rattle.parting.proofs.Ready.{some_byte, says-unique, says_some}
use Rattle.parting.proofs.Keeps.{Keeps, Left, begins, last-is, held-limit, offered, finished}
use Rattle.parting.proofs.Walks.{is_token, is_more, answer_in, From, goings, part-refused, part-too-long, closed-refuses}
use Rattle.parting.proofs.Parting.{passes-end, opening, closed-one, open-one}
use Rattle.parting.proofs.Kept.{kept, finish-shuts, stays-shut, fits_after}
use Rattle.parting.proofs.Phases.{some, unclosed-after, open_after, closed_after}

-- what a token leaves at the row's front
abbrev Front : ℕ → ℕ → List ℕ → Stream → List ℕ → Type 0
Front start n text t new = (take n new ≡ take n (drop start text)) × (t.held ≤ n + 2)

left-front : (p : Profile) (text : List ℕ) (at : ℕ) (f : Phase) (told : Told) (t : Stream) (new : List ℕ) (k start n next d u : ℕ)
    → told ≡ tells (token k start n next d u) → Left p text at f told t new → Front start n text t new
left-front p text at f told t new k start n next d u e x =
    let (a, b, c, w, g, (i, j)) = subst (λ (told : Told). Left p text at f told t new) e x in
    (i ∙ ap (λ (m : ℕ). take n (drop m text)) (sym a), j)

-- What is said at a place is what Next gives there, or that its longest lexeme is over the limit.
pub said : (p : Profile) (s : List ℕ) (at : ℕ) (a : Answer) → Says p s at a
    → Next (source p s) at a ⊎ ((c : Class) × (n : ℕ) × Longest (rules p) (drop at s) c n × (limit < n) × (a ≡ own "LexemeTooLong" at))
said p s at a (inl (e, d)) = inl (inr (inl (e, d)))
said p s at a (inr (c, n, x, d)) =
    split (leb n limit)
    (λ l. inl (inr (inr (there, (c, n, x, subst (λ (t : Bool). a ≡ cond t (answer c at (take n (drop at s))) (own "LexemeTooLong" at)) l d)))))
    (λ l. inr (c, n, x, leb-false n limit l, subst (λ (t : Bool). a ≡ cond t (answer c at (take n (drop at s))) (own "LexemeTooLong" at)) l d))
  where
    there : at < length s
    there = omega (arith, some_byte p (drop at s) c n x, length-drop at s)

abbrev is_end : Answer → Bool
is_end (token k start n next d u) = false
is_end (end offset) = true
is_end (refusal k start n offset) = false

-- Some continuation alters the answer, or none does.
pub settled-not-open : (p : Profile) (s : List ℕ) (at : ℕ) → Settled p s at → Open p s at → ⊥
settled-not-open p s at h (t, a, b, x, y, d) = d (says-unique p s at a b x (h t b y))

-- where End is said nothing is settled: one byte more begins a lexeme
class-no-end : (c : Class) (at k : ℕ) (w : List ℕ) → answer c at w ≡ end k → ⊥
unfolding answer
class-no-end c at k w e = true≢false (sym (each-class (λ c. not (is_end (answer c at w))) refl c) ∙ ap (λ (a : Answer). not (is_end a)) e)

no-end-said : (p : Profile) (s : List ℕ) (at k : ℕ) → Says p s at (end k) → at ≡ length s
no-end-said p s at k (inl (e, d)) = e
no-end-said p s at k (inr (c, n, x, d)) =
    split (leb n limit)
    (λ l. absurd (class-no-end c at k (take n (drop at s)) (sym (subst (λ (t : Bool). end k ≡ cond t (answer c at (take n (drop at s))) (own "LexemeTooLong" at)) l d))))
    (λ l. absurd (true≢false (ap is_end (subst (λ (t : Bool). end k ≡ cond t (answer c at (take n (drop at s))) (own "LexemeTooLong" at)) l d))))

unsettled : (p : Profile) (s : List ℕ) (at k : ℕ) → Settled p s at → Says p s at (end k) → ⊥
unsettled p s at k h x =
    let here = no-end-said p s at k x in
    let long = length-append s (0 ∷ []) in
    let (b, y) = says_some p (s ++ 0 ∷ []) at (omega arith) in
    let e = says-unique p s at b (end k) (h (0 ∷ []) b y) x in
    omega (arith, no-end-said p (s ++ 0 ∷ []) at k (subst (Says p (s ++ 0 ∷ []) at) e y))

-- Behind calls from `begin` on.
module _ (p : Profile) (row : List ℕ) (long : length row ≡ room) (l : List Event) (calls : Calls (begun p) row l) where
  abbrev s : Stream
  s = stream_after (begun p) l

  abbrev r : List ℕ
  r = row_after row l

  from : (t : List ℕ) → (t ≡ []) ⊎ Unfinished l → From p (taken l ++ t) [] 0 (begun p) l
  from t f = goings p l [] 0 (begun p) row (begins p row long) refl calls t f (taken l ++ t) refl []

  walk : (t : List ℕ) → (t ≡ []) ⊎ Unfinished l → Walked p (taken l ++ t) l
  walk t f =
      let q = from t f in
      let e = passes-end Short (source p (taken l ++ t)) [] 0 (tokens l) q.to q.passes in
      record {
        passes = subst (Passes Short (source p (taken l ++ t)) [] 0 (tokens l)) e q.passes;
        ends =
            subst (λ (k : ℕ). (closings l ≡ []) ⊎ ((a : Answer) × (closings l ≡ a ∷ []) × (Says p (taken l ++ t) k a ⊎ (a ≡ own "TooLong" k)))) e q.ends;
      }

  -- What was told is what Next gives, walked over the bytes taken.
  pub walked : Walked p (taken l) l
  walked = subst (λ (x : List ℕ). Walked p x l) (append-nil (taken l)) (walk [] (inl refl))

  -- It is so whatever comes behind them, as long as no finish call was made.
  pub final : Unfinished l → (t : List ℕ) → Walked p (taken l ++ t) l
  final f t = walk t (inr f)

  -- The offset that the stream's own refusals carry is the end of the token given last.
  pub last-end : last_end s ≡ last_of l
  last-end = let q = from [] (inl refl) in q.last ∙ passes-end Short (source p (taken l ++ [])) [] 0 (tokens l) q.to q.passes

  unclosed : closings l ≡ [] → is_closed s.phase ≡ false
  unclosed c = unclosed-after l (begun p) row refl calls c

  still_open : Unfinished l → closings l ≡ [] → is_open s.phase ≡ true
  still_open f c = open_after l (begun p) row refl calls f c

  here : closings l ≡ [] → Keeps p (taken l) (last_of l) s r
  here c =
      let (k, w) = kept p l [] 0 (begun p) row (begins p row long) calls (unclosed c) in
      subst (λ (k : ℕ). Keeps p (taken l) k s r) (sym (last-is w) ∙ last-end) w

  -- One more offer, before any finish call and end.
  module _ (f : Unfinished l) (c : closings l ≡ []) (part : List ℕ) (g : Given) (new : List ℕ) (h : Offered s r part g new) where
    abbrev n : ℕ
    n = taken_of s r part

    -- A part that brings the total over the most is refused, and the stream with it; nothing is taken.
    pub too_long : most < length (taken l) + length part → Refuses (closed s) 0 "TooLong" g × (new ≡ r)
    too_long m = let w = here c in part-too-long s r (still_open f c) part (omega (arith, w.total, w.small)) g new h

    module _ (m : length (taken l) + length part ≤ most) where
      result : (g.taken ≡ n) × (Offers p (taken l) (last_of l) part n (values_of g.answer) ×
          Left p (taken l ++ take n part) (last_of l) s.phase (values_of g.answer) g.stream new)
      result = let w = here c in offered w part g new (still_open f c) (omega (arith, w.total)) h

      -- It takes the least that settles what is said behind the token given last, and says it; or all, and wants more.
      pub offers : Offers p (taken l) (last_of l) part g.taken (values_of g.answer)
      offers =
          let (e, (x, y)) = result in
          subst (λ (n : ℕ). Offers p (taken l) (last_of l) part n (values_of g.answer)) (sym e) x

      -- No offer ends the text: something may come still.
      pub no_end : (k : ℕ) → values_of g.answer ≡ tells (end k) → ⊥
      no_end k e =
          ⊎_elim
          (λ (a, b, o). true≢false (ap is_more (sym a ∙ e)))
          (λ (a, told, settled, says). unsettled p (taken l ++ take g.taken part) (last_of l) k settled (subst (Says p (taken l ++ take g.taken part) (last_of l)) (ap answer_in (sym told ∙ e)) says))
          offers.told-so

      -- Where more is wanted, something to come would alter what is said behind the token given last.
      pub more-open : values_of g.answer ≡ more → Open p (taken l ++ take g.taken part) (last_of l)
      more-open e = ⊎_elim (λ (a, b, o). o) (λ (a, b, o, d). absurd (true≢false (ap is_more (sym e ∙ b)))) offers.told-so

      -- A token's bytes lie at the row's front, and at most two are held behind them.
      pub offered-front : (k start b next d u : ℕ) → values_of g.answer ≡ tells (token k start b next d u)
          → (take b new ≡ take b (drop start (taken l ++ take g.taken part))) × (g.stream.held ≤ b + 2)
      offered-front k start b next d u e =
          let (i, (x, y)) = result in
          subst (λ (n : ℕ). Front start b (taken l ++ take n part) g.stream new) (sym i)
          (left-front p (taken l ++ take n part) (last_of l) s.phase (values_of g.answer) g.stream new k start b next d u e y)

  -- One more finish call, before any end: it says what Next gives behind the token given last, and takes nothing.
  module _ (c : closings l ≡ []) (g : Given) (new : List ℕ) (h : Finished s r g new) where
    pub finishes : (g.taken ≡ 0) × ((a : Answer) × (values_of g.answer ≡ tells a) × Next (source p (taken l)) (last_of l) a)
    finishes =
        let w = here c in
        let (z, (a, told, says, left)) = finished w g new (unclosed c) h in
        let next = ⊎_elim (λ x. x) (λ (c, n, x, long, e). absurd (omega (arith, held-limit w c n x))) (said p (taken l) (last_of l) a says) in
        (z, (a, told, next))

    pub finished-front : (k start b next d u : ℕ) → values_of g.answer ≡ tells (token k start b next d u)
        → (take b new ≡ take b (drop start (taken l))) × (g.stream.held ≤ b + 2)
    finished-front k start b next d u e =
        let (z, (a, told, says, left)) = finished (here c) g new (unclosed c) h in
        left-front p (taken l) (last_of l) Ph.Ending (tells a) g.stream new k start b next d u (sym told ∙ e) left

  -- Behind End, and behind a refusal other than Closed, every call is refused, and nothing changes.
  pub refused : (a : Answer) → closings l ≡ a ∷ [] → (call : Call) (g : Given) (new : List ℕ) → Made call s r g new → Refuses s 0 "Closed" g × (new ≡ r)
  refused a e call g new h = closed-refuses s r (closed_after l (begun p) row calls (ap some e)) call g new h

  -- Never are more bytes held than a lexeme has and two more.
  pub bounded : s.held ≤ limit + 2
  bounded = (fits_after l (begun p) row ((omega arith, omega arith), long) calls).0.1

-- Behind a finish call every part is refused, and nothing changes; finish calls go on (`finishes`).
pub parts-refused : (s : Stream) (row : List ℕ) (g : Given) (new : List ℕ) → Finished s row g new → (l : List Event) → Calls g.stream new l
    → (part : List ℕ) (h : Given) (after : List ℕ) → Offered (stream_after g.stream l) (row_after new l) part h after
    → Refuses (stream_after g.stream l) 0 "Closed" h × (after ≡ row_after new l)
parts-refused s row g new f l c part h after o =
    part-refused (stream_after g.stream l) (row_after new l) (stays-shut l g.stream new c (finish-shuts s row g new f)) part h after o

-- no closing answer is a token
closing-no-token : (told : Told) → Every (λ a. is_token a ≡ false) (closing_in told)
closing-no-token more = tt
closing-no-token (tells (token k start n next d u)) = tt
closing-no-token (tells (end offset)) = (refl, tt)
closing-no-token (tells (refusal k start n offset)) = split (eqb k (stream_refusal "Closed")) (λ e. rw e tt) (λ e. rw e (refl, tt))

every_append : {A : Type 0} (q : A → Type 0) (x y : List A) → Every q x → Every q y → Every q (x ++ y)
every_append q [] y h i = i
every_append q (a ∷ x) y (h, t) i = (h, every_append q x y t i)

closings-no-token : (l : List Event) → Every (λ a. is_token a ≡ false) (closings l)
unfolding closings
closings-no-token [] = tt
closings-no-token (e ∷ l) = every_append (λ a. is_token a ≡ false) (closing_in (values_of e.given.answer)) (closings l) (closing-no-token (values_of e.given.answer)) (closings-no-token l)

abbrev first : List Answer → Answer
first [] = end 0
first (a ∷ l) = a

-- Two partings of the same bytes.
module _ (p : Profile) (row row' : List ℕ) (long : length row ≡ room) (long' : length row' ≡ room) (l l' : List Event)
    (calls : Calls (begun p) row l) (calls' : Calls (begun p) row' l') (same : taken l ≡ taken l') where
  -- One gave the tokens of the other, or the first of them.
  pub same-tokens : ((x : List Legal) × (tokens l ++ x ≡ tokens l')) ⊎ ((x : List Legal) × (tokens l' ++ x ≡ tokens l))
  same-tokens =
      let w = walked p row long l calls in
      let v = subst (λ (t : List ℕ). Walked p t l') (sym same) (walked p row' long' l' calls') in
      opening p (taken l) [] 0 (tokens l) (tokens l') (last_of l) (last_of l') w.passes v.passes

  -- Where both have come to their end, by End or a refusal of Next or of a lexeme over the limit, both gave the same.
  pub same-at-end : (a b : Answer) → closings l ≡ a ∷ [] → closings l' ≡ b ∷ [] → ((k : ℕ) → a ≡ own "TooLong" k → ⊥) → ((k : ℕ) → b ≡ own "TooLong" k → ⊥)
      → (tokens l ≡ tokens l') × (a ≡ b)
  same-at-end a b e f x y =
      let w = walked p row long l calls in
      let v = subst (λ (t : List ℕ). Walked p t l') (sym same) (walked p row' long' l' calls') in
      let s = ended (last_of l) (closings l) e w.ends x in
      let t = ended (last_of l') (closings l') f v.ends y in
      let (i, j) = closed-one p (taken l) [] 0 (tokens l) (tokens l') (last_of l) (last_of l') w.passes v.passes (a, head a (closings l) e (closings-no-token l), s) (b, head b (closings l') f (closings-no-token l'), t) in
      (i, says-unique p (taken l) (last_of l') a b (subst (λ (k : ℕ). Says p (taken l) k a) j s) t)
    where
      ended : {a : Answer} (to : ℕ) (c : List Answer) → c ≡ a ∷ [] → (c ≡ []) ⊎ ((b : Answer) × (c ≡ b ∷ []) × (Says p (taken l) to b ⊎ (b ≡ own "TooLong" to)))
          → ((k : ℕ) → a ≡ own "TooLong" k → ⊥) → Says p (taken l) to a
      ended to c e (inl d) x = absurd (true≢false (ap some (sym e ∙ d)))
      ended to c e (inr (b, d, inl h)) x = subst (Says p (taken l) to) (ap first (sym d ∙ e)) h
      ended to c e (inr (b, d, inr h)) x = absurd (x to (ap first (sym e ∙ d) ∙ h))

      head : (a : Answer) (c : List Answer) → c ≡ a ∷ [] → Every (λ a. is_token a ≡ false) c → is_token a ≡ false
      head a c e h = (subst (Every (λ a. is_token a ≡ false)) e h).0

  -- Where both want more, both gave the same tokens.
  pub same-at-more : Unfinished l → Unfinished l' → Open p (taken l) (last_of l) → Open p (taken l') (last_of l') → tokens l ≡ tokens l'
  same-at-more f f' o o' =
      (open-one p (taken l) [] 0 (tokens l) (tokens l') (last_of l) (last_of l')
      (λ t. (final p row long l calls f t).passes)
      (λ t. subst (λ (x : List ℕ). Passes Short (source p (x ++ t)) [] 0 (tokens l') (last_of l')) (sym same) (final p row' long' l' calls' f' t).passes)
      o (subst (λ (x : List ℕ). Open p x (last_of l')) (sym same) o')).0
