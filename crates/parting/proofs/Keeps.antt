-- What a stream's state keeps of the bytes that were taken, and what each call makes of that. Assumes nothing.
use Prim.Native.Nat.{ℕ, zero, suc, ◌+◌, ◌-◌, ◌≤◌, ◌<◌}
use native.Mathlib.Omega.{arith}
use native.Mathlib.Nat.{add-zero}
use mathlib.Core.Path.{◌≡◌, refl, sym, ◌∙◌, ap, subst}
use mathlib.Core.Bool.{Bool, true, false, cond, true≢false}
use mathlib.Core.List.{List, [], ◌∷◌, ◌++◌, append-nil, append_assoc}
use mathlib.Core.Logic.{◌⊎◌, inl, inr, ⊎_elim}
use lib.Dec.{eqb, leb, ltb}
use lib.ListN.{length, take, drop, get_or, length-append, length-drop}
use lib.Seq.{length-take-le, take-append_seam, drop-append-le, drop-drop, take-append-add, take-append-le, take-take, take-suc}
use borrow.Author.Tests.{ne_eqb, eqb-true, eqb-false, leb-true, leb-false, ltb-true, ltb-false}
use Rattle.keywords.proofs.Logic.{split}
use Rattle.grammar.specs.declared.profile.Profile.{Profile}
use Rattle.grammar.specs.Classes.{Class, rules}
use Rattle.grammar.specs.Answers.{Answer, token, end, refusal}
use Rattle.grammar.specs.Longest.{Longest, Gives}
use Rattle.readings.specs.declared.reading.Reading.{Reading}
use Rattle.readings.specs.declared.reading.Reading.TheVariants.{Start}
use Rattle.readings.specs.Arrows.{onward, onwards, reading, is_settled}
use Rattle.readings.proofs.Settled.{onwards-append, one-behind}
use Rattle.intake.specs.declared.state.Phase.{Phase}
use Rattle.intake.specs.declared.state.Phase.TheVariants as Ph
use Rattle.intake.specs.declared.state.Stream.{Stream}
use Rattle.stream.specs.declared.stream.Given.{Given}
use Rattle.stream.specs.Refusals.{own}
use Rattle.parting.specs.Means.{Says, Settled, Open}
use Rattle.intake.specs.Takes.{limit, room, is_over, is_ready, takes, front, waiting, read_now, taken_of, text_of, read_then, ready_then}
use Rattle.stream.specs.Calls.{Told, more, tells, values_of, most, begun, last_end, shift, passed, after, ended, closed}
use Rattle.stream.specs.Calls.{moved, Answers, Goes, refuse_closed, ask_more, refuse_lexeme, lex, Course, is_open, is_closed, Offered, Finished}
use Rattle.parting.specs.Histories.{Offers}
use Rattle.intake.proofs.TakeLaws.{unready-room}
use Rattle.stream.proofs.CallLaws.{takes_part, takes-room, allowed}
use Rattle.stream.proofs.Inside.{token-long}
use Rattle.parting.proofs.Ready.{ready-settled, unready-open, unready-told, over-says, gives-says, short-lexeme, two-behind}

-- The bytes s were taken, and the token given last ends at an offset of them: what is behind that is held, and its reading is known. It is
-- at most two bytes, or more is wanted.
pub record Keeps (p : Profile) (text : List ℕ) (at : ℕ) (s : Stream) (row : List ℕ) : Type 0 where
  pub profile : s.profile ≡ p
  pub long : length row ≡ room
  pub place : at ≤ length text
  pub small : length text ≤ most
  pub holds : waiting s row ≡ drop at text
  pub count : s.held - s.given ≡ length (waiting s row)
  pub total : s.total ≡ length text
  pub reads : read_now s row ≡ reading p (drop at text)
  pub short : (is_ready room (reading p (drop at text)) (length (drop at text)) ≡ false) ⊎ (length (drop at text) ≤ 2)

pub begins : (p : Profile) (row : List ℕ) → length row ≡ room → Keeps p [] 0 (begun p) row
unfolding is_ready is_over is_settled
begins p row l =
    record { profile = refl; long = l; place = omega arith; small = omega arith; holds = refl; count = refl; total = refl; reads = refl; short = inl refl }

-- where fewer bytes were taken, one more was wanted; where some are left, none is
pub takes-before : (full : ℕ) (p : Profile) (r : Reading) (h : ℕ) (part : List ℕ) (i : ℕ) → i < takes full p r h part
    → is_ready full (onwards p r (take i part)) (h + i) ≡ false
unfolding takes
takes-before full p r h [] i l = absurd (omega arith)
takes-before full p r h (b ∷ s) zero l =
    split (is_ready full r h)
    (λ e. absurd (omega (arith, ready r h b s e)))
    (λ e. ap (is_ready full r) (add-zero h) ∙ e)
  where
    ready : (r : Reading) (h b : ℕ) (s : List ℕ) → is_ready full r h ≡ true → takes full p r h (b ∷ s) ≡ 0
    ready r h b s e = rw e
takes-before full p r h (b ∷ s) (suc i) l =
    split (is_ready full r h)
    (λ e. absurd (omega (arith, subst (λ (t : Bool). suc i < cond t 0 (suc (takes full p (onward p r b) (suc h) s))) e l)))
    (λ e.
    let m = subst (λ (t : Bool). suc i < cond t 0 (suc (takes full p (onward p r b) (suc h) s))) e l in
    let k : h + suc i ≡ suc h + i = omega arith in
    ap (is_ready full (onwards p (onward p r b) (take i s))) k ∙ takes-before full p (onward p r b) (suc h) s i (omega arith))

pub takes-after : (full : ℕ) (p : Profile) (r : Reading) (h : ℕ) (part : List ℕ) → takes full p r h part < length part
    → is_ready full (onwards p r (take (takes full p r h part) part)) (h + takes full p r h part) ≡ true
unfolding takes
takes-after full p r h [] l = absurd (omega arith)
takes-after full p r h (b ∷ s) l =
    split (is_ready full r h)
    (λ e. rw (e, add-zero h) e)
    (λ e.
    let m = subst (λ (t : Bool). cond t 0 (suc (takes full p (onward p r b) (suc h) s)) < length (b ∷ s)) e l in
    let n = takes full p (onward p r b) (suc h) s in
    let k : h + suc n ≡ suc h + n = omega arith in
    rw e (ap (is_ready full (onwards p (onward p r b) (take n s))) k ∙ takes-after full p (onward p r b) (suc h) s (omega arith)))

front_long : (text row : List ℕ) → length text ≤ length row → length (front text row) ≡ length row
front_long text row l = omega (arith, length-append text (drop (length text) row), length-drop (length text) row)

-- a state that holds what is behind an offset, of which the first q bytes were given
keeps-behind : (p : Profile) (text : List ℕ) (at : ℕ) (x : List ℕ) (m : Stream) (row : List ℕ) (q : ℕ) → x ≡ drop at text → at ≤ length text
    → length text ≤ most → m.profile ≡ p → m.held ≡ length x → m.given ≡ q → m.total ≡ length text → length row ≡ room → length x ≤ room → q ≤ length x
    → cond (eqb q 0) m.reading (onwards p m.reading (drop q x)) ≡ reading p (drop q x)
    → (is_ready room (reading p (drop q x)) (length (drop q x)) ≡ false) ⊎ (length (drop q x) ≤ 2) → Keeps p text (at + q) m (front x row)
keeps-behind p text at x m row q e place small profile held given total long fits inside reads short =
    let here : waiting m (front x row) ≡ drop q x = rw (given, held) (ap (drop q) (take-append_seam x (drop (length x) row))) in
    let there : drop q x ≡ drop (at + q) text = ap (drop q) e ∙ drop-drop q at text in
    record {
      profile = profile;
      long = front_long x row (omega arith) ∙ long;
      place = omega (arith, ap length e, length-drop at text);
      small = small;
      holds = here ∙ there;
      count = omega (arith, ap length here, length-drop q x);
      total = total;
      reads =
          ap (λ (g : ℕ). now g m.profile (waiting m (front x row))) given ∙ ap (λ (π : Profile). now q π (waiting m (front x row))) profile
          ∙ ap (now q p) here ∙ reads ∙ ap (reading p) there;
      short = subst (λ (w : List ℕ). (is_ready room (reading p w) (length w) ≡ false) ⊎ (length w ≤ 2)) there short;
    }
  where
    now : ℕ → Profile → List ℕ → Reading
    now g π v = cond (eqb g 0) m.reading (onwards π m.reading v)

-- what a call leaves, by what it tells: a token given starts where the one before ends, its bytes lie at the row's front, and at most two are
-- held behind them
abbrev pub Left : Profile → List ℕ → ℕ → Phase → Told → Stream → List ℕ → Type 0
Left p text at f more s row = Keeps p text at s row × (s.phase ≡ f)
Left p text at f (tells (token kind start n next digits underscores)) s row =
    (start ≡ at) × (next ≡ at + n) × (n ≤ limit) × Keeps p text (at + n) s row × (s.phase ≡ f) ×
    ((take n row ≡ take n (drop at text)) × (s.held ≤ n + 2))
Left p text at f (tells (end offset)) s row = (s.phase ≡ Ph.Closed) × (last_end s ≡ at)
Left p text at f (tells (refusal number start n offset)) s row = (s.phase ≡ Ph.Closed) × (last_end s ≡ at)

-- the bytes x, which a state m holds, are lexed
module _ (p : Profile) (text : List ℕ) (at : ℕ) (x : List ℕ) (m : Stream) (row : List ℕ) (e : x ≡ drop at text) (place : at ≤ length text)
    (small : length text ≤ most) (profile : m.profile ≡ p) (held : m.held ≡ length x) (given : m.given ≡ 0) (total : m.total ≡ length text) (long : length row ≡ room)
    (fits : length x ≤ room) where
  pub last-here : last_end m ≡ at
  unfolding last_end
  last-here = omega (arith, held, given, total, place, ap length e, length-drop at text)

  pub held_keeps : m.reading ≡ reading p x → is_ready room (reading p x) (length x) ≡ false → Keeps p text at m (front x row)
  held_keeps r u =
      subst (λ (k : ℕ). Keeps p text k m (front x row)) (add-zero at)
      (keeps-behind p text at x m row 0 e place small profile held given total long fits (omega arith) r (inl u))

  module _ (short : (c : Class) (k : ℕ) → Longest (rules p) x c k → k ≤ limit) (two : (c : Class) (k : ℕ) → Longest (rules p) x c k → length x ≤ k + 2) where
    says : (a : Answer) → Gives (rules p) x 0 a → Says p text at (shift at a)
    says a h =
        gives-says p text at a place (subst (λ (v : List ℕ). (c : Class) (k : ℕ) → Longest (rules p) v c k → k ≤ limit) e short)
        (subst (λ (v : List ℕ). Gives (rules p) v 0 a) e h)

    leaves : (a : Answer) → Gives (rules p) x 0 a → Left p text at m.phase (tells (shift at a)) (after m a) (front x row)
    unfolding last_end
    leaves (token kind start n next d u) h =
        let (zero_is, next-is, some, inside, (c, z)) = token-long p x kind start n next d u h in
        let none : eqb n 0 ≡ false = ne_eqb n 0 (λ q. omega (arith, q)) in
        let keeps = keeps-behind p text at x (passed m n) row n e place small profile held refl total long fits inside (rw none) (inr (omega (arith, two c n z, length-drop n x))) in
        let at_front = take-append-le n x (drop (length x) row) inside ∙ ap (take n) e in
        (omega arith, omega arith, short c n z, keeps, refl, (at_front, omega (arith, held, two c n z)))
    leaves (end offset) h = (refl, last-here)
    leaves (refusal number start n offset) h = (refl, last-here)

    pub lexed : (n : ℕ) (g : Given) → Answers m x n g
        → (a : Answer) × (values_of g.answer ≡ tells a) × Says p text at a × Left p text at m.phase (tells a) g.stream (front x row)
    lexed n g r =
        let h = subst (λ (π : Profile). Gives (rules π) x 0 r.next) profile r.gives in (
          shift at r.next,
          r.told ∙ ap (λ (k : ℕ). tells (shift k r.next)) last-here,
          says r.next h,
          subst (λ (t : Stream). Left p text at m.phase (tells (shift at r.next)) t (front x row)) (sym r.left) (leaves r.next h),
        )

module _ {p : Profile} {text : List ℕ} {at : ℕ} {s : Stream} {row : List ℕ} (k : Keeps p text at s row) where
  abbrev w : List ℕ
  w = drop at text

  -- the end of the token given last is no field
  pub last-is : last_end s ≡ at
  unfolding last_end
  last-is = omega (arith, k.count, k.total, k.place, ap length k.holds, length-drop at text)

  held-short : length w ≤ room
  held-short = ⊎_elim (λ e. omega (arith, unready-room room (reading p w) (length w) e)) (λ l. omega arith) k.short

  module _ (part : List ℕ) where
    abbrev pub n : ℕ
    n = taken_of s row part

    abbrev pub x : List ℕ
    x = w ++ take n part

    abbrev pub later : List ℕ
    later = text ++ take n part

    pub taken_is : n ≡ takes room p (reading p w) (length w) part
    taken_is =
        let h = length (waiting s row) in
        ap (λ (full : ℕ). takes full s.profile (read_now s row) h part) k.long ∙ ap (λ (π : Profile). takes room π (read_now s row) h part) k.profile
        ∙ ap (λ (r : Reading). takes room p r h part) k.reads ∙ ap (λ (v : List ℕ). takes room p (reading p w) (length v) part) k.holds

    text-is : text_of s row part ≡ x
    text-is = ap (λ (v : List ℕ). v ++ take n part) k.holds

    pub behind-is : (i : ℕ) → drop at (text ++ take i part) ≡ w ++ take i part
    behind-is i = drop-append-le at text (take i part) k.place

    reading-is : (i : ℕ) → onwards p (reading p w) (take i part) ≡ reading p (w ++ take i part)
    reading-is i = sym (onwards-append p w (take i part) Start)

    then_is : read_then s row part ≡ reading p x
    then_is =
        ap (λ (π : Profile). onwards π (read_now s row) (take n part)) k.profile ∙ ap (λ (r : Reading). onwards p r (take n part)) k.reads
        ∙ reading-is n

    pub inside : n ≤ length part
    inside = omega (arith, taken_is, takes_part room p (reading p w) (length w) part)

    long-is : (i : ℕ) → i ≤ length part → length (w ++ take i part) ≡ length w + i
    long-is i l = length-append w (take i part) ∙ ap (λ (m : ℕ). length w + m) (length-take-le i part l)

    x-long : length x ≡ length w + n
    x-long = long-is n inside

    x-short : length x ≤ room
    x-short = omega (arith, x-long, taken_is, takes-room room p (reading p w) (length w) part held-short)

    -- of fewer bytes something to come would alter the answer
    unready : (i : ℕ) → i < n → is_ready room (reading p (w ++ take i part)) (length (w ++ take i part)) ≡ false
    unready i l =
        let m = subst (λ (n : ℕ). i < n) taken_is l in
        ap (λ (r : Reading). is_ready room r (length (w ++ take i part))) (sym (reading-is i))
        ∙ ap (is_ready room (onwards p (reading p w) (take i part))) (long-is i (omega (arith, inside)))
        ∙ takes-before room p (reading p w) (length w) part i m

    place_in : (i : ℕ) → at ≤ length (text ++ take i part)
    place_in i = omega (arith, k.place, length-append text (take i part))

    pub open-before : (i : ℕ) → i < n → Open p (text ++ take i part) at
    open-before i l =
        unready-open p (text ++ take i part) at (place_in i)
        (subst (λ (v : List ℕ). is_ready room (reading p v) (length v) ≡ false) (sym (behind-is i)) (unready i l))

    -- no lexeme over the limit is lexed
    over_first : is_over (reading p x) (length x) ≡ false → (c : Class) (m : ℕ) → Longest (rules p) x c m → m ≤ limit
    over_first e =
        split (leb (length x) limit)
        (λ l. short-lexeme p x (inl (leb-true (length x) limit l)))
        (λ l.
        let m = leb-false (length x) limit l in
        split (leb (length x) (limit + 1))
        (λ l. short-lexeme p x (inr (inl (e, leb-true (length x) (limit + 1) l))))
        (λ l. short-lexeme p x (inr (inr (e, one_less (omega (arith, x-short, leb-false (length x) (limit + 1) l)), omega (arith, x-short))))))
      where
        one_less : length x ≡ limit + 2 → is_over (reading p (take (limit + 1) x)) (limit + 1) ≡ false
        one_less f =
            let some : 0 < n = ⊎_elim (λ u. omega (arith, x-long, unready-room room (reading p w) (length w) u)) (λ u. omega (arith, x-long)) k.short in
            let i = n - 1 in
            let l : i < n = omega arith in
            let m : length w + i ≡ limit + 1 = omega (arith, x-long) in
            let v : take (limit + 1) x ≡ w ++ take i part =
            ap (λ (j : ℕ). take j x) (sym m) ∙ take-append-add w (take n part) i ∙ ap (λ (u : List ℕ). w ++ u) (take-take i n part (omega arith)) in
            let h : length (w ++ take i part) ≡ limit + 1 = omega (arith, long-is i (omega (arith, inside)), m) in
            let (a, b, c) = unready-told (reading p (w ++ take i part)) (length (w ++ take i part)) (unready i l) in
            ap (λ (u : List ℕ). is_over (reading p u) (limit + 1)) v ∙ ap (is_over (reading p (w ++ take i part))) (sym h) ∙ b

    pub overs : is_over (reading p x) (length x) ≡ true → Says p later at (own "LexemeTooLong" at)
    overs e = over-says p later at (subst (λ (v : List ℕ). is_over (reading p v) (length v) ≡ true) (sym (behind-is n)) e)

    ready-is : ready_then s row part ≡ is_ready room (reading p x) (length x)
    ready-is =
        ap (λ (full : ℕ). is_ready full (read_then s row part) (length (text_of s row part))) k.long
        ∙ ap (λ (r : Reading). is_ready room r (length (text_of s row part))) then_is ∙ ap (λ (v : List ℕ). is_ready room (reading p x) (length v)) text-is

    over-is : is_over (read_then s row part) (length (text_of s row part)) ≡ is_over (reading p x) (length x)
    over-is = ap (λ (r : Reading). is_over r (length (text_of s row part))) then_is ∙ ap (λ (v : List ℕ). is_over (reading p x) (length v)) text-is

    pub settled-then : is_ready room (reading p x) (length x) ≡ true → Settled p later at
    settled-then e =
        ready-settled p later at (place_in n) (subst (λ (v : List ℕ). is_ready room (reading p v) (length v) ≡ true) (sym (behind-is n)) e)

    pub open-then : is_ready room (reading p x) (length x) ≡ false → Open p later at
    open-then e =
        unready-open p later at (place_in n) (subst (λ (v : List ℕ). is_ready room (reading p v) (length v) ≡ false) (sym (behind-is n)) e)

    -- where some of the part is left, the answer is settled
    all-taken : is_ready room (reading p x) (length x) ≡ false → n ≡ length part
    all-taken e =
        split (ltb n (length part))
        (λ l.
        let m = subst (λ (n : ℕ). n < length part) taken_is (ltb-true n (length part) l) in
        let f = takes-after room p (reading p w) (length w) part m in
        let g = subst (λ (n : ℕ). is_ready room (onwards p (reading p w) (take n part)) (length w + n) ≡ true) (sym taken_is) f in
        let h = ap (λ (r : Reading). is_ready room r (length x)) (sym (reading-is n)) ∙ ap (is_ready room (onwards p (reading p w) (take n part))) x-long ∙ g in
        absurd (true≢false (sym h ∙ e)))
        (λ l. omega (arith, inside, ltb-false n (length part) l))

    two-more : is_ready room (reading p x) (length x) ≡ true → (c : Class) (m : ℕ) → Longest (rules p) x c m → length x ≤ m + 2
    two-more e c m z = split (eqb n 0) (λ f. none (eqb-true n 0 f)) (λ f. some (eqb-false n 0 f))
      where
        none : n ≡ 0 → length x ≤ m + 2
        none f =
            let same : x ≡ w = ap (λ (i : ℕ). w ++ take i part) f ∙ append-nil w in
            ⊎_elim
            (λ u. absurd (true≢false (sym (subst (λ (v : List ℕ). is_ready room (reading p v) (length v) ≡ true) same e) ∙ u)))
            (λ l. omega (arith, ap length same))
            k.short

        some : (n ≡ 0 → ⊥) → length x ≤ m + 2
        some f =
            let i = n - 1 in
            let l : i < n = omega (arith, f) in
            let in-part : i < length part = omega (arith, inside) in
            let b = get_or part i 0 in
            let next-is : n ≡ suc i = omega (arith, l) in
            let snoc : x ≡ w ++ take i part ++ b ∷ [] =
            ap (λ (j : ℕ). w ++ take j part) next-is ∙ ap (λ (v : List ℕ). w ++ v) (take-suc part i 0 in-part) ∙ sym (append_assoc w (take i part) (b ∷ [])) in
            let (a, o, h) = unready-told (reading p (w ++ take i part)) (length (w ++ take i part)) (unready i l) in
            omega (arith, ap length snoc, two-behind p (w ++ take i part) b c m a (subst (λ (v : List ℕ). Longest (rules p) v c m) snoc z))

    later-long : length later ≡ length text + n
    later-long = length-append text (take n part) ∙ ap (λ (m : ℕ). length text + m) (length-take-le n part inside)

    later-small : length part ≤ most - s.total → length later ≤ most
    later-small l = omega (arith, later-long, inside, k.total, k.small)

    abbrev m : Stream
    m = moved s row part

    m-held : m.held ≡ length x
    m-held = ap length text-is

    m-total : m.total ≡ length later
    m-total = omega (arith, k.total, later-long)

    -- what an offer tells and leaves
    abbrev pub Result : Told → Stream → List ℕ → Type 0
    Result told t new = Offers p text at part n told × Left p later at s.phase told t new

    result_as : (told told' : Told) (t t' : Stream) (new new' : List ℕ) → told ≡ told' → t ≡ t' → new ≡ new' → Result told' t' new' → Result told t new
    result_as told told' t t' new new' a b c r =
        subst (λ (u : Told). Result u t new) (sym a) (subst (λ (u : Stream). Result told' u new) (sym b) (subst (Result told' t') (sym c) r))

    settles : (told : Told) (a : Answer) → told ≡ tells a → is_ready room (reading p x) (length x) ≡ true → Says p later at a → Offers p text at part n told
    settles told a t e h = record { inside = inside; before = open-before; told-so = inr (a, t, settled-then e, h) }

    by-course : length part ≤ most - s.total → (ready over : Bool) → is_ready room (reading p x) (length x) ≡ ready → is_over (reading p x) (length x) ≡ over → (g : Given) (new : List ℕ)
        → Goes (cond ready (cond over refuse_lexeme lex) ask_more) s m (text_of s row part) n row g new
        → (g.taken ≡ n) × Result (values_of g.answer) g.stream new
    unfolding last_end
    by-course q false over e f g new (r, row_is) =
        let keeps = held_keeps p later at x m row (sym (behind-is n)) (place_in n) (later-small q) k.profile m-held refl m-total k.long x-short then_is e in
        let offers : Offers p text at part n more = record { inside = inside; before = open-before; told-so = inl (refl, all-taken e, open-then e) } in
        (r.taken, result_as _ more _ m _ _ r.told r.left (row_is ∙ ap (λ (v : List ℕ). front v row) text-is) (offers, (keeps, refl)))
    by-course q true true e f g new (r, row_is) =
        let last = last-here p later at x m row (sym (behind-is n)) (place_in n) (later-small q) k.profile m-held refl m-total k.long x-short in
        let told = r.told ∙ ap (λ (i : ℕ). tells (own "LexemeTooLong" i)) last in
        (r.taken, result_as _ (tells (own "LexemeTooLong" at)) _ (closed m) _ new told r.left refl (settles _ _ refl e (overs f), (refl, last)))
    by-course q true false e f g new (r, row_is) =
        let (a, told, says, left) =
        lexed p later at x m row (sym (behind-is n)) (place_in n) (later-small q) k.profile m-held refl m-total k.long x-short (over_first f) (two-more e) n g
        (subst (λ (v : List ℕ). Answers m v n g) text-is r) in
        (r.taken, result_as _ (tells a) _ g.stream _ _ told refl (row_is ∙ ap (λ (v : List ℕ). front v row) text-is) (settles _ _ refl e says, left))

    -- An open stream, offered a part that is not too long.
    pub offered : (g : Given) (new : List ℕ) → is_open s.phase ≡ true → length part ≤ most - s.total → Offered s row part g new
        → (g.taken ≡ n) × Result (values_of g.answer) g.stream new
    unfolding Offered
    offered g new o l h =
        let taking = subst (λ (c : Course). Goes c s m (text_of s row part) n row g new) (allowed s row part o l) h in
        let y = subst (λ (t : Bool). Goes (cond t (cond (is_over (read_then s row part) (length (text_of s row part))) refuse_lexeme lex) ask_more) s m (text_of s row part) n row g new) ready-is taking in
        let z = subst (λ (t : Bool). Goes (cond (is_ready room (reading p x) (length x)) (cond t refuse_lexeme lex) ask_more) s m (text_of s row part) n row g new) over-is y in
        by-course l (is_ready room (reading p x) (length x)) (is_over (reading p x) (length x)) refl refl g new z

  -- no lexeme over the limit is held
  pub held-limit : (c : Class) (m : ℕ) → Longest (rules p) w c m → m ≤ limit
  held-limit =
      ⊎_elim
      (λ u. let (a, o, h) = unready-told (reading p w) (length w) u in short-lexeme p w (inr (inl (o, h))))
      (λ l. short-lexeme p w (inl (omega arith)))
      k.short

  held_two : (c : Class) (m : ℕ) → Longest (rules p) w c m → length w ≤ m + 2
  held_two c m z =
      ⊎_elim
      (λ u. let (a, o, h) = unready-told (reading p w) (length w) u in omega (arith, one-behind p w c m a z))
      (λ l. omega arith)
      k.short

  -- A finish call of a stream that is not closed.
  pub finished : (g : Given) (new : List ℕ) → is_closed s.phase ≡ false → Finished s row g new
      → (g.taken ≡ 0) × ((a : Answer) × (values_of g.answer ≡ tells a) × Says p text at a × Left p text at Ph.Ending (tells a) g.stream new)
  unfolding Finished
  finished g new o h =
      let v = waiting s row in
      let m = ended s (length v) in
      let (r, row_is) = subst (λ (t : Bool). Goes (cond t refuse_closed lex) s m v 0 row g new) o h in
      let y = subst (λ (u : List ℕ). Answers m u 0 g) k.holds r in
      let (a, told, says, left) =
      lexed p text at w m row refl k.place k.small k.profile (ap length k.holds) refl k.total k.long held-short held-limit held_two 0 g y in
      (r.taken, (a, told, says, subst (Left p text at Ph.Ending (tells a) g.stream) (sym (row_is ∙ ap (λ (u : List ℕ). front u row) k.holds)) left))
