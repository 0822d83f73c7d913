-- The row, byte by byte: what is brought to its front, and what is taken in behind that. Assumes nothing.
use Prim.Native.Nat.{ℕ, suc, ◌+◌, ◌-◌, ◌≤◌, ◌<◌, min}
use native.Mathlib.Omega.{arith}
use native.Mathlib.Nat.{add_comm, zero-add, add-zero}
use native.Mathlib.Numerals.{add-one}
use mathlib.Core.Path.{◌≡◌, refl, sym, ◌∙◌, ap, subst}
use mathlib.Core.Bool.{Bool, true, false, cond, ◌||◌, true≢false}
use mathlib.Core.List.{List, [], ◌∷◌, ◌++◌, append-nil}
use mathlib.Core.Logic.{◌⊎◌, inl, inr}
use lib.Dec.{leb, ltb, eqb}
use lib.ListN.{length, take, drop, get_or, set, length-append, length-take, length-drop, length-set, take-append-drop, drop_of_length-le, get_or-append}
use lib.Seq.{take-suc, drop-cons, append_snoc, set_at, length-take-le, take_all, take-length, take-append_seam, drop-append_seam, take-append-add}
use lib.Seq.{drop-append-add, drop-drop, get_or-append-add, get_or-drop, get_or-take, drop-length}
use borrow.Author.Tests.{ltb-true, ltb-false, leb-true, leb-false, eqb-true, le-ltb}
use Rattle.keywords.proofs.Logic.{split}
use Rattle.grammar.specs.declared.profile.Profile.{Profile}
use Rattle.readings.specs.declared.reading.Reading.{Reading}
use Rattle.readings.specs.Arrows.{onward, onwards, is_settled}
use Rattle.readings.proofs.Settled.{onwards-append}
use Rattle.intake.specs.declared.state.Stream.{Stream}
use Rattle.intake.specs.Takes.{is_over, is_ready, takes, behind, front, waiting, read_now, taken_of, text_of, read_then, ready_then}
use Rattle.intake.specs.Takes.{read_so_far, is_wanted, filled, filling}

-- a row with the first n bytes of a text laid over it
abbrev pub laid : List ℕ → ℕ → List ℕ → List ℕ
laid text n row = take n text ++ drop n row

-- one byte more of it
pub lay : (text row : List ℕ) (n : ℕ) → n < length text → n < length row → set (laid text n row) n (get_or text n 0) ≡ laid text (suc n) row
lay text row n l m =
    ap (λ (r : List ℕ). set (take n text ++ r) n (get_or text n 0)) (drop-cons row n 0 m)
    ∙ set_at (take n text) (get_or row n 0) (drop (suc n) row) (get_or text n 0) n (length-take-le n text (omega arith))
    ∙ sym (append_snoc (take n text) (get_or text n 0) (drop (suc n) row))
    ∙ ap (λ (r : List ℕ). r ++ drop (suc n) row) (sym (take-suc text n 0 l))

pub laid-length : (text row : List ℕ) (n : ℕ) → n ≤ length text → n ≤ length row → length (laid text n row) ≡ length row
laid-length text row n l m =
    omega (arith, length-append (take n text) (drop n row), length-take-le n text l, length-drop n row)

-- behind what is laid the row is as it was
laid-byte : (text row : List ℕ) (n i : ℕ) → n ≤ length text → get_or (laid text n row) (n + i) 0 ≡ get_or row (n + i) 0
laid-byte text row n i l =
    let e = length-take-le n text l in
    ap (λ (k : ℕ). get_or (laid text n row) (k + i) 0) (sym e) ∙ get_or-append-add (take n text) (drop n row) i 0 ∙ get_or-drop n row i 0

unmoved : (row : List ℕ) (h : ℕ) → row ≡ laid (take h row) (length (take h row)) row
unmoved row h =
    split (leb h (length row))
    (λ e.
    let l = length-take-le h row (leb-true h (length row) e) in
    sym (take-append-drop h row) ∙ ap (λ (r : List ℕ). r ++ drop h row) (sym (take-length (take h row))) ∙ ap (λ (k : ℕ). take (length (take h row)) (take h row) ++ drop k row) (sym l))
    (λ e.
    let l = leb-false h (length row) e in
    rw (take_all h row (omega arith)) (sym (rw (take-length row, drop-length row) (append-nil row))))

or_right : (a b : Bool) → a || b ≡ false → b ≡ false
or_right true b e = absurd (true≢false e)
or_right false b e = e

-- What is behind a token goes to the front.
module _ (row : List ℕ) (given held : ℕ) where
  abbrev w : List ℕ
  w = behind given held row

  pub behind-length : length w ≡ min held (length row) - given
  behind-length = length-drop given (take held row) ∙ ap (λ (k : ℕ). k - given) (length-take held row)

  pub behind-short : length w ≤ length row
  behind-short = omega (arith, behind-length)

  -- nothing is to be moved where no token was given
  pub bring-start : row ≡ laid w (read_so_far given (length w)) row
  unfolding read_so_far
  bring-start =
      split (eqb given 0)
      (λ e. rw e (subst (λ (g : ℕ). row ≡ laid (behind g held row) (length (behind g held row)) row) (sym (eqb-true given 0 e)) (unmoved row held)))
      (λ e. rw e refl)

  pub read-inside : read_so_far given (length w) ≤ length w
  unfolding read_so_far
  read-inside = split (eqb given 0) (λ e. rw e (omega arith)) (λ e. rw e (omega arith))

  -- the byte that is moved is one behind the token
  pub bring-byte : (at : ℕ) → at < length w → get_or (laid w at row) (given + at) 0 ≡ get_or w at 0
  bring-byte at l =
      let i : given + at < held = omega (arith, behind-length) in
      ap (λ (k : ℕ). get_or (laid w at row) k 0) (add_comm given at)
      ∙ laid-byte w row at given (omega arith)
      ∙ ap (λ (k : ℕ). get_or row k 0) (add_comm at given)
      ∙ sym (get_or-drop given (take held row) at 0 ∙ get_or-take held row (given + at) 0 i)

  pub bring-more : (at : ℕ) → at < length w → set (laid w at row) at (get_or (laid w at row) (given + at) 0) ≡ laid w (suc at) row
  bring-more at l =
      ap (set (laid w at row) at) (bring-byte at l) ∙ lay w row at l (omega (arith, behind-short))

  pub bring-end : (at : ℕ) → at ≡ length w → laid w at row ≡ front w row
  bring-end at e = rw e (ap (λ (r : List ℕ). r ++ drop (length w) row) (take-length w))

pub filling-length : (row : List ℕ) (read h : ℕ) (part : List ℕ) (taken : ℕ) → length (filling row read h part taken) ≡ length row
unfolding filling
filling-length row read h part taken = split (ltb read h) (λ e. rw e) (λ e. rw e (length-set row h (get_or part taken 0)))

-- where a byte more is wanted, the row has a place for it
pub unready-room : (full : ℕ) (r : Reading) (h : ℕ) → is_ready full r h ≡ false → h < full
unfolding is_ready
unready-room full r h e = leb-false full h (or_right (is_settled r || is_over r h) (leb full h) e)

-- What is taken in behind the bytes w, whose reading is r₀ and which lie at the front of the row.
module _ (full : ℕ) (p : Profile) (r₀ : Reading) (w part row : List ℕ) where
  abbrev n : ℕ
  n = takes full p r₀ (length w) part

  -- so many bytes are taken and lie in the row; when those of them that were not read yet are read, the reading is that of all of them; and
  -- what is taken from here on is what is taken in all
  pub record Inside (r : Reading) (read held taken : ℕ) (row' : List ℕ) : Type 0 where
    pub some : taken ≤ length part
    pub all : held ≡ length w + taken
    pub behind : read ≤ held
    pub lies : row' ≡ laid (w ++ part) held row
    pub reads : onwards p r (drop read (take held (w ++ part))) ≡ onwards p r₀ (take taken part)
    pub counts : taken + takes full p (onwards p r₀ (take taken part)) held (drop taken part) ≡ n

  pub begins : (r : Reading) (read : ℕ) (old : List ℕ) → row ≡ front w old → read ≤ length w → onwards p r (drop read w) ≡ r₀
      → Inside r read (length w) 0 row
  begins r read old e l h =
      let whole = take-append_seam w part in
      record {
        some = omega arith;
        all = omega arith;
        behind = l;
        lies = rw e (ap (λ (r : List ℕ). r ++ drop (length w) old) (sym whole) ∙ ap (λ (r : List ℕ). take (length w) (w ++ part) ++ r) (sym (drop-append_seam w (drop (length w) old))));
        reads = rw whole h;
        counts = zero-add _;
      }

  module _ {r : Reading} {read held taken : ℕ} {row' : List ℕ} (i : Inside r read held taken row') where
    taken-all : take held (w ++ part) ≡ w ++ take taken part
    taken-all = rw i.all (take-append-add w part taken)

    held_in : held ≤ length (w ++ part)
    held_in = omega (arith, i.all, i.some, length-append w part)

    -- where all that is held was read, its reading is known
    read_all : held ≤ read → r ≡ onwards p r₀ (take taken part)
    read_all l =
        ap (λ (u : List ℕ). onwards p r u) (sym (drop_of_length-le (take held (w ++ part)) {i = read} (omega (arith, length-take-le held (w ++ part) held_in))))
        ∙ i.reads

    abbrev b : ℕ
    b = get_or part taken 0

    abbrev R : Reading
    R = onwards p r₀ (take taken part)

    next-reading : taken < length part → onwards p r₀ (take (taken + 1) part) ≡ onward p R b
    next-reading m =
        rw (add-one taken, take-suc part taken 0 m) (onwards-append p (take taken part) (b ∷ []) r₀)

    next-byte : get_or (w ++ part) held 0 ≡ b
    next-byte = rw i.all (get_or-append-add w part taken 0)

    -- a byte more is taken
    pub fills : held ≤ read → is_ready full r held ≡ false → taken < length part → held < length row
        → Inside r read (held + 1) (taken + 1) (set row' held b)
    unfolding takes
    fills l e m o =
        let inside : held < length (w ++ part) = omega (arith, i.all, length-append w part) in
        let same : read ≡ length (take held (w ++ part)) = omega (arith, i.behind, length-take-le held (w ++ part) held_in) in
        let longer : take (held + 1) (w ++ part) ≡ take held (w ++ part) ++ b ∷ [] =
        ap (λ (k : ℕ). take k (w ++ part)) (add-one held) ∙ take-suc (w ++ part) held 0 inside ∙ ap (λ (x : ℕ). take held (w ++ part) ++ x ∷ []) next-byte in
        let last : drop read (take (held + 1) (w ++ part)) ≡ b ∷ [] = rw (longer, same) (drop-append_seam (take held (w ++ part)) (b ∷ [])) in
        let unready : is_ready full R held ≡ false = subst (λ (r : Reading). is_ready full r held ≡ false) (read_all l) e in
        let taking : takes full p R held (drop taken part) ≡ suc (takes full p (onward p R b) (suc held) (drop (suc taken) part)) = rw (drop-cons part taken 0 m, unready) in
        record {
          some = omega arith;
          all = omega (arith, i.all);
          behind = omega (arith, i.behind);
          lies =
              ap (λ (l : List ℕ). set l held b) i.lies ∙ ap (set (laid (w ++ part) held row) held) (sym next-byte)
              ∙ lay (w ++ part) row held inside o ∙ ap (λ (k : ℕ). laid (w ++ part) k row) (sym (add-one held));
          reads = ap (onwards p r) last ∙ ap (λ (r : Reading). onward p r b) (read_all l) ∙ sym (next-reading m);
          counts =
              ap (λ (r : Reading). taken + 1 + takes full p r (held + 1) (drop (taken + 1) part)) (next-reading m)
              ∙ ap (λ (k : ℕ). taken + 1 + takes full p (onward p R b) k (drop (taken + 1) part)) (add-one held)
              ∙ ap (λ (k : ℕ). taken + 1 + takes full p (onward p R b) (suc held) (drop k part)) (add-one taken)
              ∙ omega (arith, taking, i.counts);
        }

    -- a byte that is held is read
    pub reads_on : read < held → Inside (onward p r (get_or row' read 0)) (read + 1) held taken row'
    reads_on l =
        let T = take held (w ++ part) in
        let long : read < length T = omega (arith, length-take-le held (w ++ part) held_in) in
        let byte : get_or row' read 0 ≡ get_or T read 0 = ap (λ (l : List ℕ). get_or l read 0) i.lies ∙ get_or-append T (drop held row) 0 read long in
        record {
          some = i.some;
          all = i.all;
          behind = omega arith;
          lies = i.lies;
          reads =
              ap (λ (x : ℕ). onwards p (onward p r x) (drop (read + 1) T)) byte
              ∙ ap (λ (k : ℕ). onwards p (onward p r (get_or T read 0)) (drop k T)) (add-one read)
              ∙ ap (onwards p r) (sym (drop-cons T read 0 long))
              ∙ i.reads;
          counts = i.counts;
        }

    -- where a byte is to be read, all that is needed is there
    pub wanted : is_wanted full r read held taken (length part) ≡ true → held ≤ read → (is_ready full r held ≡ false) × (taken < length part)
    unfolding is_wanted
    wanted h l =
        let f = subst (λ (t : Bool). cond t true (cond (is_ready full r held) false (ltb taken (length part))) ≡ true) (le-ltb read held l) h in
        split (is_ready full r held)
        (λ e. absurd (true≢false (sym (subst (λ (t : Bool). cond t false (ltb taken (length part)) ≡ true) e f))))
        (λ e. (e, ltb-true taken (length part) (subst (λ (t : Bool). cond t false (ltb taken (length part)) ≡ true) e f)))

    -- where none is, all that is taken was read, and no byte more of the part is taken
    pub done : is_wanted full r read held taken (length part) ≡ false → (held ≤ read) × ((is_ready full r held ≡ true) ⊎ (length part ≤ taken))
    unfolding is_wanted
    done h =
        split (ltb read held)
        (λ e. absurd (true≢false (subst (λ (t : Bool). cond t true (cond (is_ready full r held) false (ltb taken (length part))) ≡ false) e h)))
        (λ e.
        let f = subst (λ (t : Bool). cond t true (cond (is_ready full r held) false (ltb taken (length part))) ≡ false) e h in (
          ltb-false read held e,
          split (is_ready full r held)
              (λ d. inl d)
              (λ d. inr (ltb-false taken (length part) (subst (λ (t : Bool). cond t false (ltb taken (length part)) ≡ false) d f))),
        ))

    none_left : held ≤ read → (is_ready full r held ≡ true) ⊎ (length part ≤ taken) → takes full p R held (drop taken part) ≡ 0
    unfolding takes
    none_left l (inl e) = ready (drop taken part)
      where
        ready : (s : List ℕ) → takes full p R held s ≡ 0
        ready [] = refl
        ready (x ∷ s) = rw (subst (λ (r : Reading). is_ready full r held ≡ true) (read_all l) e)
    none_left l (inr m) = rw (drop_of_length-le part {i = taken} m)

    -- the end of the loop
    pub ends : is_wanted full r read held taken (length part) ≡ false
        → (r ≡ onwards p r₀ (take n part)) × (held ≡ length (w ++ take n part)) × (taken ≡ n) × (row' ≡ front (w ++ take n part) row)
    ends h =
        let (l, d) = done h in
        let e : taken ≡ n = omega (arith, none_left l d, i.counts) in
        let whole : take held (w ++ part) ≡ w ++ take n part = taken-all ∙ ap (λ (k : ℕ). w ++ take k part) e in
        let long : held ≡ length (w ++ take n part) = sym (length-take-le held (w ++ part) held_in) ∙ ap length whole in (
          read_all l ∙ ap (λ (k : ℕ). onwards p r₀ (take k part)) e,
          long,
          e,
          i.lies ∙ ap (λ (u : List ℕ). u ++ drop held row) whole ∙ ap (λ (k : ℕ). (w ++ take n part) ++ drop k row) long,
        )

  -- what is in the row fits it
  pub fits : (r : Reading) (read held taken : ℕ) (row' : List ℕ) → Inside r read held taken row' → held ≤ length row → length row' ≡ length row
  fits r read held taken row' i l =
      ap length i.lies ∙ laid-length (w ++ part) row held (omega (arith, i.all, i.some, length-append w part)) l

  -- a turn of the loop stays in the row and in the part
  pub turn-fits : (r : Reading) (read held taken : ℕ) (row' : List ℕ) → Inside r read held taken row' → is_wanted full r read held taken (length part) ≡ true
      → length row ≡ full → held ≤ length row
      → (read < length row) × (held + filled read held ≤ length row) × (taken + filled read held ≤ length part)
  unfolding filled
  turn-fits r read held taken row' i h o m =
      split (ltb read held)
      (λ e. let l = ltb-true read held e in rw e (omega arith, omega arith, omega (arith, i.some)))
      (λ e.
      let l = ltb-false read held e in
      let (d, k) = wanted i h l in
      let u = unready-room full r held d in
      rw e (omega (arith, i.behind), omega arith, omega arith))

  -- a turn of the loop
  pub turns : (r : Reading) (read held taken : ℕ) (row' : List ℕ) → Inside r read held taken row' → is_wanted full r read held taken (length part) ≡ true
      → length row ≡ full
      → Inside (onward p r (get_or (filling row' read held part taken) read 0)) (read + 1) (held + filled read held) (taken + filled read held) (filling row' read held part taken)
  unfolding filled filling
  turns r read held taken row' i h o =
      split (ltb read held)
      (λ e. rw (e, add-zero held, add-zero taken) (reads_on i (ltb-true read held e)))
      (λ e.
      let l = ltb-false read held e in
      let (d, m) = wanted i h l in
      rw e (reads_on (fills i l d m (omega (arith, unready-room full r held d))) (omega (arith, i.behind))))

  pub turned : (r : Reading) (read held taken : ℕ) (row' : List ℕ) → Inside r read held taken row' → is_wanted full r read held taken (length part) ≡ true
      → length row ≡ full → (r' r'' : Reading) (read' held' taken' : ℕ) (row'' : List ℕ) → r' ≡ r → read' ≡ read → held' ≡ held + filled read held
      → taken' ≡ taken + filled read held → row'' ≡ filling row' read held part taken → r'' ≡ onward p r' (get_or row'' read' 0)
      → Inside r'' (read' + 1) held' taken' row''
  turned r read held taken row' i h o r' r'' read' held' taken' row'' a b c d e f = rw (f, a, b, c, d, e) (turns r read held taken row' i h o)

-- The same from a stream's state on: what was held lies at the row's front.
module _ (s : Stream) (old part row : List ℕ) (held₀ read₀ : ℕ) (brought : row ≡ front (waiting s old) old) (long : held₀ ≡ length (waiting s old))
    (start : read₀ ≡ read_so_far s.given held₀) where
  abbrev π : Profile
  π = s.profile

  abbrev v : List ℕ
  v = take held₀ row

  held-is : v ≡ waiting s old
  held-is = rw (brought, long) (take-append_seam (waiting s old) (drop (length (waiting s old)) old))

  reading-is : onwards π s.reading (drop read₀ v) ≡ read_now s old
  unfolding read_so_far
  reading-is =
      rw (held-is, start, long)
      (split (eqb s.given 0)
      (λ e. rw (e, drop-length (waiting s old)))
      (λ e. rw e))

  pub row-long : length row ≡ length old
  row-long =
      ap length brought
      ∙ omega (arith, length-append (waiting s old) (drop (length (waiting s old)) old), length-drop (length (waiting s old)) old, behind-short old s.given s.held)

  abbrev pub During : Reading → ℕ → ℕ → ℕ → List ℕ → Type 0
  During = Inside (length row) π (onwards π s.reading (drop read₀ v)) v part row

  pub held-short : held₀ ≤ length row
  held-short = omega (arith, row-long, long, behind-short old s.given s.held)

  read_short : read₀ ≤ held₀
  read_short =
      omega (arith, start, ap (read_so_far s.given) long, long, read-inside old s.given s.held)

  pub starts : During s.reading read₀ held₀ 0 row
  starts =
      let e = length-take-le held₀ row held-short in
      let whole = sym (take-append-drop held₀ row) ∙ ap (λ (k : ℕ). v ++ drop k row) (sym e) in
      let i = begins (length row) π (onwards π s.reading (drop read₀ v)) v part row s.reading read₀ row whole (omega (arith, e, read_short)) refl in
      subst (λ (k : ℕ). During s.reading read₀ k 0 row) e i

  -- what was taken in
  abbrev Done : ℕ → Reading → List ℕ → Reading → ℕ → ℕ → List ℕ → Type 0
  Done full r₀ w r held taken row' =
      let n = takes full π r₀ (length w) part in
      (r ≡ onwards π r₀ (take n part)) × (held ≡ length (w ++ take n part)) × (taken ≡ n) × (row' ≡ front (w ++ take n part) row)

  moved_front : (t : List ℕ) → length (waiting s old) ≤ length t → front t row ≡ front t old
  moved_front t l =
      let w = waiting s old in
      let k = length t - length w in
      let e : length t ≡ length w + k = omega arith in
      ap (λ (x : List ℕ). t ++ x)
      (ap (λ (m : ℕ). drop m row) e ∙ ap (drop (length w + k)) brought ∙ drop-append-add w (drop (length w) old) k ∙ drop-drop k (length w) old ∙ ap (λ (m : ℕ). drop m old) (sym e))

  pub took : (r : Reading) (read held taken : ℕ) (row' : List ℕ) (ready : Bool) → During r read held taken row'
      → is_wanted (length row) r read held taken (length part) ≡ false → ready ≡ is_ready (length row) r held
      → (r ≡ read_then s old part) × (held ≡ length (text_of s old part)) × (taken ≡ taken_of s old part) × (ready ≡ ready_then s old part) ×
      (row' ≡ front (text_of s old part) old)
  took r read held taken row' ready i h o =
      let x = ends (length row) π (onwards π s.reading (drop read₀ v)) v part row i h in
      let y = subst (λ (w : List ℕ). Done (length row) (onwards π s.reading (drop read₀ v)) w r held taken row') held-is x in
      let z = subst (λ (r₀ : Reading). Done (length row) r₀ (waiting s old) r held taken row') reading-is y in
      let (a, b, c, d) = subst (λ (full : ℕ). Done full (read_now s old) (waiting s old) r held taken row') row-long z in (
        a,
        b,
        c,
        o ∙ ap (λ (full : ℕ). is_ready full r held) row-long ∙ ap (λ (r : Reading). is_ready (length old) r held) a ∙ ap (is_ready (length old) (read_then s old part)) b,
        d ∙ moved_front (text_of s old part) (omega (arith, length-append (waiting s old) (take (taken_of s old part) part))),
      )
