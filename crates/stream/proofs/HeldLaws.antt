-- What a call leaves: a row as long as before, and no more bytes given and held than the row has or than there were. Assumes nothing.
use Prim.Native.Nat.{ℕ, ◌≤◌}
use native.Mathlib.Omega.{arith}
use mathlib.Core.Path.{◌≡◌, refl, sym, ◌∙◌, ap, subst}
use mathlib.Core.List.{List}
use lib.ListN.{length, take, drop, length-append, length-take, length-drop}
use Rattle.grammar.specs.Classes.{rules}
use Rattle.grammar.specs.Answers.{Answer, token, end, refusal}
use Rattle.grammar.specs.Longest.{Gives}
use Rattle.intake.specs.declared.state.Stream.{Stream}
use Rattle.intake.specs.Takes.{front, waiting, read_now, taken_of, text_of}
use Rattle.intake.proofs.TakeLaws.{behind-short}
use Rattle.stream.specs.declared.stream.Given.{Given}
use Rattle.stream.specs.Calls.{Course, refuse_closed, refuse_part, ask_more, refuse_lexeme, lex, Goes, after, Answers, Offered, Finished, ended, moved}
use Rattle.stream.specs.Calls.{offering, finishing}
use Rattle.stream.proofs.Inside.{token-long}
use Rattle.stream.proofs.CallLaws.{takes-room}

-- no more than b bytes given, and held
abbrev pub Within : ℕ → Stream → Type 0
Within b s = (s.given ≤ b) × (s.held ≤ b)

-- Of what Next answers: all that is held stays so, and a token is no longer than the text.
module _ (s : Stream) (text : List ℕ) where
  same-held : (a : Answer) → (after s a).held ≡ s.held
  same-held (token kind start n next d u) = refl
  same-held (end offset) = refl
  same-held (refusal number start n offset) = refl

  pub answers-held : (n : ℕ) (g : Given) → Answers s text n g → g.stream.held ≡ s.held
  answers-held n g r = ap (λ (q : Stream). q.held) r.left ∙ same-held r.next

  less-given : (b : ℕ) → s.given ≤ b → length text ≤ b → (a : Answer) → Gives (rules s.profile) text 0 a → (after s a).given ≤ b
  less-given b f l (token kind start n next d u) h = let (i, j, k, m, c) = token-long s.profile text kind start n next d u h in omega arith
  less-given b f l (end offset) h = f
  less-given b f l (refusal number start n offset) h = f

-- what is held fits the row
text-short : (s : Stream) (row part : List ℕ) → length (text_of s row part) ≤ length row
text-short s row part =
    let w = waiting s row in
    let n = taken_of s row part in
    let l = takes-room (length row) s.profile (read_now s row) (length w) part (behind-short row s.given s.held) in
    omega (arith, length-append w (take n part), length-take n part)

front_same : (text row : List ℕ) → length text ≤ length row → length (front text row) ≡ length row
front_same text row l = omega (arith, length-append text (drop (length text) row), length-drop (length text) row)

module _ (s m : Stream) (text : List ℕ) (n : ℕ) (row : List ℕ) (g : Given) (new : List ℕ) where
  goes-row : (c : Course) → length text ≤ length row → Goes c s m text n row g new → length new ≡ length row
  goes-row refuse_closed l (r, e) = ap length e
  goes-row refuse_part l (r, e) = ap length e
  goes-row ask_more l (r, e) = ap length e ∙ front_same text row l
  goes-row refuse_lexeme l (r, e) = ap length e ∙ front_same text row l
  goes-row lex l (r, e) = ap length e ∙ front_same text row l

  goes-within : (b : ℕ) (c : Course) → Within b s → Within b m → length text ≤ b → Goes c s m text n row g new → Within b g.stream
  goes-within b refuse_closed f i l (r, e) = subst (Within b) (sym r.left) f
  goes-within b refuse_part f i l (r, e) = subst (Within b) (sym r.left) f
  goes-within b ask_more f i l (r, e) = subst (Within b) (sym r.left) i
  goes-within b refuse_lexeme f i l (r, e) = subst (Within b) (sym r.left) i
  goes-within b lex f i l (r, e) = (
    omega (arith, ap (λ (q : Stream). q.given) r.left, less-given m text b i.0 l r.next r.gives),
    omega (arith, answers-held m text n g r, i.1),
  )

module _ (s : Stream) (row : List ℕ) (g : Given) (new : List ℕ) where
  pub offered-row : (part : List ℕ) → Offered s row part g new → length new ≡ length row
  unfolding Offered
  offered-row part h = goes-row s _ _ _ row g new (offering s row part) (text-short s row part) h

  pub finished-row : Finished s row g new → length new ≡ length row
  unfolding Finished
  finished-row h = goes-row s _ _ _ row g new (finishing s) (behind-short row s.given s.held) h

  -- with a bound that the row keeps too
  module _ (b : ℕ) (l : length row ≤ b) (f : Within b s) where
    pub offered-within : (part : List ℕ) → Offered s row part g new → Within b g.stream
    unfolding Offered
    offered-within part h =
        let t : length (text_of s row part) ≤ b = omega (arith, text-short s row part) in
        goes-within s (moved s row part) _ _ row g new b (offering s row part) f (omega arith, t) t h

    pub finished-within : Finished s row g new → Within b g.stream
    unfolding Finished
    finished-within h =
        let t : length (waiting s row) ≤ b = omega (arith, behind-short row s.given s.held) in
        goes-within s (ended s (length (waiting s row))) _ _ row g new b (finishing s) f (omega arith, t) t h
