-- A token that an offer gives leads on: behind it fewer bytes are left, of those held and of the part. So offering the rest again while tokens
-- come has an end, whatever the state and the row. Assumes nothing.
use Prim.Native.Nat.{ℕ, ◌+◌, ◌-◌, ◌≤◌, ◌<◌}
use native.Mathlib.Omega.{arith}
use mathlib.Core.Path.{◌≡◌, refl, sym, ◌∙◌, ap}
use mathlib.Core.Bool.{Bool, true, false, true≢false}
use mathlib.Core.List.{List}
use lib.ListN.{length, take, length-append, length-take, length-drop}
use lib.Seq.{length-take-le}
use Rattle.grammar.specs.Classes.{rules}
use Rattle.grammar.specs.Answers.{Answer, token, end, refusal}
use Rattle.grammar.specs.Longest.{Gives}
use Rattle.intake.specs.declared.state.Stream.{Stream}
use Rattle.intake.specs.Takes.{waiting, taken_of, text_of}
use Rattle.stream.specs.declared.stream.Given.{Given}
use Rattle.stream.specs.Calls.{Told, more, tells, values_of, last_end, shift, after, moved, Offered}
use Rattle.stream.specs.Calls.{Course, refuse_closed, refuse_part, ask_more, refuse_lexeme, lex, offering, Goes}
use Rattle.stream.proofs.Inside.{token-long}
use Rattle.stream.proofs.CallLaws.{taken-inside}

abbrev pub is_token : Told → Bool
is_token more = false
is_token (tells (token k start n next d u)) = true
is_token (tells (end offset)) = false
is_token (tells (refusal k start n offset)) = false

-- how many bytes are held behind the token given last
abbrev pub held_behind : Stream → ℕ
held_behind s = s.held - s.given

module _ (s : Stream) (row part : List ℕ) (g : Given) where
  abbrev n : ℕ
  n = taken_of s row part

  abbrev text : List ℕ
  text = text_of s row part

  abbrev pub Leads : Type 0
  Leads = (g.taken ≤ length part) × (length part - g.taken + held_behind g.stream < length part + held_behind s)

  no-token : {t : Told} → values_of g.answer ≡ t → is_token (values_of g.answer) ≡ true → is_token t ≡ false → Leads
  no-token e t f = absurd (true≢false (sym t ∙ ap is_token e ∙ f))

  text-long : length text ≤ held_behind s + n
  text-long =
      omega (arith, length-append (waiting s row) (take n part), length-take-le n part (taken-inside s row part), length-drop s.given (take s.held row), length-take s.held row)

  lexed : (a : Answer) → Gives (rules s.profile) text 0 a → g.stream ≡ after (moved s row part) a → g.taken ≡ n
      → values_of g.answer ≡ tells (shift (last_end (moved s row part)) a) → is_token (values_of g.answer) ≡ true → Leads
  lexed (token k start m next d u) h l e v t =
      let (a, b, some, inside, c) = token-long s.profile text k start m next d u h in
      let i = taken-inside s row part in
      let held : g.stream.held ≡ length text = ap (λ (x : Stream). x.held) l in
      let given : g.stream.given ≡ m = ap (λ (x : Stream). x.given) l in
      (omega arith, omega (arith, text-long))
  lexed (end offset) h l e v t = no-token v t refl
  lexed (refusal k start m offset) h l e v t = no-token v t refl

  by : (k : Course) (new : List ℕ) → Goes k s (moved s row part) text n row g new → is_token (values_of g.answer) ≡ true → Leads
  by refuse_closed new (r, x) t = no-token r.told t refl
  by refuse_part new (r, x) t = no-token r.told t refl
  by ask_more new (r, x) t = no-token r.told t refl
  by refuse_lexeme new (r, x) t = no-token r.told t refl
  by lex new (r, x) t = lexed r.next r.gives r.left r.taken r.told t

  pub leads : (new : List ℕ) → Offered s row part g new → is_token (values_of g.answer) ≡ true → Leads
  unfolding Offered
  leads new h t = by (offering s row part) new h t
