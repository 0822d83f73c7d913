-- A token that a stream gives stands at the row's front, and is by itself that token: the calls that read literals take it from there.
-- Assumes nothing.
use Prim.Native.Nat.{ℕ, ◌+◌}
use native.Mathlib.Omega.{arith}
use Prim.Native.String.{String}
use mathlib.Core.Path.{◌≡◌, sym, ◌∙◌, subst}
use mathlib.Core.List.{List}
use lib.ListN.{length, take, drop}
use lib.Seq.{take-append-le}
use Rattle.grammar.specs.Classes.{rules}
use Rattle.grammar.specs.Answers.{Answer, token, end, refusal}
use Rattle.grammar.specs.Longest.{Gives}
use Rattle.intake.specs.declared.state.Stream.{Stream}
use Rattle.intake.specs.Takes.{front}
use Rattle.stream.specs.declared.stream.Given.{Given}
use Rattle.stream.specs.Calls.{tells, values_of, last_end, shift, Refuses, Course, refuse_closed, refuse_part, ask_more, refuse_lexeme, lex}
use Rattle.stream.specs.Calls.{Goes, offering, finishing, moved, Offered, Finished}
use Rattle.stream.proofs.Inside.{token-long}
use Rattle.spans.specs.Spans.{IsTokenWith}
use Rattle.literals.proofs.Alone.{number-alone}

-- what Next gave for the text at the row's front
given-front : (m : Stream) (text row new : List ℕ) (a : Answer) (k start n next d u : ℕ) → Gives (rules m.profile) text 0 a → new ≡ front text row
    → shift (last_end m) a ≡ token k start n next d u → IsTokenWith m.profile (take n new) 0 n k d
unfolding IsTokenWith
given-front m text row new (token j from b to x y) k start n next d u g f e =
    let (starts, goes, some, inside, longest) = token-long m.profile text j from b to x y g in
    let behind : to ≡ 0 + b = omega arith in
    let kinds : j ≡ k = cc in
    let long : b ≡ n = cc in
    let digits : x ≡ d = cc in
    let same : token j from b to x y ≡ token k 0 n (0 + n) d y = rw (starts, behind, kinds, long, digits) in
    let h : IsTokenWith m.profile text 0 n k d = (y, subst (Gives (rules m.profile) text 0) same g) in
    let there : take n text ≡ take n new = sym (rw f (take-append-le n text (drop (length text) row) (omega arith))) in
    subst (λ (w : List ℕ). IsTokenWith m.profile w 0 n k d) there (number-alone m.profile text 0 n k d h)
given-front m text row new (end offset) k start n next d u g f e = absurd (let z : ◌≡◌ {A = ℕ} 0 1 = cc in omega arith)
given-front m text row new (refusal j from b to) k start n next d u g f e = absurd (let z : ◌≡◌ {A = ℕ} 0 1 = cc in omega arith)

refused-not : (s : Stream) (taken : ℕ) (name : String) (g : Given) (k start n next d u : ℕ) → Refuses s taken name g → values_of g.answer ≡ tells (token k start n next d u) → ⊥
refused-not s taken name g k start n next d u h e = let x = sym h.told ∙ e in let z : ◌≡◌ {A = ℕ} 0 1 = cc in omega arith

goes-front : (c : Course) (s m : Stream) (text : List ℕ) (taken : ℕ) (row : List ℕ) (g : Given) (new : List ℕ) (k start n next d u : ℕ)
    → Goes c s m text taken row g new → values_of g.answer ≡ tells (token k start n next d u) → IsTokenWith m.profile (take n new) 0 n k d
goes-front refuse_closed s m text taken row g new k start n next d u (h, f) e = absurd (refused-not s 0 "Closed" g k start n next d u h e)
goes-front refuse_part s m text taken row g new k start n next d u (h, f) e = absurd (refused-not _ 0 "TooLong" g k start n next d u h e)
goes-front ask_more s m text taken row g new k start n next d u (h, f) e = absurd (let x = sym h.told ∙ e in let z : ◌≡◌ {A = ℕ} 0 1 = cc in omega arith)
goes-front refuse_lexeme s m text taken row g new k start n next d u (h, f) e = absurd (refused-not _ taken "LexemeTooLong" g k start n next d u h e)
goes-front lex s m text taken row g new k start n next d u (h, f) e =
    let x : tells (shift (last_end m) h.next) ≡ tells (token k start n next d u) = sym h.told ∙ e in
    let y : shift (last_end m) h.next ≡ token k start n next d u = cc in
    given-front m text row new h.next k start n next d u h.gives f y

-- Whatever the stream's state: where an offer or a finish call answers a token of n bytes, the row's first n bytes are that token.
pub offered-alone : (s : Stream) (row part : List ℕ) (g : Given) (new : List ℕ) (k start n next d u : ℕ) → Offered s row part g new
    → values_of g.answer ≡ tells (token k start n next d u) → IsTokenWith s.profile (take n new) 0 n k d
unfolding Offered
offered-alone s row part g new k start n next d u h e = goes-front (offering s row part) s (moved s row part) _ _ row g new k start n next d u h e

pub finished-alone : (s : Stream) (row : List ℕ) (g : Given) (new : List ℕ) (k start n next d u : ℕ) → Finished s row g new
    → values_of g.answer ≡ tells (token k start n next d u) → IsTokenWith s.profile (take n new) 0 n k d
unfolding Finished
finished-alone s row g new k start n next d u h e = goes-front (finishing s) s _ _ 0 row g new k start n next d u h e
