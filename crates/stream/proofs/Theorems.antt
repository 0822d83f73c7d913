-- For readers. `offered-unique`, `finished-unique`: two results that meet a call's contract, and two rows, are equal, for every state, row and
-- part. `told-one`: two answers that say the same are one. Assumes nothing.
use Prim.Native.Nat.{ℕ}
use Prim.Native.String.{String}
use mathlib.Core.Path.{◌≡◌, refl, sym, ◌∙◌, ap}
use mathlib.Core.Bool.{cond}
use mathlib.Core.List.{List}
use lib.Dec.{eqb}
use Rattle.grammar.specs.Classes.{rules}
use Rattle.grammar.specs.Answers.{Answer, token, end, refusal}
use Rattle.grammar.proofs.Unique.{gives-unique}
use Rattle.lexer.specs.declared.lexed.Refusal.{Refusal}
use Rattle.lexer.specs.declared.lexed.Refusal.TheVariants.{UnrecognizedToken, UnterminatedLiteral, BadNumber, BadFractionalPart}
use Rattle.lexer.specs.declared.lexed.Refusal.TheVariants.{BadExponentPart, MalformedHexInteger, ExpectedEqualsSign, OffsetPastEnd}
use Rattle.lexer.specs.Values.{number_of}
use Rattle.lexer.proofs.Theorems.{refusal_of}
use Rattle.intake.specs.declared.state.Stream.{Stream}
use Rattle.stream.specs.declared.stream.Given.{Given}
use Rattle.stream.specs.declared.stream.Answer as A
use Rattle.stream.specs.declared.stream.Answer.TheVariants.{Token, More, End, Refused, Closed, TooLong, LexemeTooLong}
use Rattle.stream.specs.Refusals.{stream_refusal}
use Rattle.stream.specs.Calls.{Told, more, tells, values_of, last_end, shift, after, Refuses, Answers}
use Rattle.stream.specs.Calls.{Course, refuse_closed, refuse_part, ask_more, refuse_lexeme, lex, Goes, offering, finishing, Offered, Finished}

-- An answer can be read back from what it says: the stream's own refusals have numbers of their own.
abbrev refused_of : ℕ → ℕ → ℕ → ℕ → A.Answer
refused_of number start n offset =
    cond (eqb number (stream_refusal "Closed")) (Closed offset)
    (cond (eqb number (stream_refusal "TooLong")) (TooLong offset)
    (cond (eqb number (stream_refusal "LexemeTooLong")) (LexemeTooLong offset) (Refused (refusal_of number) start n offset)))

abbrev answer_of : Told → A.Answer
answer_of more = More
answer_of (tells (token kind start n next digits underscores)) = Token kind start n next digits underscores
answer_of (tells (end offset)) = End offset
answer_of (tells (refusal number start n offset)) = refused_of number start n offset

refused-back : (w : Refusal) (start n offset : ℕ) → refused_of (number_of w) start n offset ≡ Refused w start n offset
refused-back UnrecognizedToken start n offset = refl
refused-back UnterminatedLiteral start n offset = refl
refused-back BadNumber start n offset = refl
refused-back BadFractionalPart start n offset = refl
refused-back BadExponentPart start n offset = refl
refused-back MalformedHexInteger start n offset = refl
refused-back ExpectedEqualsSign start n offset = refl
refused-back OffsetPastEnd start n offset = refl

answer_back : (a : A.Answer) → answer_of (values_of a) ≡ a
answer_back (Token kind start n next digits underscores) = refl
answer_back More = refl
answer_back (End next) = refl
answer_back (Refused why start n next) = refused-back why start n next
answer_back (Closed next) = refl
answer_back (TooLong next) = refl
answer_back (LexemeTooLong next) = refl

pub told-one : (a b : A.Answer) → values_of a ≡ values_of b → a ≡ b
told-one a b e = sym (answer_back a) ∙ ap answer_of e ∙ answer_back b

-- the same stream, the same bytes taken, and the same said
given-one : (g h : Given) → g.stream ≡ h.stream → g.taken ≡ h.taken → values_of g.answer ≡ values_of h.answer → g ≡ h
given-one g h a b c =
    ap (λ (s : Stream). record { stream = s; taken = g.taken; answer = g.answer }) a
    ∙ ap (λ (n : ℕ). record { stream = h.stream; taken = n; answer = g.answer }) b
    ∙ ap (λ (x : A.Answer). record { stream = h.stream; taken = h.taken; answer = x }) (told-one g.answer h.answer c)

refuses-one : {s : Stream} {n : ℕ} {name : String} {g h : Given} → Refuses s n name g → Refuses s n name h → g ≡ h
refuses-one {g = g} {h = h} x y = given-one g h (x.left ∙ sym y.left) (x.taken ∙ sym y.taken) (x.told ∙ sym y.told)

answers_one : {s : Stream} {text : List ℕ} {n : ℕ} {g h : Given} → Answers s text n g → Answers s text n h → g ≡ h
answers_one {s = s} {text = text} {g = g} {h = h} x y =
    let e = gives-unique (rules s.profile) text 0 x.next y.next x.gives y.gives in
    given-one g h (x.left ∙ ap (after s) e ∙ sym y.left) (x.taken ∙ sym y.taken)
    (x.told ∙ ap (λ (a : Answer). tells (shift (last_end s) a)) e ∙ sym y.told)

goes_one : (c : Course) (s m : Stream) (text : List ℕ) (n : ℕ) (row : List ℕ) (g h : Given) (new new' : List ℕ)
    → Goes c s m text n row g new → Goes c s m text n row h new' → (g ≡ h) × (new ≡ new')
goes_one refuse_closed s m text n row g h new new' (x, a) (y, b) = (refuses-one x y, a ∙ sym b)
goes_one refuse_part s m text n row g h new new' (x, a) (y, b) = (refuses-one x y, a ∙ sym b)
goes_one ask_more s m text n row g h new new' (x, a) (y, b) =
    (given-one g h (x.left ∙ sym y.left) (x.taken ∙ sym y.taken) (x.told ∙ sym y.told), a ∙ sym b)
goes_one refuse_lexeme s m text n row g h new new' (x, a) (y, b) = (refuses-one x y, a ∙ sym b)
goes_one lex s m text n row g h new new' (x, a) (y, b) = (answers_one x y, a ∙ sym b)

pub offered-unique : (s : Stream) (row part : List ℕ) (g h : Given) (new new' : List ℕ)
    → Offered s row part g new → Offered s row part h new' → (g ≡ h) × (new ≡ new')
unfolding Offered
offered-unique s row part g h new new' = goes_one (offering s row part) s _ _ _ row g h new new'

pub finished-unique : (s : Stream) (row : List ℕ) (g h : Given) (new new' : List ℕ)
    → Finished s row g new → Finished s row h new' → (g ≡ h) × (new ≡ new')
unfolding Finished
finished-unique s row g h new new' = goes_one (finishing s) s _ _ _ row g h new new'
