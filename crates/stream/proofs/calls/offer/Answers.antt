-- `stream::calls::offer` meets its contract. Assumes nothing.
use native.Mathlib.Omega.{arith}
use mathlib.Core.Path.{◌≡◌, refl, sym, ◌∙◌, ap}
use borrow.Author.Tests.{not-true, not-false}
use Rattle.stream.proofs.CallLaws.{taken-inside, offered-closed, offered-long, offered-more, offered-over, offered-lexed, not-open, refuses}
use Rattle.std.proofs.Common.{rules}
use Rattle.intake.specs.declared.state.Stream.{Stream}
use Rattle.stream.specs.Calls.{is_open, last_end}
use Rattle.stream.specs.declared.stream.Answer.TheVariants.{Closed, TooLong, LexemeTooLong}
use Rattle.stream.proofs.calls.offer.Goals as goal

pub returns-in_default : goal.returns-in_default
returns-in_default c =
    let a = c.args in
    let told : c.refuse.result.answer ≡ Closed (last_end a.stream) = search rules in
    offered-closed a.stream a.row.now a.part.now _ (not-open _ c.in_default.not-Open) (refuses _ _ "Closed" _ _ refl c.refuse.ensures.left c.refuse.ensures.taken told)

pub returns-then-room-part : goal.returns-then-room-part
returns-then-room-part c =
    let a = c.args in
    let told : c.refuse-then-room-part.result.answer ≡ TooLong (last_end c.close.result) = search rules in
    let kept = c.refuse-then-room-part.ensures in
    let long = refuses _ _ "TooLong" _ _ refl (kept.left ∙ c.close.ensures) kept.taken (told ∙ ap (λ (s : Stream). TooLong (last_end s)) c.close.ensures) in
    offered-long a.stream a.row.now a.part.now _ (ap is_open c.in-Open.is) c.if-room-part.true long

pub hold-moved-requires : goal.hold-moved-requires
hold-moved-requires c =
    let a = c.args in
    omega (arith, taken-inside a.stream a.row.now a.part.now, c.take_in-took.ensures.2, c.if-room-part.false)

pub returns-then-not-took : goal.returns-then-not-took
returns-then-not-took c =
    let a = c.args in
    let took = c.take_in-took.ensures in
    let opened = ap is_open c.in-Open.is in
    offered-more a.stream a.row.now a.part.now _ _ _ _ _ _ opened c.if-room-part.false took.0 took.1 took.2 took.3 took.4
    c.hold-moved.ensures (not-true _ c.if-not-took.true)

pub returns-then-is_over : goal.returns-then-is_over
returns-then-is_over c =
    let a = c.args in
    let took = c.take_in-took.ensures in
    let opened = ap is_open c.in-Open.is in
    let told : c.refuse-then-is_over.result.answer ≡ LexemeTooLong (last_end c.close-then-is_over.result) = search rules in
    let kept = c.refuse-then-is_over.ensures in
    let closing = c.close-then-is_over.ensures in
    let over = refuses _ _ "LexemeTooLong" _ _ refl (kept.left ∙ closing) kept.taken (told ∙ ap (λ (s : Stream). LexemeTooLong (last_end s)) closing) in
    offered-over a.stream a.row.now a.part.now _ _ _ _ _ _ opened c.if-room-part.false took.0 took.1 took.2 took.3 took.4
    c.hold-moved.ensures _ (not-false _ c.if-not-took.false) (sym c.is_over.ensures ∙ c.if-is_over.true) over

pub returns : goal.returns
returns c =
    let a = c.args in
    let took = c.take_in-took.ensures in
    let opened = ap is_open c.in-Open.is in
    offered-lexed a.stream a.row.now a.part.now _ _ _ _ _ _ opened c.if-room-part.false took.0 took.1 took.2 took.3 took.4
    c.hold-moved.ensures _ (not-false _ c.if-not-took.false) (sym c.is_over.ensures ∙ c.if-is_over.false) c.answer.ensures
