-- `lexer::quoted::eat_lit_or_id` meets its contract. The loop's invariant: the text up to here reads like the quote that opens.
-- Assumes nothing.
use native.Mathlib.Omega.{arith}
use mathlib.Core.Path.{◌∙◌, sym}
use Rattle.lexer.proofs.EatLaws.{found-past, missed-past, reached-on}
use Rattle.lexer.proofs.QuotedLaws.{open-lexed, quote-again, quote-closed, quote-found, quote-open, quote-opens, quoted-lexed}
use Rattle.lexer.proofs.quoted.eat_lit_or_id.Goals as goal

pub loop-end-init : goal.loop-end-init
loop-end-init c = (quote-opens _ c.requires.1 c.requires.0 c.eat-body.ensures.place, c.requires.1)

pub refused-requires : goal.refused-requires
refused-requires c =
    let missed = missed-past _ _ _ _ c.in-Err.ensures in
    (quote-open _ c.loop-end.invariant.1 c.loop-end.invariant.0 missed.0 missed.1).ordered

pub returns-in-Err : goal.returns-in-Err
returns-in-Err c =
    let missed = missed-past _ _ _ _ c.in-Err.ensures in
    open-lexed (quote-open _ c.loop-end.invariant.1 c.loop-end.invariant.0 missed.0 missed.1) _ c.refused.ensures

pub token-requires : goal.token-requires
token-requires c =
    let reads = quote-found _ c.loop-end.invariant.1 c.loop-end.invariant.0 (found-past _ _ _ _ c.in-Ok.ensures) in
    (quote-closed _ c.loop-end.invariant.1 reads (sym c.sees.ensures ∙ c.if-not-sees.true)).ordered

pub returns-then-not-sees : goal.returns-then-not-sees
returns-then-not-sees c =
    let reads = quote-found _ c.loop-end.invariant.1 c.loop-end.invariant.0 (found-past _ _ _ _ c.in-Ok.ensures) in
    let ends = quote-closed _ c.loop-end.invariant.1 reads (sym c.sees.ensures ∙ c.if-not-sees.true) in
    quoted-lexed c.args.quote ends _ c.quote_kind.ensures _ c.token.ensures

pub loop-end-smaller : goal.loop-end-smaller
loop-end-smaller c =
    let on = reached-on _ _ _ _ (found-past _ _ _ _ c.in-Ok.ensures) in
    omega (arith, c.eat-body-in-Ok.ensures.onward)

pub loop-end-preserved : goal.loop-end-preserved
loop-end-preserved c =
    let reads = quote-found _ c.loop-end.invariant.1 c.loop-end.invariant.0 (found-past _ _ _ _ c.in-Ok.ensures) in
    (quote-again _ c.loop-end.invariant.1 reads (sym c.sees.ensures ∙ c.if-not-sees.false) c.eat-body-in-Ok.ensures.place, c.loop-end.invariant.1)
