-- `lexer::quoted::eat_blob` meets its contract. Assumes nothing.
use mathlib.Core.Path.{◌∙◌, sym}
use Rattle.lexer.proofs.QuotedLaws.{blob-even, blob-lexed, blob-odd, blob-odd-lexed, blob-open, blob-open-lexed}
use Rattle.lexer.proofs.quoted.eat_blob.Goals as goal

pub refused-requires : goal.refused-requires
refused-requires c = (blob-open c.requires c.eat_while-end.ensures.place (sym c.sees.ensures ∙ c.if-not-sees.true)).ordered

pub returns-then-not-sees : goal.returns-then-not-sees
returns-then-not-sees c =
    blob-open-lexed _ (blob-open c.requires c.eat_while-end.ensures.place (sym c.sees.ensures ∙ c.if-not-sees.true)) c.refused.ensures

pub refused-requires-then-end-at-ne0 : goal.refused-requires-then-end-at-ne0
refused-requires-then-end-at-ne0 c =
    let seen = sym c.sees.ensures ∙ c.if-not-sees.false in
    (blob-odd c.requires c.eat_while-end.ensures.place seen c.eat.ensures.place c.if-end-at-ne0.true).ordered

pub returns-then-end-at-ne0 : goal.returns-then-end-at-ne0
returns-then-end-at-ne0 c =
    let seen = sym c.sees.ensures ∙ c.if-not-sees.false in
    blob-odd-lexed _ (blob-odd c.requires c.eat_while-end.ensures.place seen c.eat.ensures.place c.if-end-at-ne0.true) c.refused-then-end-at-ne0.ensures

pub token-requires : goal.token-requires
token-requires c =
    let seen = sym c.sees.ensures ∙ c.if-not-sees.false in
    (blob-even c.requires c.eat_while-end.ensures.place seen c.eat-2.ensures.place c.if-end-at-ne0.false).ordered

pub returns : goal.returns
returns c =
    let seen = sym c.sees.ensures ∙ c.if-not-sees.false in
    blob-lexed _ (blob-even c.requires c.eat_while-end.ensures.place seen c.eat-2.ensures.place c.if-end-at-ne0.false) c.token.ensures
