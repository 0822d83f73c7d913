-- `strings::reading::read_name` meets its contract: the span is a quoted name, and its bytes fill the buffer. Assumes nothing.
use native.Mathlib.Omega.{arith}
use mathlib.Core.Path.{sym, ◌∙◌}
use mathlib.Core.Bool.{true≢false}
use mathlib.Core.Logic.{inr}
use Rattle.keywords.specs.Kinds.{kind}
use Rattle.spans.specs.Spans.{IsToken, IsName}
use Rattle.spans.proofs.TokenLaws.{inside, some-digits}
use Rattle.spans.proofs.ReadingLaws.{no_bytes, goes-on, no-such, handed-out}
use Rattle.strings.specs.Calls.{ReadsName}
use Rattle.strings.proofs.LexemeLaws.{name-quoted}
use Rattle.strings.proofs.reading.read_name.Goals as goal
use Rattle.strings.proofs.reading.read_name.Goals.{Else-not-is_quote, In_ok-ok_or}

pub returns-in_err-ok_or : goal.returns-in_err-ok_or
unfolding ReadsName IsName
returns-in_err-ok_or c =
    rw (handed-out _ c.ok_or.ensures.value c.in_err-ok_or.was c.from_residual.ensures.1)
    (no_bytes (λ t. no-such c.ok_or.ensures.ok_part _ _ _ _ _ c.find.ensures c.in_err-ok_or.was t.0))

-- a name
token : (c : In_ok-ok_or) → IsToken c.args.profile c.args.text.now c.args.start c.args.length (kind "TK_ID")
token c = some-digits _ _ _ _ _ _ (goes-on c.ok_or.ensures.ok_part _ _ _ _ _ c.find.ensures c.in_ok-ok_or.was)

pub bounds-text-start : goal.bounds-text-start
bounds-text-start c = let i = inside _ _ _ _ _ (token (goal.at.bounds-text-start c).In_ok-ok_or) in omega arith

pub returns-then-not-is_quote : goal.returns-then-not-is_quote
unfolding ReadsName IsName
returns-then-not-is_quote c = no_bytes (λ t. true≢false (sym t.1 ∙ sym c.is_quote.ensures ∙ c.if-not-is_quote.true))

-- in quotes
there : (c : Else-not-is_quote) → IsName c.args.profile c.args.text.now c.args.start c.args.length
unfolding IsName
there c =
    (some-digits _ _ _ _ _ _ (goes-on c.ok_or.ensures.ok_part _ _ _ _ _ c.find.ensures c.in_ok-ok_or.was), sym c.is_quote.ensures ∙ c.if-not-is_quote.false)

pub unquote-requires : goal.unquote-requires
unquote-requires c = name-quoted _ _ _ _ (there (goal.at.unquote-requires c).Else-not-is_quote)

pub returns : goal.returns
unfolding ReadsName
returns c = inr (there (goal.at.returns c).Else-not-is_quote, c.unquote.ensures)
