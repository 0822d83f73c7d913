-- `strings::reading::read_string` meets its contract: the span is a string, and its bytes fill the buffer. Assumes nothing.
use mathlib.Core.Logic.{inr}
use Rattle.keywords.specs.Kinds.{kind}
use Rattle.spans.specs.Spans.{IsToken}
use Rattle.spans.proofs.TokenLaws.{some-digits}
use Rattle.spans.proofs.ReadingLaws.{no_bytes, goes-on, no-such, handed-out}
use Rattle.strings.specs.Calls.{ReadsString}
use Rattle.strings.proofs.LexemeLaws.{string-quoted}
use Rattle.strings.proofs.reading.read_string.Goals as goal
use Rattle.strings.proofs.reading.read_string.Goals.{In_ok-ok_or}

pub returns-in_err-ok_or : goal.returns-in_err-ok_or
unfolding ReadsString
returns-in_err-ok_or c =
    rw (handed-out _ c.ok_or.ensures.value c.in_err-ok_or.was c.from_residual.ensures.1)
    (no_bytes (no-such c.ok_or.ensures.ok_part _ _ _ _ _ c.find.ensures c.in_err-ok_or.was))

-- it is a string
there : (c : In_ok-ok_or) → IsToken c.args.profile c.args.text.now c.args.start c.args.length (kind "TK_STRING")
there c = some-digits _ _ _ _ _ _ (goes-on c.ok_or.ensures.ok_part _ _ _ _ _ c.find.ensures c.in_ok-ok_or.was)

pub unquote-requires : goal.unquote-requires
unquote-requires c = string-quoted _ _ _ _ (there (goal.at.unquote-requires c).In_ok-ok_or)

pub returns : goal.returns
unfolding ReadsString
returns c = inr (there (goal.at.returns c).In_ok-ok_or, c.unquote.ensures)
