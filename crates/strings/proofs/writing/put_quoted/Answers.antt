-- `strings::writing::put_quoted` meets its contract: what is put and what is left make the whole. Assumes nothing.
use native.Mathlib.Omega.{arith}
use mathlib.Core.Path.{◌∙◌}
use mathlib.Core.List.{◌∷◌, [], ◌++◌}
use Rattle.buffers.proofs.FillLaws.{Filling, in_buffer, one_more, whole, rebased, before-rebased}
use Rattle.strings.specs.Quotes.{doubled, quoted}
use Rattle.strings.proofs.LoopLaws.{quote-first, next-doubled, next-twice, quote-twice, quote-once, quote-last}
use Rattle.strings.proofs.writing.put_quoted.Goals as goal
use Rattle.strings.proofs.writing.put_quoted.Goals.{Start, then-b-quote, else-b-quote}

-- the opening quote
first : (c : Start)
    → Filling (quoted c.args.quote c.args.bytes.now) c.args.buffer.now c.args.buffer.now 0 (c.args.quote ∷ doubled c.args.quote c.args.bytes.now ++ c.args.quote ∷ [])
first c = quote-first _ _ _ c.requires

pub bounds-buffer-0 : goal.bounds-buffer-0
bounds-buffer-0 c = in_buffer (first (goal.at.bounds-buffer-0 c).Start)

pub loop-b-init : goal.loop-b-init
loop-b-init c = record { upto = omega arith; filling = rebased (one_more (first (goal.at.loop-b-init c).Start)) }

-- a byte
pub bounds-buffer-n : goal.bounds-buffer-n
bounds-buffer-n c = in_buffer (next-doubled c.loop-b.invariant c.loop-b-test.true)

-- a quote's second
pub bounds-buffer-n-then-b-quote : goal.bounds-buffer-n-then-b-quote
bounds-buffer-n-then-b-quote c = in_buffer (next-twice c.loop-b.invariant c.loop-b-test.true c.if-b-quote.true)

pub loop-b-preserved : goal.loop-b-preserved
loop-b-preserved c =
    elim c.if-b-quote.branch [
      | then-b-quote w ↦ rw (w.buffer-is, w.n-is) (quote-twice c.loop-b.invariant c.loop-b-test.true w.if-b-quote.true)
      | else-b-quote w ↦ rw (w.buffer-is, w.n-is) (quote-once c.loop-b.invariant c.loop-b-test.true w.if-b-quote.false)
    ]

-- the closing quote
pub bounds-buffer-n-2 : goal.bounds-buffer-n-2
bounds-buffer-n-2 c = in_buffer (quote-last c.loop-b.invariant c.loop-b-test.false)

pub returns : goal.returns
returns c = whole (one_more (quote-last c.loop-b.invariant c.loop-b-test.false)) ∙ before-rebased (one_more (first (goal.at.returns c).Start))
