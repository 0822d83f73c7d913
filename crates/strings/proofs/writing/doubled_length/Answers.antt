-- `strings::writing::doubled_length` meets its contract: what is counted and what is left make the whole. Assumes nothing.
use native.Mathlib.Omega.{arith}
use mathlib.Core.Path.{ap}
use lib.ListN.{length}
use Rattle.strings.proofs.QuoteLaws.{doubled-twice, doubled-once, doubled-end}
use Rattle.strings.proofs.writing.doubled_length.Goals as goal
use Rattle.strings.proofs.writing.doubled_length.Goals.{then-b-quote, else-b-quote}

pub loop-b-preserved : goal.loop-b-preserved
loop-b-preserved c =
    let l = c.loop-b in
    elim c.if-b-quote.branch [
      | then-b-quote w ↦ rw w.n-is (omega (arith, l.invariant.0, doubled-twice _ _ _ c.loop-b-test.true w.if-b-quote.true), omega (arith, l.invariant.1))
      | else-b-quote w ↦ rw w.n-is (omega (arith, l.invariant.0, doubled-once _ _ _ c.loop-b-test.true w.if-b-quote.false), omega (arith, l.invariant.1))
    ]

pub returns : goal.returns
returns c = omega (arith, c.loop-b.invariant.0, ap length (doubled-end c.args.quote c.args.bytes.now c.loop-b.b-index c.loop-b-test.false))
