-- `strings::writing::doubled_length` meets its contract: what is counted and what is left make the whole. Assumes nothing.
use Prim.Native.Nat.{◌+◌, ◌*◌, ◌≤◌}
use mathlib.Core.Path.{◌≡◌}
use lib.ListN.{length, drop}
use Rattle.strings.specs.Quotes.{doubled}
use Rattle.strings.proofs.writing.doubled_length.Given as goal

abbrev pub invariant-loop-b : goal.invariant-loop-b
invariant-loop-b l =
    (l.n + length (doubled l.quote (drop l.b-index l.bytes)) ≡ length (doubled l.quote l.bytes)) × (l.n ≤ l.b-index * 2)
