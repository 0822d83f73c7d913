-- `integers::writing::write_decimal` meets its contract. Assumes nothing.
use Prim.Native.Nat.{ℕ}
use native.Mathlib.Omega.{arith}
use mathlib.Core.Path.{◌≡◌, sym, ◌∙◌, ap}
use mathlib.Core.List.{List, ◌++◌}
use lib.ListN.{length, take, drop}
use lib.Seq.{length-take-le}
use Rattle.buffers.proofs.FillLaws.{fills, no_room}
use Rattle.integers.specs.Numbers.{padded, width}
use Rattle.integers.specs.Integers.{decimal}
use Rattle.integers.proofs.WritingLaws.{decimal-long}
use Rattle.integers.proofs.writing.write_decimal.Goals as goal

pub returns-then-buffer-count : goal.returns-then-buffer-count
returns-then-buffer-count c = no_room (omega (arith, c.if-buffer-count.true, c.decimal_width-count.ensures, decimal-long c.args.n))

pub returns : goal.returns
unfolding decimal
returns c =
    let w = c.decimal_width-count.ensures in
    let long = decimal-long c.args.n in
    let count : length (take c.decimal_width-count.result c.args.buffer.now) ≡ width 19 c.args.n = length-take-le _ c.args.buffer.now (omega (arith, c.if-buffer-count.false)) ∙ w in
    let put : c.put_digits.new.places ≡ decimal c.args.n = c.put_digits.ensures ∙ ap (λ (k : ℕ). padded 10 k c.args.n) count in
    fills (omega (arith, c.if-buffer-count.false)) (w ∙ sym long)
    (ap (λ (v : List ℕ). v ++ drop c.decimal_width-count.result c.args.buffer.now) put ∙ ap (λ (k : ℕ). decimal c.args.n ++ drop k c.args.buffer.now) (w ∙ sym long))
