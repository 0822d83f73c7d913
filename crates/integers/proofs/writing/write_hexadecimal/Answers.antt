-- `integers::writing::write_hexadecimal` meets its contract. Assumes nothing.
use Prim.Native.Nat.{ℕ, ◌≤◌}
use native.Mathlib.Omega.{arith}
use mathlib.Core.Path.{◌≡◌, sym, ◌∙◌, ap}
use mathlib.Core.List.{◌++◌}
use lib.ListN.{length, take, drop, length-append, length-drop}
use lib.Seq.{length-take-le}
use Rattle.buffers.proofs.FillLaws.{fills, no_room}
use Rattle.integers.specs.Numbers.{padded}
use Rattle.integers.proofs.WritingLaws.{hexadecimal-long, prefixed}
use Rattle.integers.proofs.writing.write_hexadecimal.Goals as goal

pub returns-then-buffer-lt18 : goal.returns-then-buffer-lt18
returns-then-buffer-lt18 c = no_room (omega (arith, c.if-buffer-lt18.true, hexadecimal-long c.args.bits))

pub returns : goal.returns
returns c =
    let l = hexadecimal-long c.args.bits in
    let xs = c.copy_from_slice.new.self ++ drop 2 c.args.buffer.now in
    let front : length c.copy_from_slice.new.self ≡ 2 = c.copy_from_slice.ensures.len ∙ length-take-le 2 c.args.buffer.now (omega (arith, c.if-buffer-lt18.false)) in
    let room : 18 ≤ length xs = omega (arith, front, length-append c.copy_from_slice.new.self (drop 2 c.args.buffer.now), length-drop 2 c.args.buffer.now, c.if-buffer-lt18.false) in
    let mid : length (take 16 (drop 2 xs)) ≡ 16 = length-take-le 16 (drop 2 xs) (omega (arith, length-drop 2 xs)) in
    fills (omega (arith, c.if-buffer-lt18.false)) (sym l)
    (prefixed _ _ c.copy_from_slice.ensures.after (c.put_digits.ensures ∙ ap (λ (k : ℕ). padded 16 k c.args.bits) mid))
