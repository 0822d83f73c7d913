-- `strings::writing::write_quoted` meets its contract: the literal is two longer than its body. Assumes nothing.
use native.Mathlib.Omega.{arith}
use Rattle.buffers.proofs.FillLaws.{fills, no_room}
use Rattle.strings.proofs.QuoteLaws.{quoted-long}
use Rattle.strings.proofs.writing.write_quoted.Goals as goal

pub returns-then-buffer-lt2 : goal.returns-then-buffer-lt2
returns-then-buffer-lt2 c = let a = c.args in no_room (omega (arith, quoted-long a.quote a.bytes.now))

pub returns-then-buffer-n : goal.returns-then-buffer-n
returns-then-buffer-n c =
    let a = c.args in
    no_room (omega (arith, c.doubled_length-n.ensures, quoted-long a.quote a.bytes.now))

pub put_quoted-requires : goal.put_quoted-requires
put_quoted-requires c =
    let a = c.args in
    omega (arith, c.doubled_length-n.ensures, quoted-long a.quote a.bytes.now)

pub returns : goal.returns
returns c =
    let a = c.args in
    let n = c.doubled_length-n.ensures in
    let l = quoted-long a.quote a.bytes.now in
    fills (omega (arith, c.if-buffer-n.false)) (omega arith) c.put_quoted.ensures
