-- `integers::reading::value_in` meets its contract: so few digits fit. Assumes nothing.
use native.Mathlib.Omega.{arith}
use mathlib.Core.Path.{sym, ◌∙◌, ap}
use Rattle.buffers.specs.Buffers.{valued}
use Rattle.integers.specs.Integers.{signed}
use Rattle.integers.proofs.SignLaws.{in-range, cast-valued}
use Rattle.integers.proofs.reading.value_in.Goals as goal

pub returns-then-digits : goal.returns-then-digits
returns-then-digits g c =
    cast-valued (omega arith) c.cast_signed.ensures
    ∙ ap (λ n. valued (signed n)) c.small_number.ensures
    ∙ sym (in-range _ _ (omega (arith, c.requires.fits (omega arith), c.requires.few)))
