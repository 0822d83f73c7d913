-- `integers::writing::write_integer` meets its contract. Assumes nothing.
use Rattle.integers.specs.Calls.{WritesInteger}
use Rattle.integers.proofs.SignLaws.{below-literal, above-literal}
use Rattle.integers.proofs.WritingLaws.{fills-as}
use Rattle.integers.proofs.writing.write_integer.Goals as goal

pub returns-then-value-lt0 : goal.returns-then-value-lt0
unfolding WritesInteger
returns-then-value-lt0 c = fills-as (below-literal _ c.ranges.value c.cast_unsigned.ensures c.if-value-lt0.true) c.write_hexadecimal.ensures

pub returns : goal.returns
unfolding WritesInteger
returns c = fills-as (above-literal _ c.ranges.value c.cast_unsigned-2.ensures c.if-value-lt0.false) c.write_decimal.ensures
