-- `integers::reading::value_of` meets its contract. Assumes nothing.
use mathlib.Core.Path.{sym, ◌∙◌}
use Rattle.integers.proofs.ReadingLaws.{decimal-is, hexadecimal-is}
use Rattle.integers.proofs.reading.value_of.Goals as goal

pub returns-then-is_hex : goal.returns-then-is_hex
returns-then-is_hex c = hexadecimal-is c.args.lexeme.now (sym c.is_hex.ensures ∙ c.if-is_hex.true) c.value_in.ensures

pub returns : goal.returns
returns c = decimal-is c.args.lexeme.now (sym c.is_hex.ensures ∙ c.if-is_hex.false) c.value_in-2.ensures
