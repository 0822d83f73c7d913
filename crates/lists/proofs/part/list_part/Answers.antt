-- `lists::part::list_part` meets its contract. Assumes nothing.
use mathlib.Core.Path.{refl}
use Rattle.std.proofs.Common.{rules}
use Rattle.lists.proofs.PartLaws.{parts-paused, parts-full, parts-end, parts-refused, too-long-parts}
use Rattle.lists.proofs.part.list_part.Goals as goal

pub returns-then-text-gt-LONGEST_TEXT : goal.returns-then-text-gt-LONGEST_TEXT
returns-then-text-gt-LONGEST_TEXT c = too-long-parts _ _ _ _ _ refl c.if-text-gt-LONGEST_TEXT.true

pub returns-in-Lexeme : goal.returns-in-Lexeme
returns-in-Lexeme c = parts-paused _ _ _ _ _ _ _ c.pass-stop.ensures refl c.if-text-gt-LONGEST_TEXT.false c.in-Lexeme.is (search rules)

pub returns-in-Lexeme-2 : goal.returns-in-Lexeme-2
returns-in-Lexeme-2 c = parts-full _ _ _ _ _ _ _ c.pass-stop.ensures refl c.if-text-gt-LONGEST_TEXT.false c.in-Lexeme.is (search rules)

pub returns-in-End : goal.returns-in-End
returns-in-End c = parts-end _ _ _ _ _ _ _ c.pass-stop.ensures refl c.if-text-gt-LONGEST_TEXT.false c.in-End.is

pub returns-in-Refused : goal.returns-in-Refused
returns-in-Refused c = parts-refused _ _ _ _ _ _ _ c.pass-stop.ensures refl c.if-text-gt-LONGEST_TEXT.false _ _ _ c.in-Refused.is
