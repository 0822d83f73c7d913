-- `lists::list::list` meets its contract. Assumes nothing.
use native.Mathlib.Omega.{arith}
use mathlib.Core.Path.{refl}
use Rattle.lists.proofs.ListLaws.{lists-full, lists-end, lists-refused, too-long-lists}
use Rattle.lists.proofs.list.list.Goals as goal

pub returns-then-text-gt-LONGEST_TEXT : goal.returns-then-text-gt-LONGEST_TEXT
returns-then-text-gt-LONGEST_TEXT c = too-long-lists _ _ _ _ refl c.if-text-gt-LONGEST_TEXT.true

pub returns-in-Lexeme : goal.returns-in-Lexeme
returns-in-Lexeme c = lists-full _ _ _ _ _ _ _ c.pass-stop.ensures refl c.if-text-gt-LONGEST_TEXT.false (omega arith) c.in-Lexeme.is

pub returns-in-End : goal.returns-in-End
returns-in-End c = lists-end _ _ _ _ _ _ _ c.pass-stop.ensures refl c.if-text-gt-LONGEST_TEXT.false (omega arith) c.in-End.is

pub returns-in-Refused : goal.returns-in-Refused
returns-in-Refused c = lists-refused _ _ _ _ _ _ _ c.pass-stop.ensures refl c.if-text-gt-LONGEST_TEXT.false (omega arith) _ _ _ c.in-Refused.is
