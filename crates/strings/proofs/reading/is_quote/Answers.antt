-- `strings::reading::is_quote` meets its contract, arm by arm. Assumes nothing.
use borrow.Author.Rules.{rules}
use mathlib.Core.Path.{sym}
use mathlib.Core.Logic.{inl, inr}
use Rattle.strings.proofs.LexemeLaws.{opens, opens-no}
use Rattle.strings.proofs.reading.is_quote.Goals as goal

pub returns-in-34 : goal.returns-in-34
returns-in-34 c =
    elim c.in-34.is [
      | inl e ↦ rw e (sym (opens _).0)
      | inr e ↦ rw e (sym (opens _).1)
    ]

pub returns-in-Sqlite : goal.returns-in-Sqlite
returns-in-Sqlite c = rw (c.in-91.is, c.in-Sqlite.is) (sym (opens _).2)

pub returns-in_default-matches : goal.returns-in_default-matches
returns-in_default-matches c = rw (c.in-91.is, c.in_default-matches.is) (sym (opens _).2)

pub returns-in_default : goal.returns-in_default
returns-in_default c = sym (opens-no c.args.profile c.args.b (search rules) (search rules) (search rules))
