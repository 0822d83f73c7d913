-- `strings::reading::unquote` meets its contract: the closing byte tells the bytes. Assumes nothing.
use Rattle.strings.proofs.LexemeLaws.{told-fills}
use Rattle.strings.proofs.reading.unquote.Goals as goal

pub returns : goal.returns
returns c = told-fills c.requires c.closing.ensures c.undouble.ensures
