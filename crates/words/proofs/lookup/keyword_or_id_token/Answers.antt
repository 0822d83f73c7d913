-- `words::lookup::keyword_or_id_token` meets its contract: by the word's row, or by its length. Assumes nothing.
use mathlib.Core.Path.{sym, ◌∙◌, ap}
use Rattle.keywords.specs.Rows.{kind_of_row}
use Rattle.words.proofs.FoldLaws.{short-word, long-word}
use Rattle.words.proofs.lookup.keyword_or_id_token.Goals as goal

pub returns-then-n-le17 : goal.returns-then-n-le17
returns-then-n-le17 c = c.kind_of_row.ensures ∙ ap (kind_of_row _) c.fold.ensures ∙ short-word _ c.if-n-le17.true

pub returns-else-n-le17 : goal.returns-else-n-le17
returns-else-n-le17 c = sym (long-word _ c.if-n-le17.false)
