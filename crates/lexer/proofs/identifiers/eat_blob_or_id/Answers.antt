-- `lexer::identifiers::eat_blob_or_id` meets its contract. Assumes nothing.
use mathlib.Core.Path.{◌∙◌, sym}
use Rattle.lexer.proofs.IdentifierLaws.{word_first, x-first, x-quote, x-word}
use Rattle.lexer.proofs.identifiers.eat_blob_or_id.Goals.{else-sees-via-then-sees+else-sees-2, else-sees-via-else-sees}
use Rattle.lexer.proofs.identifiers.eat_blob_or_id.Goals as goal

pub eat_id-requires : goal.eat_id-requires
eat_id-requires c = elim c.else-sees.branch [
  | else-sees-via-then-sees+else-sees-2 w ↦
      let reads = x-first c.eat-rest.ensures.place (sym c.sees.ensures ∙ w.if-sees.true) in
      x-word reads (sym w.sees-then-sees.ensures ∙ w.if-sees-2.false)
  | else-sees-via-else-sees w ↦ word_first c.eat-rest.ensures.place c.requires (sym c.sees.ensures ∙ w.if-sees.false)
]

pub eat_blob-requires : goal.eat_blob-requires
eat_blob-requires c =
    let reads = x-first c.eat-rest.ensures.place (sym c.sees.ensures ∙ c.if-sees.true) in
    x-quote reads (sym c.sees-then-sees.ensures ∙ c.if-sees-2.true) c.eat.ensures.place
