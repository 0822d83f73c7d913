-- What `next` answers is the one thing that Next gives.
use Rattle.spans.proofs.TokenLaws.{no-token, other-kind, other_length, found}
use Rattle.spans.proofs.span.find.Goals.{else-found-kind-via-then-found-kind+else-n-length, else-found-kind-via-else-found-kind}
use Rattle.spans.proofs.span.find.Goals as goal

pub returns-in_default : goal.returns-in_default
returns-in_default c = no-token _ _ _ _ _ _ c.next.ensures c.in_default.not-Token

pub returns-then-n-length : goal.returns-then-n-length
returns-then-n-length c = found _ _ _ _ _ _ _ _ _ _ _ c.in-Token.ensures c.if-found-kind.true c.if-n-length.true

pub returns-else-found-kind : goal.returns-else-found-kind
returns-else-found-kind c =
    elim c.else-found-kind.branch [
      | else-found-kind-via-then-found-kind+else-n-length w ↦ other_length _ _ _ _ _ _ _ _ _ _ _ c.in-Token.ensures w.if-n-length.false
      | else-found-kind-via-else-found-kind w ↦ other-kind _ _ _ _ _ _ _ _ _ _ _ c.in-Token.ensures w.if-found-kind.false
    ]
