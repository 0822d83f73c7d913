-- `capi::sqllex_pair` meets its contract: the outcome is that of `pair`, in the numbers of `give_pairing`. Assumes nothing.
use mathlib.Core.Path.{subst}
use Rattle.brackets.specs.Brackets.{Outcome}
use Rattle.pairs.specs.Pairs.{Pairs}
use Rattle.verdicts.specs.Pairing.{GavePairing}
use Rattle.capi.proofs.sqllex_pair.Goals as goal

pub returns : goal.returns
unfolding Pairs
returns c =
    let g = c.give_pairing in
    (subst (λ (o : Outcome). GavePairing o g.result g.new.value) c.pair.ensures.0 g.ensures, c.pair.ensures.1)
