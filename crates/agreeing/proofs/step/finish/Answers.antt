-- `agreeing::step::finish` meets its contract. Assumes nothing.
use Rattle.grammar.specs.Longest.{source}
use Rattle.agreeing.proofs.StepLaws.{finishes-end, finishes-early}
use Rattle.agreeing.proofs.step.finish.Goals as goal

pub returns-in-End : goal.returns-in-End
returns-in-End c =
    let a = c.args in
    finishes-end (source a.profile a.text.now) a.place.next.at a.count _ c.in-End.ensures

pub returns-in_default : goal.returns-in_default
returns-in_default c =
    let a = c.args in
    finishes-early (source a.profile a.text.now) a.place.next.at a.count c.next.result c.next.ensures c.in_default.not-End
