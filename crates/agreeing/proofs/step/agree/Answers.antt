-- `agreeing::step::agree` meets its contract. Assumes nothing.
use mathlib.Core.Path.{◌∙◌, sym}
use Rattle.grammar.specs.Longest.{source}
use Rattle.records.specs.Records.{record_of}
use Rattle.agreeing.proofs.StepLaws.{none-there, its_own, not-its-own}
use Rattle.agreeing.proofs.step.agree.Goals as goal

pub returns-in_default : goal.returns-in_default
returns-in_default c =
    let a = c.args in
    none-there (source a.profile a.text.now) a.place (record_of a.kind a.start a.length a.line a.column) c.next.result c.next.ensures c.in_default.not-Token

pub returns-then-not-is_record : goal.returns-then-not-is_record
returns-then-not-is_record c =
    let a = c.args in
    not-its-own (source a.profile a.text.now) a.place (record_of a.kind a.start a.length a.line a.column) _ _ _ _ _ _ c.in-Token.ensures
    (sym c.if-not-is_record.true ∙ c.is_record.ensures)

pub returns : goal.returns
returns c =
    let a = c.args in
    let line = c.line_behind in
    its_own (source a.profile a.text.now) a.place (record_of a.kind a.start a.length a.line a.column) _ _ _ _ _ _ c.in-Token.ensures
    (sym c.if-not-is_record.false ∙ c.is_record.ensures) line.result line.ensures
