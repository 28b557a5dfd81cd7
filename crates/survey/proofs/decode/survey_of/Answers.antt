-- `survey::decode::survey_of` meets its contract: the items are held as those of the file's survey are. Assumes nothing.
use Rattle.std.proofs.Common.{◌≡◌, ◌∙◌, sym, ap, length}
use Rattle.laws.specs.FillLaws.{length_rows_of}
use Rattle.measure.specs.Quantity.{diameter_units}
use Rattle.file.specs.Section.{deadwood}
use Rattle.records.specs.Item.{items_of}
use Rattle.survey.specs.declared.decode.Survey.{Survey}
use Rattle.survey.specs.Survey.{survey_with}
use Rattle.survey.specs.Held.{contents_again, accepted}
use Rattle.survey.proofs.decode.survey_of.Goals as goal

pub invariant_of-result : goal.invariant_of-result
invariant_of-result c =
    let f = c.args.f in
    let s = c.args.s.now in
    let v = survey_with f s (diameter_units c.args.found.d1) (diameter_units c.args.found.d2) in
    let count : c.result.inside.count ≡ length (items_of f s) = ap (λ y. y.count) (c.result.view_is ∙ c.deadwood.ensures) ∙ sym (length_rows_of _ (deadwood f s).count) in
    rw (c.tank_of.ensures, c.word.ensures, c.items.ensures, count) (accepted v c.requires.limits)

pub returns : goal.returns
returns c =
    let f = c.args.f in
    let s = c.args.s.now in
    let v = survey_with f s (diameter_units c.args.found.d1) (diameter_units c.args.found.d2) in
    let count : c.result.inside.count ≡ length (items_of f s) = ap (λ y. y.count) (c.result.view_is ∙ c.deadwood.ensures) ∙ sym (length_rows_of _ (deadwood f s).count) in
    rw (c.tank_of.ensures, c.word.ensures, c.items.ensures, count) (contents_again v)
