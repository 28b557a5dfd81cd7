-- `capi::milechime_height` meets its contract: what the library says of the height, said of the numbers. Assumes nothing.
use Rattle.std.proofs.Common.{◌∙◌, ap}
use Rattle.lookup.specs.Answer.{height_answer}
use Rattle.measure.specs.Quantity.{volume_units}
use Rattle.answers.specs.Numbers.{height_numbers}
use Rattle.answers.specs.PromiseLaws.{lowest_answered, number_13}
use Rattle.capi.proofs.milechime_height.Goals as goal

pub returns-clause-lowest_answered : goal.returns-clause-lowest_answered
returns-clause-lowest_answered c =
    let a = c.args in
    let told = c.height_for.ensures in
    let asked = ap volume_units c.from.ensures in
    let answer = told.value ∙ ap (height_answer a.dh a.step a.table.now) asked in
    rw (c.height_numbers.ensures ∙ ap height_numbers answer)
    (lowest_answered a.dh a.step a.table.now a.volume (rw (answer, asked) at told.reached))

pub returns-clause-exactly : goal.returns-clause-exactly
returns-clause-exactly c =
    let a = c.args in
    let answer = c.height_for.ensures.value ∙ ap (height_answer a.dh a.step a.table.now) (ap volume_units c.from.ensures) in
    rw (c.height_numbers.ensures ∙ ap height_numbers answer) (number_13 a.dh a.step a.table.now a.volume)
