-- `capi::milechime_litres` meets its contract: what the library says of the volume, said of the numbers. Assumes nothing.
use Rattle.std.proofs.Common.{◌∙◌, ap}
use Rattle.lookup.specs.Answer.{litres_answer}
use Rattle.measure.specs.Quantity.{dip_units}
use Rattle.answers.specs.Numbers.{litres_numbers}
use Rattle.answers.specs.PromiseLaws.{on_table_answered, number_12}
use Rattle.capi.proofs.milechime_litres.Goals as goal

pub returns-clause-on_table_answered : goal.returns-clause-on_table_answered
returns-clause-on_table_answered c =
    let a = c.args in
    let told = c.litres_at.ensures in
    let asked = ap dip_units c.from.ensures in
    let answer = told.value ∙ ap (litres_answer a.dh a.step a.table.now) asked in
    rw (c.litres_numbers.ensures ∙ ap litres_numbers answer)
    (on_table_answered a.dh a.step a.table.now a.height (rw (answer, asked) at told.read_off))

pub returns-clause-exactly : goal.returns-clause-exactly
returns-clause-exactly c =
    let a = c.args in
    let answer = c.litres_at.ensures.value ∙ ap (litres_answer a.dh a.step a.table.now) (ap dip_units c.from.ensures) in
    rw (c.litres_numbers.ensures ∙ ap litres_numbers answer) (number_12 a.dh a.step a.table.now a.height)
