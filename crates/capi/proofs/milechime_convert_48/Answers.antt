-- `capi::milechime_convert_48` meets its contract: what the library says of the file, said of the numbers. Assumes nothing.
use Rattle.std.proofs.Common.{◌∙◌, ap}
use Rattle.convert.specs.Converted.{converted}
use Rattle.answers.specs.Numbers.{converted_numbers}
use Rattle.convert.specs.ConvertedLaws.{converted_short}
use Rattle.answers.specs.PromiseLaws.{converted_keeps, numbers_short}
use Rattle.capi.proofs.milechime_convert_48.Goals as goal

pub converted_numbers-requires : goal.converted_numbers-requires
converted_numbers-requires c = rw c.convert_48.ensures.value (converted_short c.args.survey.now)

pub returns-clause-converted_keeps : goal.returns-clause-converted_keeps
returns-clause-converted_keeps c =
    let told = c.convert_48.ensures in
    rw (c.converted_numbers.ensures ∙ ap converted_numbers told.value)
    (converted_keeps c.args.survey.now (rw told.value at told.keeps))

pub returns-clause-length_le_most_bytes : goal.returns-clause-length_le_most_bytes
returns-clause-length_le_most_bytes c =
    let s = c.args.survey.now in
    rw (c.converted_numbers.ensures ∙ ap converted_numbers c.convert_48.ensures.value) (numbers_short (converted s) (converted_short s))
