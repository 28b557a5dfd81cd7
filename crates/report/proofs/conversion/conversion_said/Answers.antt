-- `report::conversion::conversion_said` meets its contract: there is room for a file that is converted. Assumes nothing.
use Rattle.std.proofs.Common.{arith, length-take}
use Rattle.convert.specs.ConvertedLaws.{converted_short}
use Rattle.report.proofs.conversion.conversion_said.Goals as goal

pub shared_ref_as_front-file_said : goal.shared_ref_as_front-file_said
shared_ref_as_front-file_said c = rw (← c.in-Ok.ensures.value) at (converted_short c.args.survey.now)

pub returns-in-Ok : goal.returns-in-Ok
returns-in-Ok c =
    let short = rw (← c.in-Ok.ensures.value) at (converted_short c.args.survey.now) in
    rw (← c.in-Ok.ensures.value) (c.file_said.ensures _ (omega arith) (rw length-take (omega (arith, short))))

pub returns-in-Err : goal.returns-in-Err
returns-in-Err c = rw (← c.in-Err.ensures.value) (c.file_said-in-Err.ensures _ (omega arith) tt)
