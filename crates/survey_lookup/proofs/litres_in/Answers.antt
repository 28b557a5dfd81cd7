-- `survey_lookup::litres_in` meets its contract: what it answers tells the rest. Assumes nothing.
use Rattle.std.proofs.Common.{rules}
use Rattle.survey_lookup.specs.Answer.{litres_in}
use Rattle.survey_lookup.specs.AnsweredLaws.{litres_in_told}
use Rattle.survey_lookup.proofs.litres_in.Goals as goal

pub returns-in_err-t-clause-as_from_file : goal.returns-in_err-t-clause-as_from_file
unfolding litres_in
returns-in_err-t-clause-as_from_file c = (litres_in_told c.args.t _ (search rules)).1

pub returns-clause-as_from_file : goal.returns-clause-as_from_file
unfolding litres_in
returns-clause-as_from_file c = (litres_in_told c.args.t _ (search rules)).1
