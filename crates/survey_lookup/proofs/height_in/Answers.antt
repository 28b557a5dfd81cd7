-- `survey_lookup::height_in` meets its contract: what it answers tells the rest. Assumes nothing.
use Rattle.std.proofs.Common.{rules}
use Rattle.survey_lookup.specs.Answer.{height_in}
use Rattle.survey_lookup.specs.AnsweredLaws.{height_in_told}
use Rattle.survey_lookup.proofs.height_in.Goals as goal

pub returns-in_err-t-clause-as_from_file : goal.returns-in_err-t-clause-as_from_file
unfolding height_in
returns-in_err-t-clause-as_from_file c = (height_in_told c.args.t _ (search rules)).1

pub returns-clause-as_from_file : goal.returns-clause-as_from_file
unfolding height_in
returns-clause-as_from_file c = (height_in_told c.args.t _ (search rules)).1
