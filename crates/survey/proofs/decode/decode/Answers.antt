-- `survey::decode::decode` meets its contract: today's format can be read. Assumes nothing.
use Rattle.std.proofs.Common.{◌∙◌, ap}
use Rattle.survey.specs.Survey.{decoded_as, decoded}
use Rattle.survey.proofs.decode.decode.Goals as goal

pub returns-clause-value : goal.returns-clause-value
unfolding decoded
returns-clause-value c = c.decode_as.ensures ∙ ap (λ f. decoded_as f c.args.s.now) c.today.ensures
