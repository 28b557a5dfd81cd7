-- `lookup::height::height_for` meets its contract: of a height, the answer tells what it is. Assumes nothing.
use Rattle.std.proofs.Common.{rules}
use Rattle.lookup.specs.Answer.{height_answer}
use Rattle.lookup.proofs.AnswerLaws.{lowest_told}
use Rattle.lookup.proofs.height.height_for.Goals as goal

pub returns-clause-reached : goal.returns-clause-reached
unfolding height_answer
returns-clause-reached c = lowest_told _ _ _ _ _ (search rules)
