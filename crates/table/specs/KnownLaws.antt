-- Every refusal of a file and of its rows has a number in use, so that none is 0 and none is 10, which is retired; and a sentence. Assumes nothing.
use Rattle.refusal.specs.Test.{verdict_in}
use Rattle.std.specs.Prelude.{ℕ, List}
use Rattle.sentences.specs.KnownLaws.{KnownIn}
use Rattle.sentences.proofs.KnownLaws.{first_known}
use Rattle.file.specs.declared.format.Format.{Format}
use Rattle.survey.specs.Survey.{decoded_as, survey_in}
use Rattle.survey.specs.KnownLaws.{decoded_known}
use Rattle.row_tests.specs.RowTestLaws.{rows_known}
use Rattle.table.specs.Answer.{verdict_on}

-- of a file in any format, for a lent table of any length
pub refusal_known : (f : Format) (s : List ℕ) (cells : ℕ) → KnownIn (verdict_on (decoded_as f s) cells)
refusal_known f s cells = first_known (verdict_in (decoded_as f s)) _ (decoded_known f s) (rows_known (survey_in (decoded_as f s)) cells)
