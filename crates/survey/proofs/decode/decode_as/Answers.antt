-- `survey::decode::decode_as` meets its contract: what judging the file told, and that its tank is within the limits. Assumes nothing.
use Rattle.std.proofs.Common.{sym}
use Rattle.refusal.specs.Test.{verdict}
use Rattle.dimensions.specs.JudgedLaws.{told_found}
use Rattle.survey.specs.Tests.{file_tests}
use Rattle.survey.proofs.SurveyLaws.{passed_file, survey_fits}
use Rattle.survey.proofs.decode.decode_as.Goals as goal

pub survey_of-requires : goal.survey_of-requires
survey_of-requires c =
    let f = c.args.f in
    let s = c.args.s.now in
    let told = told_found f s (verdict (file_tests f s)) (sym c.in_ok-found.ensures.value) in
    let readable = c.in_ok-found.ensures.readable in
    record {
      file = ((passed_file f s readable told.0).0.placed, told.1);
      limits = rw (told.2, told.3) (survey_fits f s readable told.0);
    }
