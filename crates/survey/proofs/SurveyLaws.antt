-- What a file that is not refused promises of its survey, as plain facts. Assumes nothing.
use Rattle.std.specs.Prelude.{ℕ, ◌≤◌, ◌≡◌, refl, true, List, Ok, Err}
use Rattle.laws.specs.BoolLaws.{both_pass}
use Rattle.measure.specs.Diameter.{smallest, largest}
use Rattle.refusal.specs.Test.{verdict, within, near, Verdict}
use Rattle.refusal.specs.TestLaws.{refused_not_passed, passed_all, within_pass}
use Rattle.heads.specs.Kind.{kind_of}
use Rattle.heads.specs.LengthLaws.{within_limits}
use Rattle.file.specs.declared.format.Format.{Format}
use Rattle.file.specs.Word.{word}
use Rattle.file.specs.Layout.{kind_at, dh_at, l3_at}
use Rattle.file.specs.Format.{today}
use Rattle.file.specs.SectionLaws.{Readable, today_readable}
use Rattle.readings.specs.FitLaws.{NumbersFit, as_they_stand}
use Rattle.numbers.specs.FitLaws.{dh_fits, step_fits, lengths_fit, head_length_fits, items_fit}
use Rattle.dimensions.specs.Dimensions.{farthest, d1, d2, diameter_fits}
use Rattle.dimensions.specs.Tests.{dimension_tests}
use Rattle.survey.specs.Tests.{file_tests}
use Rattle.survey.specs.DimensionLaws.{taken_apart, numbers_pass}
use Rattle.survey.specs.Survey.{survey_of, decoded_by, decoded_as, decoded}
use Rattle.survey.specs.SurveyLaws.{SurveyLimits, WithinLimits}

fits_within : (d dh : ℕ) → diameter_fits d dh ≡ true → (smallest ≤ d) × (d ≤ largest)
unfolding diameter_fits
fits_within d dh e = within_pass smallest d largest (both_pass (near d dh farthest) (within smallest d largest) e).1

pub passed_file : (f : Format) (s : List ℕ) → Readable f → verdict (file_tests f s) ≡ Ok tt → NumbersFit f s × (verdict (dimension_tests f s) ≡ Ok tt)
passed_file f s readable e = let parts = taken_apart f s e in (numbers_pass f s parts.0 readable, parts.1)

pub survey_fits : (f : Format) (s : List ℕ) → Readable f → verdict (file_tests f s) ≡ Ok tt → SurveyLimits (survey_of f s)
unfolding dimension_tests
survey_fits f s readable e =
    let numbers = (passed_file f s readable e).0 in
    let fit = as_they_stand f s numbers in
    let pass = passed_all (dimension_tests f s) (passed_file f s readable e).1 in
    let shell = fits_within (d1 f s) (word s dh_at) pass.1.0 in
    let heads = fits_within (d2 f s) (word s dh_at) pass.1.1.0 in
    record {
      tank = record {
        dh_low = (dh_fits f s fit).0;
        dh_high = (dh_fits f s fit).1;
        d1_low = shell.0;
        d1_high = shell.1;
        d2_low = heads.0;
        d2_high = heads.1;
        l1_high = (lengths_fit f s fit).0;
        l2_high = (lengths_fit f s fit).1;
        heads = within_limits (kind_of (word s kind_at)) (d2 f s) (word s l3_at) (head_length_fits f s fit).0 (head_length_fits f s fit).1 pass.1.1.1.0;
      };
      step_low = (step_fits f s fit).0;
      step_high = (step_fits f s fit).1;
      items = items_fit f s fit;
    }

-- what decoding gives is within its limits, whatever the file
pub decoded_as_fits : (f : Format) (s : List ℕ) → Readable f → WithinLimits (decoded_as f s)
decoded_as_fits f s readable = by_verdict (verdict (file_tests f s)) refl
  where
    by_verdict : (v : Verdict) → verdict (file_tests f s) ≡ v → WithinLimits (decoded_by v (survey_of f s))
    by_verdict (Ok tt) e = λ p. survey_fits f s readable e
    by_verdict (Err r) e = λ p. absurd (refused_not_passed r p)

pub decoded_fits : (s : List ℕ) → WithinLimits (decoded s)
unfolding decoded
decoded_fits s = decoded_as_fits today s today_readable
