-- What a file that refusals 6, 7 and 14 can be given to promises: these are its verdict. Assumes nothing.
use Rattle.std.specs.Prelude.{ℕ, ◌≡◌, true, List, ◌++◌, Ok}
use Rattle.std.proofs.Common.{◌∙◌}
use Rattle.refusal.specs.Test.{verdict, verdict_in}
use Rattle.refusal.specs.TestLaws.{verdict_append, passed_all, passed_append}
use Rattle.heads.specs.Kind.{kind_known}
use Rattle.file.specs.declared.format.Format.{Format}
use Rattle.file.specs.Word.{word}
use Rattle.file.specs.Layout.{kind_at}
use Rattle.file.specs.Format.{today}
use Rattle.form.specs.Tests.{size_tests, layout_tests}
use Rattle.file.specs.SectionLaws.{Readable}
use Rattle.form.specs.PlacedLaws.{placed_file}
use Rattle.readings.specs.Tests.{number_tests}
use Rattle.readings.specs.FitLaws.{NumbersFit}
use Rattle.dimensions.specs.Tests.{dimension_tests}
use Rattle.survey.specs.Tests.{file_tests}
use Rattle.survey.specs.Survey.{decoded}
use Rattle.survey.specs.KnownLaws.{decoded_verdict}

-- refusals 1 to 5 are not given
pub record FirstFivePass (f : Format) (s : List ℕ) : Type 0 where
  pub size : verdict (size_tests f s) ≡ Ok tt
  pub layout : verdict (layout_tests f s) ≡ Ok tt
  pub numbers : verdict (number_tests f s) ≡ Ok tt

-- of a file that passes, the tests taken apart
pub taken_apart : (f : Format) (s : List ℕ) → verdict (file_tests f s) ≡ Ok tt → FirstFivePass f s × (verdict (dimension_tests f s) ≡ Ok tt)
unfolding file_tests
taken_apart f s e =
    let size = passed_append (size_tests f s) (layout_tests f s ++ (number_tests f s ++ dimension_tests f s)) e in
    let layout = passed_append (layout_tests f s) (number_tests f s ++ dimension_tests f s) size.1 in
    let numbers = passed_append (number_tests f s) (dimension_tests f s) layout.1 in
    (record { size = size.0; layout = layout.0; numbers = numbers.0 }, numbers.1)

module _ (f : Format) (s : List ℕ) (pass : FirstFivePass f s) where
  -- all that they ask holds
  pub numbers_pass : Readable f → NumbersFit f s
  numbers_pass readable = record { placed = placed_file f s readable pass.size pass.layout; numbers = pass.numbers }

  pub kind_known_law : kind_known (word s kind_at) ≡ true
  unfolding layout_tests
  kind_known_law = (passed_all (layout_tests f s) pass.layout).1.1.1.1.1.1.1.1.1.0

  -- .. and 6, 7 and 14 are the verdict
  pub dimensions_decide : verdict (file_tests f s) ≡ verdict (dimension_tests f s)
  unfolding file_tests
  dimensions_decide =
      rw (
        verdict_append (size_tests f s) (layout_tests f s ++ (number_tests f s ++ dimension_tests f s)),
        pass.size,
        verdict_append (layout_tests f s) (number_tests f s ++ dimension_tests f s),
        pass.layout,
        verdict_append (number_tests f s) (dimension_tests f s),
        pass.numbers,
      )

-- .. on a file in today's format
pub decoded_by_dimensions : (s : List ℕ) → FirstFivePass today s → verdict_in (decoded s) ≡ verdict (dimension_tests today s)
decoded_by_dimensions s pass = decoded_verdict s ∙ dimensions_decide today s pass
