-- What a file that passes refusals 1 to 5 promises of its courses, as plain facts. Assumes nothing.
use Rattle.std.specs.Prelude.{ℕ, ◌<◌, ◌≡◌, List, Ok}
use Rattle.refusal.specs.Test.{verdict}
use Rattle.refusal.specs.TestLaws.{passed_append, passed_items}
use Rattle.file.specs.declared.format.Format.{Format}
use Rattle.file.specs.Section.{courses}
use Rattle.form.specs.PlacedLaws.{Placed}
use Rattle.readings.specs.Reading.{rise_of}
use Rattle.readings.specs.CourseLaws.{CoursesFit, course_fits}
use Rattle.records.specs.Record.{record_of}
use Rattle.numbers.specs.Tests.{limit_tests}
use Rattle.readings.specs.Tests.{reading_tests, corrected_tests, number_tests}
use Rattle.numbers.specs.FitLaws.{LimitsFit, course_passes}

-- a file that passes refusals 1 to 5
pub record NumbersFit (f : Format) (s : List ℕ) : Type 0 where
  pub placed : Placed f s
  pub numbers : verdict (number_tests f s) ≡ Ok tt

pub as_they_stand : (f : Format) (s : List ℕ) → NumbersFit f s → LimitsFit f s
as_they_stand f s fit = record { placed = fit.placed; limits = (passed_append (limit_tests f s) (corrected_tests f s) fit.numbers).0 }

module _ (f : Format) (s : List ℕ) (fit : NumbersFit f s) where
  pub reading_passes : (i : ℕ) → i < (courses f s).count → verdict (reading_tests s (record_of (courses f s) i) (rise_of f s i)) ≡ Ok tt
  reading_passes i l =
      passed_items (courses f s).count (λ k. reading_tests s (record_of (courses f s) k) (rise_of f s k))
      (passed_append (limit_tests f s) (corrected_tests f s) fit.numbers).1 i l

  pub courses_fit : CoursesFit f s
  courses_fit i l = course_fits s (record_of (courses f s) i) (rise_of f s i) (course_passes f s (as_they_stand f s fit) i l) (reading_passes i l)
