-- What courses within their limits promise, as plain facts. Assumes nothing.
use Rattle.std.specs.Prelude.{ℕ, ◌+◌, ◌≤◌, ◌<◌, ◌≡◌, List, Ok}
use Rattle.std.proofs.Common.{arith}
use Rattle.refusal.specs.Test.{verdict}
use Rattle.refusal.specs.TestLaws.{passed_all, within_pass}
use Rattle.tank.specs.Limits.{longest_shell}
use Rattle.file.specs.declared.format.Format.{Format}
use Rattle.file.specs.Word.{word}
use Rattle.file.specs.Layout.{first_in, second_in, length_in, thickness_in}
use Rattle.file.specs.Section.{courses, record_at}
use Rattle.records.specs.declared.record.Record.{Record}
use Rattle.numbers.specs.Limits.{shortest_circumference, longest_circumference, shortest_course, thinnest, thickest}
use Rattle.readings.specs.Reading.{rise_of, corrected}
use Rattle.numbers.specs.Tests.{course_tests}
use Rattle.readings.specs.Tests.{reading_tests}

-- the course at a byte, whose readings have lost the tape rise: neither was shorter than that
pub record CourseFits (s : List ℕ) (at rise : ℕ) : Type 0 where
  pub first : shortest_circumference + rise ≤ word s (at + first_in)
  pub first_high : word s (at + first_in) ≤ longest_circumference
  pub second : shortest_circumference + rise ≤ word s (at + second_in)
  pub second_high : word s (at + second_in) ≤ longest_circumference
  pub some : shortest_course ≤ word s (at + length_in)
  pub long : word s (at + length_in) ≤ longest_shell
  pub thick : word s (at + thickness_in) ≤ thickest

pub course_fits : (s : List ℕ) (x : Record) (rise : ℕ) → verdict (course_tests s x) ≡ Ok tt → verdict (reading_tests s x rise) ≡ Ok tt
    → CourseFits s x.at rise
unfolding course_tests reading_tests
course_fits s x rise e corrects =
    let at = x.at in
    let pass = passed_all (course_tests s x) e in
    let readings = passed_all (reading_tests s x rise) corrects in
    let length = within_pass shortest_course (word s (at + length_in)) longest_shell pass.1.1.0 in
    record {
      first = omega (arith, within_pass shortest_circumference (corrected (word s (at + first_in)) rise) longest_circumference readings.0);
      first_high = (within_pass shortest_circumference (word s (at + first_in)) longest_circumference pass.0).1;
      second = omega (arith, within_pass shortest_circumference (corrected (word s (at + second_in)) rise) longest_circumference readings.1.0);
      second_high = (within_pass shortest_circumference (word s (at + second_in)) longest_circumference pass.1.0).1;
      some = length.0;
      long = length.1;
      thick = (within_pass thinnest (word s (at + thickness_in)) thickest pass.1.1.1.0).1;
    }

-- every course of a file
abbrev pub CoursesFit : Format → List ℕ → Type 0
CoursesFit f s = (i : ℕ) → i < (courses f s).count → CourseFits s (record_at (courses f s) i) (rise_of f s i)
