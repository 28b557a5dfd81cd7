-- Document 01's example survey, byte by byte: kind 0, DH 50,000, L1 100,000, ends 160,221, L2 0, step 10,000, one course (160,221,
-- 160,221, 100,000, 500), no deadwood, no seams. And what it is decoded to, which is a computation. Assumes nothing.
use Rattle.std.specs.Prelude.{refl}
use Rattle.laws.specs.Fill.{rows_of}
use Rattle.laws.specs.Nearest.{nearest}
use Rattle.laws.specs.Root.{root, root_of}
use Rattle.refusal.specs.Test.{items}
use Rattle.heads.specs.Kind.{kind_known, kind_of}
use Rattle.seams.specs.Rise.{first_term, second_term, tape_rise}
use Rattle.file.specs.Word.{word, signed_word}
use Rattle.file.specs.Section.{placed, apart}
use Rattle.form.specs.Tests.{layout_tests}
use Rattle.readings.specs.Reading.{rise_of}
use Rattle.numbers.specs.Tests.{header_tests, course_tests, item_tests, seam_tests}
use Rattle.readings.specs.Tests.{reading_tests}
use Rattle.dimensions.specs.Dimensions.{sum_of, sums_over, outer_diameter, wall, shell_diameter, head_diameter, diameter_fits}
use Rattle.dimensions.specs.Tests.{dimension_tests}
use Rattle.survey.specs.Tests.{file_tests}
use Rattle.survey.specs.Survey.{decoded}
use Rattle.survey.specs.ExampleLaws.{six_rows, SixRows, MissingCourses, LongestCaps, seamed_rows}

all_decoded : SixRows six_rows × MissingCourses × LongestCaps × SixRows seamed_rows
unfolding rows_of nearest root root_of items kind_known kind_of first_term second_term tape_rise word signed_word placed apart rise_of sum_of sums_over outer_diameter wall shell_diameter head_diameter diameter_fits layout_tests header_tests course_tests item_tests seam_tests reading_tests dimension_tests file_tests decoded
all_decoded = (refl, (refl, refl, refl, refl), refl, refl)

pub six_rows_decoded : SixRows six_rows
six_rows_decoded = all_decoded.0

-- D1 goes by the sum of the lengths, and the shell is L1 long all the same
pub missing_courses_decoded : MissingCourses
missing_courses_decoded = all_decoded.1

pub longest_caps_decoded : LongestCaps
longest_caps_decoded = all_decoded.2

pub seamed_rows_decoded : SixRows seamed_rows
seamed_rows_decoded = all_decoded.3
