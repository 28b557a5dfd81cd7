-- Refusals 1 to 7 and 14 as one ordered list of tests, each with its number, its place and what it is about: a later request inserts a line, in the
-- list of the room that the test belongs to. Assumes nothing.
use Rattle.std.specs.Prelude.{ℕ, List, ◌++◌}
use Rattle.refusal.specs.Test.{Test}
use Rattle.file.specs.declared.format.Format.{Format}
use Rattle.form.specs.Tests.{size_tests, layout_tests}
use Rattle.readings.specs.Tests.{number_tests}
use Rattle.dimensions.specs.Tests.{dimension_tests}

-- all of them
unfoldable pub file_tests : Format → List ℕ → List Test
file_tests f s = size_tests f s ++ (layout_tests f s ++ (number_tests f s ++ dimension_tests f s))
