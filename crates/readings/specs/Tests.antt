-- The end of refusal 5, the readings of a course less the tape rise over its seams, and the whole of it, as ordered lists of tests. Assumes nothing.
use Rattle.std.specs.Prelude.{ℕ, ◌+◌, List, [], ◌∷◌, ◌++◌}
use Rattle.refusal.specs.Test.{Test, items}
use Rattle.sentences.specs.Sentences.{of_corrected}
use Rattle.file.specs.declared.format.Format.{Format}
use Rattle.file.specs.Word.{word}
use Rattle.file.specs.Layout.{first_in, second_in}
use Rattle.file.specs.Section.{courses}
use Rattle.records.specs.declared.record.Record.{Record}
use Rattle.numbers.specs.Limits.{shortest_circumference, longest_circumference}
use Rattle.readings.specs.Reading.{rise_of, corrected}
use Rattle.records.specs.Record.{record_of, number_test}
use Rattle.numbers.specs.Tests.{limit_tests}

-- a reading of a course, less the tape rise over its seams: the reading is the bad number
abbrev pub reading_test : List ℕ → Record → (k rise : ℕ) → Test
reading_test s x k rise =
    number_test (record { at = x.at; sentence = of_corrected; item = x.item }) k
    shortest_circumference (corrected (word s (x.at + k)) rise) longest_circumference

unfoldable pub reading_tests : List ℕ → Record → (rise : ℕ) → List Test
reading_tests s x rise = reading_test s x first_in rise ∷ reading_test s x second_in rise ∷ []

-- course by course
abbrev pub corrected_tests : Format → List ℕ → List Test
corrected_tests f s = items (courses f s).count (λ i. reading_tests s (record_of (courses f s) i) (rise_of f s i))

-- refusal 5: every number as it stands in the file, and last the readings
abbrev pub number_tests : Format → List ℕ → List Test
number_tests f s = limit_tests f s ++ corrected_tests f s
