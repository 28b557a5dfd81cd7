-- A record of the file as it is told: where it starts, the sentence of its first word, and which one it is; and the test of a number that stands in it
-- (refusal 5). Assumes nothing.
use Rattle.std.specs.Prelude.{ℕ, ◌+◌, ◌/◌, List}
use Rattle.refusal.specs.Test.{Test, limited}
use Rattle.sentences.specs.Sentences.{of_courses, of_deadwood, of_seams}
use Rattle.file.specs.declared.section.Section.{Section}
use Rattle.file.specs.declared.section.Records.{Records}
use Rattle.file.specs.declared.section.Records.TheVariants.{Courses, Deadwood, Seams}
use Rattle.file.specs.Word.{word}
use Rattle.file.specs.Section.{record_at}
use Rattle.records.specs.declared.record.Record.{Record}

-- the sentence of the first word of a record
abbrev pub first_sentence : Records → ℕ
first_sentence Courses = of_courses
first_sentence Deadwood = of_deadwood
first_sentence Seams = of_seams

-- record i of a section, which one counts from 1
abbrev pub record_of : Section → ℕ → Record
record_of x i = record { at = record_at x i; sentence = first_sentence x.records; item = i + 1 }

-- a number that stands at byte k of a record is within its limits
abbrev pub number_test : Record → (k low number high : ℕ) → Test
number_test x k low number high = limited 5 (x.at + k) (x.sentence + k / 4) x.item low number high

-- .. as it stands there
abbrev pub limit : List ℕ → Record → (k low high : ℕ) → Test
limit s x k low high = number_test x k low (word s (x.at + k)) high
