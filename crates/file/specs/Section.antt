-- The sections of a survey file as data: which records one holds, how many, from which byte on and how long each is (document 01, 'The
-- survey file'). Assumes nothing.
use Rattle.std.specs.Prelude.{ℕ, ◌+◌, ◌*◌, Bool, ◌&&◌, ◌||◌, List, [], ◌∷◌, leb, eqb}
use Rattle.laws.specs.Order.{pick}
use Rattle.file.specs.declared.format.Format.{Format}
use Rattle.file.specs.declared.section.Section.{Section}
use Rattle.file.specs.declared.section.Section.TheInside.{Inside}
use Rattle.file.specs.declared.section.Records.{Records}
use Rattle.file.specs.declared.section.Records.TheVariants.{Courses, Deadwood, Seams}
use Rattle.file.specs.Word.{word}
use Rattle.file.specs.Layout.{courses_at, deadwood_at, seams_at, course_end, item_end, seam_end, has_seams}

-- the words of a record of a kind
abbrev pub record_long : Records → ℕ
record_long Courses = course_end
record_long Deadwood = item_end
record_long Seams = seam_end

-- what is said of a section: all that its fields have
abbrev pub place : Inside → Section
place x = record { records = x.records; count = x.count; offset = x.offset; size = x.size }

-- a section of records of a size, whose count and byte offset stand at a byte of the header
abbrev pub section_at : Records → (at size : ℕ) → List ℕ → Section
section_at records at size s = record { records = records; count = word s at; offset = word s (at + 4); size = size }

abbrev pub courses : Format → List ℕ → Section
courses f s = section_at Courses courses_at f.course s

abbrev pub deadwood : Format → List ℕ → Section
deadwood f s = section_at Deadwood deadwood_at f.deadwood s

-- a word of the seams' in the header; a format that lacks it has 0
abbrev pub seam_word : Format → List ℕ → ℕ → ℕ
seam_word f s at = pick (has_seams f) (word s at) 0

abbrev pub seams : Format → List ℕ → Section
seams f s = record { records = Seams; count = seam_word f s seams_at; offset = seam_word f s (seams_at + 4); size = f.seam }

-- a file's sections, in the order in which their numbers are tested
abbrev pub sections : Format → List ℕ → List Section
sections f s = courses f s ∷ deadwood f s ∷ seams f s ∷ []

-- how many seam items there must be: one for each course, where the format has them
abbrev pub seam_items : Format → List ℕ → ℕ
seam_items f s = pick (has_seams f) (courses f s).count 0

-- the byte where record i starts
abbrev pub record_at : Section → ℕ → ℕ
record_at x i = x.offset + x.size * i

-- the byte behind the last record
abbrev pub end_of : Section → ℕ
end_of x = record_at x x.count

-- an empty section's offset is not looked at; another starts behind the header and ends inside the file
unfoldable pub placed : (header file_size : ℕ) → Section → Bool
placed header file_size x = eqb x.count 0 || (leb header x.offset && leb (end_of x) file_size)

-- two sections do not overlap
unfoldable pub apart : Section → Section → Bool
apart x y = eqb x.count 0 || (eqb y.count 0 || (leb (end_of x) y.offset || leb (end_of y) x.offset))
