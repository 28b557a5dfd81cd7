-- Refusals 1 to 4 as an ordered list of tests, each with what it is about: what a file is tested for before any of its numbers is.
-- Assumes nothing.
use Rattle.std.specs.Prelude.{ℕ, ◌+◌, ◌/◌, List, [], ◌∷◌, ◌++◌, leb, length}
use Rattle.refusal.specs.Test.{Test, about, test, limited}
use Rattle.sentences.specs.Sentences.{of_header, of_size, of_large_file, of_deadwood_over_courses, of_seams_over_courses, of_seams_over_deadwood}
use Rattle.deadwood.specs.Item.{most_items}
use Rattle.heads.specs.Kind.{kind_known}
use Rattle.file.specs.declared.format.Format.{Format}
use Rattle.file.specs.declared.section.Section.{Section}
use Rattle.file.specs.declared.section.Records.{Records}
use Rattle.file.specs.declared.section.Records.TheVariants.{Courses, Deadwood, Seams}
use Rattle.file.specs.Word.{word}
use Rattle.file.specs.Layout.{kind_at, courses_at, deadwood_at, seams_at}
use Rattle.file.specs.Limits.{largest_file, most_courses}
use Rattle.file.specs.Section.{courses, deadwood, seams, sections, seam_items, placed, apart}

-- refusal 1: a size past the largest is not named, since a number of 64 bits with a sign need not hold it
abbrev pub size_tests : Format → List ℕ → List Test
size_tests f s =
    test 1 0 (leb (length s) largest_file) (about of_large_file 0 0 f.header largest_file)
    ∷ limited 1 0 of_size 0 f.header (length s) largest_file
    ∷ []

-- the sentence of a section's count in the header; behind it is that of its byte offset
abbrev pub count_sentence : Records → ℕ
count_sentence Courses = of_header + courses_at / 4
count_sentence Deadwood = of_header + deadwood_at / 4
count_sentence Seams = of_header + seams_at / 4

-- refusal 2: every section's count

abbrev pub count_test : (fewest : ℕ) → Section → (most : ℕ) → Test
count_test fewest x most = limited 2 0 (count_sentence x.records) 0 fewest x.count most

abbrev pub count_tests : Format → List ℕ → List Test
count_tests f s =
    count_test 1 (courses f s) most_courses
    ∷ count_test 0 (deadwood f s) most_items
    ∷ count_test (seam_items f s) (seams f s) (seam_items f s)
    ∷ []

-- refusal 3: every section well placed, and any two of them apart

abbrev pub place_test : (header file_size : ℕ) → Section → Test
place_test header file_size x = test 3 0 (placed header file_size x) (about (count_sentence x.records + 1) x.count x.offset header file_size)

-- the sentence of a section that overlaps one before it in the header
abbrev pub overlap_sentence : (first second : Records) → ℕ
overlap_sentence first Courses = of_deadwood_over_courses
overlap_sentence first Deadwood = of_deadwood_over_courses
overlap_sentence Courses Seams = of_seams_over_courses
overlap_sentence Deadwood Seams = of_seams_over_deadwood
overlap_sentence Seams Seams = of_seams_over_deadwood

abbrev pub apart_test : Section → Section → Test
apart_test x y = test 3 0 (apart x y) (about (overlap_sentence x.records y.records) y.count y.offset 0 0)

abbrev pub apart_tests : Section → List Section → List Test
apart_tests x [] = []
apart_tests x (y ∷ ys) = apart_test x y ∷ apart_tests x ys

abbrev pub place_tests : (header file_size : ℕ) → List Section → List Test
place_tests header file_size [] = []
place_tests header file_size (x ∷ xs) = place_test header file_size x ∷ apart_tests x xs ++ place_tests header file_size xs

-- refusal 4
abbrev pub kind_test : List ℕ → Test
kind_test s = test 4 0 (kind_known (word s kind_at)) (about (of_header + kind_at / 4) 0 (word s kind_at) 0 0)

-- refusals 2 to 4, of a file that has its header
unfoldable pub layout_tests : Format → List ℕ → List Test
layout_tests f s = count_tests f s ++ place_tests f.header (length s) (sections f s) ++ (kind_test s ∷ [])
