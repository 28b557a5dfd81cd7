-- Document 01's example survey with two deadwood items, a word of it changed at a time, so that every test of a file refuses once: the refusal that each
-- gets, and what that is about, which is a computation. Assumes nothing.
use Rattle.std.specs.Prelude.{ℕ, zero, suc, ◌+◌, ◌<◌, ◌≡◌, refl, List, [], ◌∷◌, pos, neg_ℤ, length, Err}
use Rattle.std.proofs.lemmas.Bool.{lt-leb}
use Rattle.laws.specs.Fill.{rows_of}
use Rattle.laws.specs.Nearest.{nearest}
use Rattle.laws.specs.Root.{root, root_of}
use Rattle.refusal.specs.declared.About.{About}
use Rattle.refusal.specs.Test.{about, refusal, items, verdict_in}
use Rattle.sentences.specs.Sentences.{of_header, of_courses, of_deadwood, of_seams, of_corrected, of_size, of_large_file, of_deadwood_over_courses, of_seams_over_courses, of_seams_over_deadwood, of_lengths, of_shell_diameter, of_head_diameter, of_head_length}
use Rattle.heads.specs.Kind.{kind_known, kind_of}
use Rattle.seams.specs.Rise.{first_term, second_term, tape_rise}
use Rattle.file.specs.Word.{word, signed_word, bytes_of}
use Rattle.file.specs.Section.{placed, apart}
use Rattle.form.specs.Tests.{layout_tests}
use Rattle.readings.specs.Reading.{rise_of}
use Rattle.numbers.specs.Tests.{header_tests, course_tests, item_tests, seam_tests}
use Rattle.readings.specs.Tests.{reading_tests}
use Rattle.dimensions.specs.Dimensions.{sum_of, sums_over, outer_diameter, wall, shell_diameter, head_diameter, diameter_fits}
use Rattle.dimensions.specs.Tests.{dimension_tests}
use Rattle.survey.specs.Tests.{file_tests}
use Rattle.survey.specs.Survey.{decoded}

-- document 01's example survey with two deadwood items and a seam item, word by word: the header, the course, the items
abbrev example : List ℕ
example =
    0 ∷ 50000 ∷ 100000 ∷ 160221 ∷ 160221 ∷ 0 ∷ 0 ∷ 10000 ∷ 1 ∷ 56 ∷ 2 ∷ 72 ∷ 1 ∷ 96
    ∷ 160221 ∷ 160221 ∷ 100000 ∷ 500
    ∷ 100 ∷ 200 ∷ 5
    ∷ 300 ∷ 400 ∷ 5
    ∷ 0 ∷ 0 ∷ 0 ∷ []

-- word w made another
abbrev with : (w n : ℕ) → List ℕ → List ℕ
with w n [] = []
with zero n (x ∷ xs) = n ∷ xs
with (suc w) n (x ∷ xs) = x ∷ with w n xs

-- words that get a refusal, and what that is about
abbrev Gets : List ℕ → (number place : ℕ) → About → Type 0
Gets words number place what = verdict_in (decoded (bytes_of words)) ≡ Err (refusal number place what)

-- .. the example with a word made another
abbrev Changed : (w n number place : ℕ) → About → Type 0
Changed w n number place what = Gets (with w n example) number place what

-- with spherical caps that are one too long, and with a seam of 0.20 mm: a rise of 1 u

abbrev caps : List ℕ
caps = with 0 2 (with 6 25001 example)

abbrev seamed : List ℕ
seamed = with 24 1 (with 25 20 example)

-- 2^32 - 10,000,001 is the word of -10,000,001
abbrev volume_too_low : About
volume_too_low = record { sentence = of_deadwood + 2; item = 2; value = neg_ℤ (pos 10000001); low = neg_ℤ (pos 10000000); high = pos 10000000 }

-- every number of the header, in its order: kind, DH, L1, the ends, L2, L3 of flat heads, the step; each count; each offset, and each two sections that overlap
pub header_words :
    Changed 0 3 4 0 (about of_header 0 3 0 0)
    × Changed 1 49999 5 4 (about (of_header + 1) 0 49999 50000 500000)
    × Changed 2 3000001 5 8 (about (of_header + 2) 0 3000001 100000 3000000)
    × Changed 3 149999 5 12 (about (of_header + 3) 0 149999 150000 1600000)
    × Changed 4 1600001 5 16 (about (of_header + 4) 0 1600001 150000 1600000)
    × Changed 5 20001 5 20 (about (of_header + 5) 0 20001 0 20000)
    × Changed 6 1 5 24 (about (of_header + 6) 0 1 0 0)
    × Changed 7 99 5 28 (about (of_header + 7) 0 99 100 10000)
    × Changed 8 41 2 0 (about (of_header + 8) 0 41 1 40)
    × Changed 10 65 2 0 (about (of_header + 10) 0 65 0 64)
    × Changed 8 2 2 0 (about (of_header + 12) 0 1 2 2)
    × Changed 9 55 3 0 (about (of_header + 9) 1 55 56 108)
    × Changed 11 90 3 0 (about (of_header + 11) 2 90 56 108)
    × Changed 13 97 3 0 (about (of_header + 13) 1 97 56 108)
    × Changed 11 71 3 0 (about of_deadwood_over_courses 2 71 0 0)
    × Changed 13 60 3 0 (about of_seams_over_courses 1 60 0 0)
    × Changed 11 73 3 0 (about of_seams_over_deadwood 1 96 0 0)
unfolding rows_of nearest root root_of items kind_known kind_of first_term second_term tape_rise word signed_word placed apart rise_of sum_of sums_over outer_diameter wall shell_diameter head_diameter diameter_fits layout_tests header_tests course_tests item_tests seam_tests reading_tests dimension_tests file_tests decoded
header_words = (refl, refl, refl, refl, refl, refl, refl, refl, refl, refl, refl, refl, refl, refl, refl, refl, refl)

-- every number of a record: the course's, item 1's low height that is its high one, item 2's high height above DH and its volume, the seams'
pub record_words :
    Changed 14 149999 5 56 (about of_courses 1 149999 150000 1600000)
    × Changed 15 1600001 5 60 (about (of_courses + 1) 1 1600001 150000 1600000)
    × Changed 16 0 5 64 (about (of_courses + 2) 1 0 1 3000000)
    × Changed 17 99 5 68 (about (of_courses + 3) 1 99 100 5000)
    × Changed 18 200 5 76 (about (of_deadwood + 1) 1 200 0 50000)
    × Changed 22 50001 5 88 (about (of_deadwood + 1) 2 50001 0 50000)
    × Changed 23 4284967295 5 92 volume_too_low
    × Changed 24 13 5 96 (about of_seams 1 13 0 12)
    × Changed 25 1001 5 100 (about (of_seams + 1) 1 1001 0 1000)
    × Changed 26 5001 5 104 (about (of_seams + 2) 1 5001 0 5000)
unfolding rows_of nearest root root_of items kind_known kind_of first_term second_term tape_rise word signed_word placed apart rise_of sum_of sums_over outer_diameter wall shell_diameter head_diameter diameter_fits layout_tests header_tests course_tests item_tests seam_tests reading_tests dimension_tests file_tests decoded
record_words = (refl, refl, refl, refl, refl, refl, refl, refl, refl, refl)

-- what is made of them: circumferences that are too short once they have lost the rise, and one that was before; the sum of the lengths one too short and one
-- too long; D1, and D2; caps that are too long, and that 6 and 7 come before that
pub made_of_words :
    Gets (with 14 150000 seamed) 5 56 (about of_corrected 1 149999 150000 1600000)
    × Gets (with 15 150000 seamed) 5 60 (about (of_corrected + 1) 1 149999 150000 1600000)
    × Gets (with 14 149999 seamed) 5 56 (about of_courses 1 149999 150000 1600000)
    × Changed 16 99899 6 0 (about of_lengths 0 99899 99900 100100)
    × Changed 16 100101 6 0 (about of_lengths 0 100101 99900 100100)
    × Changed 14 300000 7 0 (about of_shell_diameter 50000 72246 50000 500000)
    × Gets (with 3 150000 (with 4 150000 example)) 7 0 (about of_head_diameter 50000 46746 50000 500000)
    × Gets caps 14 0 (about of_head_length 50000 25001 0 25000)
    × Gets (with 16 99899 caps) 6 0 (about of_lengths 0 99899 99900 100100)
    × Gets (with 14 300000 caps) 7 0 (about of_shell_diameter 50000 72246 50000 500000)
unfolding rows_of nearest root root_of items kind_known kind_of first_term second_term tape_rise word signed_word placed apart rise_of sum_of sums_over outer_diameter wall shell_diameter head_diameter diameter_fits layout_tests header_tests course_tests item_tests seam_tests reading_tests dimension_tests file_tests decoded
made_of_words = (refl, refl, refl, refl, refl, refl, refl, refl, refl, refl)

-- a file without bytes
pub no_bytes : Gets [] 1 0 (about of_size 0 0 56 65536)
unfolding file_tests decoded
no_bytes = refl

-- .. and any file past the largest
pub too_large : (s : List ℕ) → 65536 < length s → verdict_in (decoded s) ≡ Err (refusal 1 0 (about of_large_file 0 0 56 65536))
unfolding file_tests decoded
too_large s large = rw (lt-leb (length s) 65536 large)
