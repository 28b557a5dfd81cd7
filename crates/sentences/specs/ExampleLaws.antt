-- Worked examples, each a computation: every sentence by its name, with numbers filled in, which ties the names to the lines of the text; numbers
-- that no sentence has; and tests of a file's words whose refusals are known, whatever the words. Assumes nothing.
use Rattle.std.specs.Prelude.{ℕ, ◌+◌, ◌≡◌, refl, true, false, [], ◌∷◌, pos, negsuc}
use Prim.Native.String.{String}
use Rattle.refusal.specs.declared.About.{About}
use Rattle.refusal.specs.Test.{about, limited}
use Rattle.text.specs.Ascii.{ascii}
use Rattle.text.specs.Digits.{digits}
use Rattle.text.specs.Grouped.{in_threes, grouped}
use Rattle.sentences.specs.Blanks.{filled_in, filled}
use Rattle.sentences.specs.Sentences.{of_header, of_courses, of_deadwood, of_seams, of_corrected, of_size, of_large_file, of_deadwood_over_courses, of_seams_over_courses, of_seams_over_deadwood}
use Rattle.sentences.specs.Sentences.{of_lengths, of_shell_diameter, of_head_diameter, of_head_length, of_lent_table, of_falling_row, of_table, of_height, of_volume, of_old_header}
use Rattle.sentences.specs.Sentences.{sentences, told, words}
use Rattle.sentences.specs.KnownLaws.{all_known}

abbrev InWords : (sentence item value low high : ℕ) → String → Type 0
InWords sentence item value low high text = words (about sentence item value low high) ≡ ascii text

-- a volume may be below 0
abbrev volume_too_low : About
volume_too_low = record { sentence = of_deadwood + 2; item = 3; value = negsuc 10000000; low = negsuc 9999999; high = pos 10000000 }

pub in_words :
    InWords of_header 0 3 0 2 "head kind 3: must be 0 (flat), 1 (half-ellipsoid) or 2 (spherical cap)"
    × InWords (of_header + 1) 0 49999 50000 500000 "dip diameter DH 49999 (499.99 mm): must be 50000 to 500000"
    × InWords (of_header + 2) 0 3000001 100000 3000000 "shell length L1 3000001 (30,000.01 mm): must be 100000 to 3000000"
    × InWords (of_header + 3) 0 149999 150000 1600000 "circumference left 149999 (1,499.99 mm): must be 150000 to 1600000"
    × InWords (of_header + 4) 0 1600001 150000 1600000 "circumference right 1600001 (16,000.01 mm): must be 150000 to 1600000"
    × InWords (of_header + 5) 0 20001 0 20000 "flange length L2 20001 (200.01 mm): must be 0 to 20000"
    × InWords (of_header + 6) 0 5 0 0 "head length L3 5 (0.05 mm): must be 0 to 0 for this kind of head"
    × InWords (of_header + 7) 0 99 100 10000 "step 99 (0.99 mm): must be 100 to 10000"
    × InWords (of_header + 8) 0 41 1 40 "course count 41: must be 1 to 40"
    × InWords (of_header + 9) 2 55 56 108 "byte offset of the courses 55: its 2 records must start at byte 56 or later and end inside the file of 108 bytes"
    × InWords (of_header + 10) 0 65 0 64 "deadwood count 65: must be 0 to 64"
    × InWords (of_header + 11) 1 65 56 76 "byte offset of the deadwood 65: its 1 records must start at byte 56 or later and end inside the file of 76 bytes"
    × InWords (of_header + 12) 0 1 2 2 "seam count 1: must be 2, the course count"
    × InWords (of_header + 13) 1 97 56 108 "byte offset of the seams 97: its 1 records must start at byte 56 or later and end inside the file of 108 bytes"
    × InWords of_courses 3 149999 150000 1600000 "course 3, first circumference 149999 (1,499.99 mm): must be 150000 to 1600000"
    × InWords (of_courses + 1) 40 1600001 150000 1600000 "course 40, second circumference 1600001 (16,000.01 mm): must be 150000 to 1600000"
    × InWords (of_courses + 2) 1 0 1 3000000 "course 1, length 0 (0.00 mm): must be 1 to 3000000"
    × InWords (of_courses + 3) 2 99 100 5000 "course 2, thickness 99 (0.99 mm): must be 100 to 5000"
    × InWords (of_deadwood + 1) 2 270000 0 260000 "deadwood item 2, high height 270000 (2,700.00 mm): must be above its low height and at most DH 260000"
    × (words volume_too_low ≡ ascii "deadwood item 3, volume -10000001 (-100,000.01 L): must be -10000000 to 10000000")
    × InWords of_seams 1 13 0 12 "seams of course 1, number 13: must be 0 to 12"
    × InWords (of_seams + 1) 1 1001 0 1000 "seams of course 1, thickness 1001 (10.01 mm): must be 0 to 1000"
    × InWords (of_seams + 2) 1 5001 0 5000 "seams of course 1, width 5001 (50.01 mm): must be 0 to 5000"
    × InWords of_corrected 1 149999 150000 1600000 "course 1, first circumference less the tape rise over its seams 149999 (1,499.99 mm): must be 150000 to 1600000"
    × InWords (of_corrected + 1) 1 149998 150000 1600000 "course 1, second circumference less the tape rise over its seams 149998 (1,499.98 mm): must be 150000 to 1600000"
    × InWords of_size 0 47 48 65536 "file of 47 bytes: must have 48 to 65536"
    × InWords of_large_file 0 0 48 65536 "file of more than 65536 bytes: must have 48 to 65536"
    × InWords of_deadwood_over_courses 1 60 0 0 "byte offset of the deadwood 60: its 1 records must not overlap the courses"
    × InWords of_seams_over_courses 1 60 0 0 "byte offset of the seams 60: its 1 records must not overlap the courses"
    × InWords of_seams_over_deadwood 1 96 0 0 "byte offset of the seams 96: its 1 records must not overlap the deadwood"
    × InWords of_lengths 0 75000 99700 100300 "sum of the course lengths 75000 (750.00 mm): must be 99700 to 100300, the shell length L1 give or take 100 for each course"
    × InWords of_shell_diameter 50000 62662 50000 500000 "shell diameter D1 62662 (626.62 mm): must be 50000 to 500000 and at most 10000 from DH 50000"
    × InWords of_head_diameter 50000 48975 50000 500000 "head diameter D2 48975 (489.75 mm): must be 50000 to 500000 and at most 10000 from DH 50000"
    × InWords of_head_length 50000 25001 1 25000 "head length L3 25001 (250.01 mm): must be at most 25000 for spherical caps, half the head diameter D2 50000"
    × InWords of_lent_table 0 0 0 0 "lent table: must have a cell for each row"
    × InWords of_falling_row 1 10000 0 0 "row 1 at dip height 10000 (100.00 mm): must not be below the row before; the deadwood is larger than the room there"
    × InWords of_table 50000 10000 0 0 "table: must have a row for each height of DH 50000 and step 10000, none below the row before"
    × InWords of_height 0 50001 0 50000 "dip height 50001 (500.01 mm): must be at most DH 50000"
    × InWords of_volume 0 19636 0 19635 "volume 19636 (196.36 L): must be at most the last row, 19635"
    × InWords of_old_header 0 52 0 48 "old header of 52 bytes: must have 48"
unfolding digits in_threes grouped filled_in filled sentences words
in_words = (refl, refl, refl, refl, refl, refl, refl, refl, refl, refl, refl, refl, refl, refl, refl, refl, refl, refl, refl, refl, refl, refl, refl, refl, refl, refl, refl, refl, refl, refl, refl, refl, refl, refl, refl, refl, refl, refl, refl, refl)

-- a deadwood item's low height, a number between two blocks, and one behind the last, which has no words either
pub not_told :
    (told of_deadwood ≡ false)
    × (told (of_courses + 4) ≡ false)
    × (told (of_old_header + 1) ≡ false)
    × (words (about (of_old_header + 1) 0 0 0 0) ≡ [])
unfolding filled sentences told words
not_told = (refl, refl, refl, refl)

pub known : (word : ℕ → ℕ) → all_known (limited 5 4 (of_header + 1) 0 50000 (word 1) 500000 ∷ limited 11 0 of_height 0 0 (word 2) (word 1) ∷ []) ≡ true
unfolding told
known word = refl
