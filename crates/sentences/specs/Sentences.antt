-- The sentences that say in words what a test is about, by their numbers. Each block has room for more, so that a new sentence renumbers none.
-- In a sentence # stands for the number of the record or row, $ for the number that is tested, ~ for the same in mm or litres, < and > for its
-- limits. Assumes nothing.
use Rattle.std.specs.Prelude.{ℕ, zero, suc, Bool, List, [], ◌∷◌, ◌++◌, get_or}
use Prim.Native.String.{String}
use Rattle.refusal.specs.declared.About.{About}
use Rattle.text.specs.Ascii.{ascii}
use Rattle.sentences.specs.Blanks.{filled, begun}

-- the header's word at byte k has of_header + k / 4, that of a course, a deadwood item or a seam item so many behind the first of its record

abbrev pub of_header : ℕ
of_header = 0

abbrev pub of_courses : ℕ
of_courses = 24

abbrev pub of_deadwood : ℕ
of_deadwood = 32

abbrev pub of_seams : ℕ
of_seams = 40

-- likewise of a course's circumferences, less the tape rise
abbrev pub of_corrected : ℕ
of_corrected = 48

-- the file: its size, one that can be named and one past the largest; and sections that overlap

abbrev pub of_size : ℕ
of_size = 56

abbrev pub of_large_file : ℕ
of_large_file = 57

abbrev pub of_deadwood_over_courses : ℕ
of_deadwood_over_courses = 58

abbrev pub of_seams_over_courses : ℕ
of_seams_over_courses = 59

abbrev pub of_seams_over_deadwood : ℕ
of_seams_over_deadwood = 60

-- what is made of its numbers: the sum of the course lengths, D1, D2, and L3 of spherical caps

abbrev pub of_lengths : ℕ
of_lengths = 64

abbrev pub of_shell_diameter : ℕ
of_shell_diameter = 65

abbrev pub of_head_diameter : ℕ
of_head_diameter = 66

abbrev pub of_head_length : ℕ
of_head_length = 67

-- the table that a caller lends, and a row below the row before

abbrev pub of_lent_table : ℕ
of_lent_table = 72

abbrev pub of_falling_row : ℕ
of_falling_row = 73

-- the lookups: a table that is none, a dip height above the tank, a volume above the last row

abbrev pub of_table : ℕ
of_table = 80

abbrev pub of_height : ℕ
of_height = 81

abbrev pub of_volume : ℕ
of_volume = 82

-- the conversion: a header of a length that no old file has
abbrev pub of_old_header : ℕ
of_old_header = 88

-- a line for each number: one that no sentence has is empty, up to the next block

abbrev pub block : (width : ℕ) → List String → List String
block zero ss = []
block (suc width) [] = "" ∷ block width []
block (suc width) (s ∷ ss) = s ∷ block width ss

unfoldable pub sentences : List String
sentences =
    -- of_header
    block 24
    ("head kind $: must be 0 (flat), 1 (half-ellipsoid) or 2 (spherical cap)" ∷
    "dip diameter DH $ (~ mm): must be < to >" ∷
    "shell length L1 $ (~ mm): must be < to >" ∷
    "circumference left $ (~ mm): must be < to >" ∷
    "circumference right $ (~ mm): must be < to >" ∷
    "flange length L2 $ (~ mm): must be < to >" ∷
    "head length L3 $ (~ mm): must be < to > for this kind of head" ∷
    "step $ (~ mm): must be < to >" ∷
    "course count $: must be < to >" ∷
    "byte offset of the courses $: its # records must start at byte < or later and end inside the file of > bytes" ∷
    "deadwood count $: must be < to >" ∷
    "byte offset of the deadwood $: its # records must start at byte < or later and end inside the file of > bytes" ∷
    "seam count $: must be >, the course count" ∷
    "byte offset of the seams $: its # records must start at byte < or later and end inside the file of > bytes" ∷
    [])
    -- of_courses
    ++ block 8
    ("course #, first circumference $ (~ mm): must be < to >" ∷
    "course #, second circumference $ (~ mm): must be < to >" ∷
    "course #, length $ (~ mm): must be < to >" ∷
    "course #, thickness $ (~ mm): must be < to >" ∷
    [])
    -- of_deadwood; a low height is tested by the high one
    ++ block 8
    ("" ∷
    "deadwood item #, high height $ (~ mm): must be above its low height and at most DH >" ∷
    "deadwood item #, volume $ (~ L): must be < to >" ∷
    [])
    -- of_seams
    ++ block 8
    ("seams of course #, number $: must be < to >" ∷
    "seams of course #, thickness $ (~ mm): must be < to >" ∷
    "seams of course #, width $ (~ mm): must be < to >" ∷
    [])
    -- of_corrected
    ++ block 8
    ("course #, first circumference less the tape rise over its seams $ (~ mm): must be < to >" ∷
    "course #, second circumference less the tape rise over its seams $ (~ mm): must be < to >" ∷
    [])
    -- of_size
    ++ block 8
    ("file of $ bytes: must have < to >" ∷
    "file of more than > bytes: must have < to >" ∷
    "byte offset of the deadwood $: its # records must not overlap the courses" ∷
    "byte offset of the seams $: its # records must not overlap the courses" ∷
    "byte offset of the seams $: its # records must not overlap the deadwood" ∷
    [])
    -- of_lengths
    ++ block 8
    ("sum of the course lengths $ (~ mm): must be < to >, the shell length L1 give or take 100 for each course" ∷
    "shell diameter D1 $ (~ mm): must be < to > and at most 10000 from DH #" ∷
    "head diameter D2 $ (~ mm): must be < to > and at most 10000 from DH #" ∷
    "head length L3 $ (~ mm): must be at most > for spherical caps, half the head diameter D2 #" ∷
    [])
    -- of_lent_table
    ++ block 8
    ("lent table: must have a cell for each row" ∷
    "row # at dip height $ (~ mm): must not be below the row before; the deadwood is larger than the room there" ∷
    [])
    -- of_table
    ++ block 8
    ("table: must have a row for each height of DH # and step $, none below the row before" ∷
    "dip height $ (~ mm): must be at most DH >" ∷
    "volume $ (~ L): must be at most the last row, >" ∷
    [])
    -- of_old_header
    ++ "old header of $ bytes: must have >" ∷
    []

abbrev pub sentence_of : ℕ → List ℕ
sentence_of n = ascii (get_or sentences n "")

-- a sentence stands under this number
unfoldable pub told : ℕ → Bool
unfolding sentences
told n = begun (sentence_of n)

-- what a test is about, in words
unfoldable pub words : About → List ℕ
words a = filled a (sentence_of a.sentence)

-- .. as a line
unfoldable pub words_line : About → List ℕ
words_line a = words a ++ ascii "\n"

-- no line of these is longer
abbrev pub words_size : ℕ
words_size = 256
