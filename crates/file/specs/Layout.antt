-- Where each number of a survey file stands (document 01, 'The survey file'): the bytes of the header's words, and those of a record's
-- words counted from its start. They are the same in every format; a format says how long header and records are, and later ones are
-- longer at their ends. Assumes nothing.
use Rattle.std.specs.Prelude.{ℕ, Bool, leb}
use Rattle.file.specs.declared.format.Format.{Format}

-- in the header

-- head kind
abbrev pub kind_at : ℕ
kind_at = 0

-- DH, inner vertical diameter at the dip point
abbrev pub dh_at : ℕ
dh_at = 4

-- L1, shell length
abbrev pub l1_at : ℕ
l1_at = 8

-- outer circumference at the left shell end
abbrev pub left_at : ℕ
left_at = 12

-- and at the right one
abbrev pub right_at : ℕ
right_at = 16

-- L2, flange length of one head
abbrev pub l2_at : ℕ
l2_at = 20

-- L3, inner length of one head
abbrev pub l3_at : ℕ
l3_at = 24

abbrev pub step_at : ℕ
step_at = 28

-- the count of the courses, and behind it their byte offset
abbrev pub courses_at : ℕ
courses_at = 32

-- likewise of the deadwood
abbrev pub deadwood_at : ℕ
deadwood_at = 40

-- likewise of the seams (document 02, E4), in the formats that have them
abbrev pub seams_at : ℕ
seams_at = 48

-- in a course

abbrev pub first_in : ℕ
first_in = 0

abbrev pub second_in : ℕ
second_in = 4

abbrev pub length_in : ℕ
length_in = 8

abbrev pub thickness_in : ℕ
thickness_in = 12

-- in a deadwood item

abbrev pub low_in : ℕ
low_in = 0

abbrev pub high_in : ℕ
high_in = 4

abbrev pub volume_in : ℕ
volume_in = 8

-- in a seam item: N, t and w

abbrev pub seam_number_in : ℕ
seam_number_in = 0

abbrev pub seam_thickness_in : ℕ
seam_thickness_in = 4

abbrev pub seam_width_in : ℕ
seam_width_in = 8

-- behind the last word of the header that every format has, and behind those of the seams

abbrev pub header_end : ℕ
header_end = 48

abbrev pub seam_header_end : ℕ
seam_header_end = 56

-- behind the last word of a course, of a deadwood item and of a seam item

abbrev pub course_end : ℕ
course_end = 16

abbrev pub item_end : ℕ
item_end = 12

abbrev pub seam_end : ℕ
seam_end = 12

-- a format has the seams if its header has their words
abbrev pub has_seams : Format → Bool
has_seams f = leb seam_header_end f.header
