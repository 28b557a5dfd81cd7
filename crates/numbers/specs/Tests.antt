-- Refusal 5 as an ordered list of tests, each with its place and what it is about: every number of a file whose sections are well placed.
-- Assumes nothing.
use Rattle.std.specs.Prelude.{ℕ, ◌+◌, ◌/◌, List, [], ◌∷◌, ◌++◌, pos, neg_ℤ}
use Rattle.measure.specs.Diameter.{smallest, largest}
use Rattle.measure.specs.Quantity.{dip_units}
use Rattle.refusal.specs.Test.{Test, about, test, items}
use Rattle.sentences.specs.Sentences.{of_header}
use Rattle.deadwood.specs.declared.item.Deadwood as items
use Rattle.deadwood.specs.Item.{largest_volume, heights_fit, volume_fits}
use Rattle.schedule.specs.Rows.{smallest_step, largest_step}
use Rattle.heads.specs.Kind.{kind_of}
use Rattle.heads.specs.Length.{shortest_of, longest_of}
use Rattle.tank.specs.Limits.{longest_shell, longest_flange}
use Rattle.seams.specs.Seam.{most_seams, thickest_seam, widest_seam}
use Rattle.file.specs.declared.format.Format.{Format}
use Rattle.file.specs.declared.section.Section.{Section}
use Rattle.file.specs.declared.section.Records.{Records}
use Rattle.file.specs.declared.section.Records.TheVariants.{Courses, Deadwood, Seams}
use Rattle.file.specs.Word.{word}
use Rattle.file.specs.Layout.{kind_at, dh_at, l1_at, left_at, right_at, l2_at, l3_at, step_at, first_in, second_in, length_in, thickness_in, high_in, volume_in, seam_number_in, seam_thickness_in, seam_width_in}
use Rattle.file.specs.Section.{sections}
use Rattle.records.specs.declared.record.Record.{Record}
use Rattle.records.specs.Record.{record_of, limit}
use Rattle.numbers.specs.Limits.{shortest_circumference, longest_circumference, shortest_shell, shortest_course, thinnest, thickest}
use Rattle.records.specs.Item.{item_from}

-- a number of the header is within its limits
abbrev pub header_limit : List ℕ → (at low high : ℕ) → Test
header_limit s at low high = limit s (record { at = 0; sentence = of_header; item = 0 }) at low high

-- DH, and the shell's numbers in the header
abbrev pub shell_tests : List ℕ → List Test
shell_tests s =
    header_limit s dh_at smallest largest
    ∷ header_limit s l1_at shortest_shell longest_shell
    ∷ header_limit s left_at shortest_circumference longest_circumference
    ∷ header_limit s right_at shortest_circumference longest_circumference
    ∷ []

-- .. and behind them those of the heads, and the step
unfoldable pub header_tests : List ℕ → List Test
header_tests s =
    shell_tests s
    ++ (header_limit s l2_at 0 longest_flange
    ∷ header_limit s l3_at (shortest_of (kind_of (word s kind_at))) (longest_of (kind_of (word s kind_at)))
    ∷ header_limit s step_at smallest_step largest_step
    ∷ [])

-- of a course
unfoldable pub course_tests : List ℕ → Record → List Test
course_tests s x =
    limit s x first_in shortest_circumference longest_circumference
    ∷ limit s x second_in shortest_circumference longest_circumference
    ∷ limit s x length_in shortest_course longest_shell
    ∷ limit s x thickness_in thinnest thickest
    ∷ []

-- of a deadwood item: where low < high ≤ DH fails, the high number is the bad one ..
abbrev pub heights_test : items.Deadwood → (dh : ℕ) → Record → Test
heights_test d dh x = test 5 (x.at + high_in) (heights_fit d dh) (about (x.sentence + high_in / 4) x.item (dip_units d.high) 0 dh)

-- .. and a volume has a sign
abbrev pub volume_test : items.Deadwood → Record → Test
volume_test d x =
    test 5 (x.at + volume_in) (volume_fits d)
    (record {
      sentence = x.sentence + volume_in / 4;
      item = x.item;
      value = d.volume;
      low = neg_ℤ (pos largest_volume);
      high = pos largest_volume;
    })

unfoldable pub item_tests : List ℕ → Record → List Test
item_tests s x = heights_test (item_from s x.at) (word s dh_at) x ∷ volume_test (item_from s x.at) x ∷ []

-- of a seam item
unfoldable pub seam_tests : List ℕ → Record → List Test
seam_tests s x = limit s x seam_number_in 0 most_seams ∷ limit s x seam_thickness_in 0 thickest_seam ∷ limit s x seam_width_in 0 widest_seam ∷ []

abbrev pub record_tests : Records → List ℕ → Record → List Test
record_tests Courses s x = course_tests s x
record_tests Deadwood s x = item_tests s x
record_tests Seams s x = seam_tests s x

-- record by record, and section by section
abbrev pub section_tests : List ℕ → Section → List Test
section_tests s x = items x.count (λ i. record_tests x.records s (record_of x i))

abbrev pub sections_tests : List ℕ → List Section → List Test
sections_tests s [] = []
sections_tests s (x ∷ xs) = section_tests s x ++ sections_tests s xs

-- refusal 5 of every number as it stands in the file: the header's, then the sections'
abbrev pub limit_tests : Format → List ℕ → List Test
limit_tests f s = header_tests s ++ sections_tests s (sections f s)
