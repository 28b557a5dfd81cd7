-- What a file that passes refusals 1 to 3 promises, as plain facts: its size, its counts, and that every record of a section lies inside it. Assumes nothing.
use Rattle.std.specs.Prelude.{ℕ, ◌≤◌, ◌≡◌, true, List, length, Ok}
use Rattle.std.proofs.Common.{arith}
use Rattle.refusal.specs.Test.{verdict}
use Rattle.refusal.specs.TestLaws.{passed_all, within_pass}
use Rattle.deadwood.specs.Item.{most_items}
use Rattle.file.specs.declared.format.Format.{Format}
use Rattle.file.specs.declared.section.Section.{Section}
use Rattle.file.specs.Limits.{largest_file, most_courses}
use Rattle.file.specs.Section.{courses, deadwood, seams, placed, record_long}
use Rattle.form.specs.Tests.{size_tests, layout_tests}
use Rattle.file.specs.SectionLaws.{Readable, Inside, placed_inside}

pub record Placed (f : Format) (s : List ℕ) : Type 0 where
  pub header : f.header ≤ length s
  pub courses_inside : Inside s (courses f s)
  pub deadwood_inside : Inside s (deadwood f s)
  pub seams_inside : Inside s (seams f s)
  pub some_course : 1 ≤ (courses f s).count
  pub few_courses : (courses f s).count ≤ most_courses
  pub few_items : (deadwood f s).count ≤ most_items

pub size_fits : (f : Format) (s : List ℕ) → verdict (size_tests f s) ≡ Ok tt → (f.header ≤ length s) × (length s ≤ largest_file)
size_fits f s size = within_pass f.header (length s) largest_file (passed_all (size_tests f s) size).1.0

pub placed_file : (f : Format) (s : List ℕ) → Readable f → verdict (size_tests f s) ≡ Ok tt → verdict (layout_tests f s) ≡ Ok tt → Placed f s
unfolding layout_tests
placed_file f s readable size passed =
    let file = size_fits f s size in
    let pass = passed_all (layout_tests f s) passed in
    let courses_count = within_pass 1 (courses f s).count most_courses pass.0 in
    let inside : (x : Section) → record_long x.records ≤ x.size → placed f.header (length s) x ≡ true → Inside s x =
    λ x long there. record {
      header = omega (arith, readable.header, file.0);
      file = file.1;
      long = long;
      inside = λ i l. (placed_inside f.header (length s) x there i l).1;
    } in
    let places = pass.1.1.1 in
    record {
      header = file.0;
      courses_inside = inside (courses f s) readable.course places.0;
      deadwood_inside = inside (deadwood f s) readable.deadwood places.1.1.1.0;
      seams_inside = inside (seams f s) readable.seam places.1.1.1.1.1.0;
      some_course = courses_count.0;
      few_courses = courses_count.1;
      few_items = (within_pass 0 (deadwood f s).count most_items pass.1.0).1;
    }
