-- What a file whose numbers are all within their limits as they stand promises of them, as plain facts. Assumes nothing.
use Rattle.std.specs.Prelude.{ℕ, ◌+◌, ◌≤◌, ◌<◌, ◌≡◌, List, [], ◌++◌, nat_abs, Ok}
use Rattle.std.proofs.Common.{arith}
use Rattle.std.proofs.Math.ListN.{length}
use Rattle.laws.specs.FillLaws.{length_rows_of, get_or_rows_of}
use Rattle.measure.specs.Diameter.{smallest, largest}
use Rattle.measure.specs.Quantity.{dip_units}
use Rattle.refusal.specs.Test.{verdict}
use Rattle.refusal.specs.TestLaws.{passed_all, passed_append, passed_items, within_pass}
use Rattle.deadwood.specs.declared.item.Deadwood.{Deadwood}
use Rattle.deadwood.specs.Item.{largest_volume, no_item, item_at}
use Rattle.deadwood.specs.ItemLaws.{item_fits}
use Rattle.deadwood.specs.ListLaws.{DeadwoodLimits}
use Rattle.schedule.specs.Rows.{smallest_step, largest_step}
use Rattle.heads.specs.Kind.{kind_of}
use Rattle.heads.specs.Length.{shortest_of, longest_of}
use Rattle.tank.specs.Limits.{longest_shell, longest_flange}
use Rattle.seams.specs.Seam.{most_seams, thickest_seam, widest_seam}
use Rattle.seams.specs.SeamLaws.{SeamFits}
use Rattle.file.specs.declared.format.Format.{Format}
use Rattle.file.specs.Word.{word}
use Rattle.file.specs.Layout.{kind_at, dh_at, l1_at, left_at, right_at, l2_at, l3_at, step_at, seam_number_in, seam_thickness_in, seam_width_in, seam_end}
use Rattle.file.specs.Section.{courses, deadwood, seams, sections, record_at}
use Rattle.form.specs.PlacedLaws.{Placed}
use Rattle.numbers.specs.Limits.{shortest_circumference, longest_circumference, shortest_shell}
use Rattle.records.specs.Item.{item_from, items_of, seam_from}
use Rattle.records.specs.Record.{record_of}
use Rattle.numbers.specs.Tests.{header_tests, course_tests, item_tests, seam_tests, section_tests, sections_tests, limit_tests}

-- a file whose numbers are all within their limits as they stand
pub record LimitsFit (f : Format) (s : List ℕ) : Type 0 where
  pub placed : Placed f s
  pub limits : verdict (limit_tests f s) ≡ Ok tt

module _ (f : Format) (s : List ℕ) (fit : LimitsFit f s) where
  pub header_passed : verdict (header_tests s) ≡ Ok tt
  header_passed = (passed_append (header_tests s) (sections_tests s (sections f s)) fit.limits).0

  sections_passed : (verdict (section_tests s (courses f s)) ≡ Ok tt)
      × (verdict (section_tests s (deadwood f s)) ≡ Ok tt)
      × (verdict (section_tests s (seams f s)) ≡ Ok tt)
  sections_passed =
      let rest = (passed_append (header_tests s) (sections_tests s (sections f s)) fit.limits).1 in
      let of-courses = passed_append (section_tests s (courses f s)) (section_tests s (deadwood f s) ++ (section_tests s (seams f s) ++ [])) rest in
      let of-deadwood = passed_append (section_tests s (deadwood f s)) (section_tests s (seams f s) ++ []) of-courses.1 in
      (of-courses.0, of-deadwood.0, (passed_append (section_tests s (seams f s)) [] of-deadwood.1).0)

  pub course_passes : (i : ℕ) → i < (courses f s).count → verdict (course_tests s (record_of (courses f s) i)) ≡ Ok tt
  course_passes i l = passed_items (courses f s).count (λ k. course_tests s (record_of (courses f s) k)) sections_passed.0 i l

  -- the item whose record is number i
  listed : ℕ → Deadwood
  listed i = item_from s (record_at (deadwood f s) i)

  pub item_passes : (i : ℕ) → i < (deadwood f s).count → verdict (item_tests s (record_of (deadwood f s) i)) ≡ Ok tt
  item_passes i l = passed_items (deadwood f s).count (λ k. item_tests s (record_of (deadwood f s) k)) sections_passed.1 i l

  pub items_fit : DeadwoodLimits (items_of f s)
  unfolding item_tests listed
  items_fit = record {
    few = rw size fit.placed.few_items;
    rises = λ i l. rw (there i (inside i l)) (fits i (inside i l)).0;
    volume_size = λ i l. rw (there i (inside i l)) (fits i (inside i l)).2;
  }
    where
      size : length (items_of f s) ≡ (deadwood f s).count
      size = length_rows_of listed (deadwood f s).count

      inside : (i : ℕ) → i < length (items_of f s) → i < (deadwood f s).count
      inside i l = omega (arith, size)

      there : (i : ℕ) → i < (deadwood f s).count → item_at (items_of f s) i ≡ listed i
      there i l = get_or_rows_of listed no_item (deadwood f s).count i l

      fits : (i : ℕ) → i < (deadwood f s).count
          → (dip_units (listed i).low < dip_units (listed i).high) × (dip_units (listed i).high ≤ word s dh_at) × (nat_abs (listed i).volume ≤ largest_volume)
      fits i l =
          let pass = passed_all (item_tests s (record_of (deadwood f s) i)) (item_passes i l) in
          item_fits (listed i) (word s dh_at) pass.0 pass.1.0

  -- a seam item lies inside the file, and within its limits
  module _ (i : ℕ) (l : i < (seams f s).count) where
    pub seam_inside : record_at (seams f s) i + seam_end ≤ length s
    seam_inside = omega (arith, fit.placed.seams_inside.long, fit.placed.seams_inside.inside i l)

    pub seam_from_fits : SeamFits (seam_from s (record_at (seams f s) i))
    unfolding seam_tests
    seam_from_fits =
        let at = record_at (seams f s) i in
        let pass = passed_all (seam_tests s (record_of (seams f s) i)) (passed_items (seams f s).count (λ k. seam_tests s (record_of (seams f s) k)) sections_passed.2 i l) in
        record {
          few = (within_pass 0 (word s (at + seam_number_in)) most_seams pass.0).1;
          thin = (within_pass 0 (word s (at + seam_thickness_in)) thickest_seam pass.1.0).1;
          narrow = (within_pass 0 (word s (at + seam_width_in)) widest_seam pass.1.1.0).1;
        }

  -- the header's numbers
  pub dh_fits : (smallest ≤ word s dh_at) × (word s dh_at ≤ largest)
  unfolding header_tests
  dh_fits = within_pass smallest (word s dh_at) largest (passed_all (header_tests s) header_passed).0

  abbrev InCircumference : ℕ → Type 0
  InCircumference n = (shortest_circumference ≤ n) × (n ≤ longest_circumference)

  pub ends_fit : InCircumference (word s left_at) × InCircumference (word s right_at)
  unfolding header_tests
  ends_fit =
      let pass = passed_all (header_tests s) header_passed in (
        within_pass shortest_circumference (word s left_at) longest_circumference pass.1.1.0,
        within_pass shortest_circumference (word s right_at) longest_circumference pass.1.1.1.0,
      )

  pub step_fits : (smallest_step ≤ word s step_at) × (word s step_at ≤ largest_step)
  unfolding header_tests
  step_fits = within_pass smallest_step (word s step_at) largest_step (passed_all (header_tests s) header_passed).1.1.1.1.1.1.0

  pub shell_fits : (shortest_shell ≤ word s l1_at) × (word s l1_at ≤ longest_shell)
  unfolding header_tests
  shell_fits = within_pass shortest_shell (word s l1_at) longest_shell (passed_all (header_tests s) header_passed).1.0

  pub head_length_fits : (shortest_of (kind_of (word s kind_at)) ≤ word s l3_at) × (word s l3_at ≤ longest_of (kind_of (word s kind_at)))
  unfolding header_tests
  head_length_fits =
      let kind = kind_of (word s kind_at) in
      within_pass (shortest_of kind) (word s l3_at) (longest_of kind) (passed_all (header_tests s) header_passed).1.1.1.1.1.0

  pub lengths_fit : (word s l1_at ≤ longest_shell) × (word s l2_at ≤ longest_flange)
  unfolding header_tests
  lengths_fit =
      let pass = passed_all (header_tests s) header_passed in (
        shell_fits.1,
        (within_pass 0 (word s l2_at) longest_flange pass.1.1.1.1.0).1,
      )
