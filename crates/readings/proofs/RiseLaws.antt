-- No reading is shorter than the tape rise that it loses: of a file whose numbers are within their limits as they stand, nothing is cut at 0 in
-- a corrected reading, and each with the rise is its reading again. Assumes nothing.
use Rattle.std.specs.Prelude.{ℕ, ◌+◌, ◌≤◌, ◌<◌, ◌≡◌, List, ltb}
use native.Mathlib.Omega.{arith}
use Rattle.std.proofs.Common.{ltb-true}
use Rattle.laws.specs.BoolLaws.{by_test}
use Rattle.refusal.specs.TestLaws.{passed_all, within_pass}
use Rattle.seams.specs.Seam.{no_seam}
use Rattle.seams.specs.RiseLaws.{most_rise}
use Rattle.seams.proofs.RiseLaws.{tape_rise_at_most}
use Rattle.file.specs.declared.format.Format.{Format}
use Rattle.file.specs.Word.{word}
use Rattle.file.specs.Layout.{dh_at, first_in, second_in}
use Rattle.file.specs.Section.{courses, seams, record_at}
use Rattle.numbers.specs.Limits.{shortest_circumference, longest_circumference}
use Rattle.records.specs.Item.{seam_from}
use Rattle.readings.specs.Reading.{rise_of, corrected}
use Rattle.records.specs.Record.{record_of}
use Rattle.numbers.specs.Tests.{course_tests}
use Rattle.numbers.specs.FitLaws.{LimitsFit, course_passes, seam_from_fits, dh_fits}

module _ (f : Format) (s : List ℕ) (fit : LimitsFit f s) (i : ℕ) where
  pub rise_at_most : rise_of f s i ≤ most_rise
  unfolding rise_of
  rise_at_most =
      let dh = (dh_fits f s fit).0 in
      by_test (ltb i (seams f s).count)
      (λ l. rw l (tape_rise_at_most (seam_from s (record_at (seams f s) i)) (word s dh_at) (seam_from_fits f s fit i (ltb-true i (seams f s).count l)) dh))
      (λ none. rw none (tape_rise_at_most no_seam (word s dh_at) (record { few = omega arith; thin = omega arith; narrow = omega arith }) dh))

  pub readings_with_the_rise : i < (courses f s).count
      → let at = record_at (courses f s) i in
      (corrected (word s (at + first_in)) (rise_of f s i) + rise_of f s i ≡ word s (at + first_in))
      × (corrected (word s (at + second_in)) (rise_of f s i) + rise_of f s i ≡ word s (at + second_in))
  unfolding course_tests
  readings_with_the_rise l =
      let at = record_at (courses f s) i in
      let pass = passed_all (course_tests s (record_of (courses f s) i)) (course_passes f s fit i l) in
      let first = within_pass shortest_circumference (word s (at + first_in)) longest_circumference pass.0 in
      let second = within_pass shortest_circumference (word s (at + second_in)) longest_circumference pass.1.0 in
      (omega (arith, rise_at_most, first.0), omega (arith, rise_at_most, second.0))
