-- A file that is not refused, written anew, is not refused either, and has the same survey. Assumes nothing.
use Prim.Native.Nat.{ℕ, zero, suc, ◌+◌, ◌*◌, ◌^◌, ◌≤◌, ◌<◌}
use Rattle.std.specs.Prelude.{◌≡◌, refl, true, false, List, [], ◌++◌, eqb, ltb, length, get_or, take, Ok}
use Rattle.std.proofs.Math.Path.{sym, ap, ap₂}
use Rattle.std.proofs.Common.{◌∙◌, zero-add, add_assoc, le-leb, le-ltb, ne_eqb, length-take, length-drop, length-take-le}
use native.Mathlib.Omega.{arith}
use Rattle.std.proofs.Math.ListN.{length-append}
use Rattle.std.proofs.lemmas.List.{length-replicate}
use Rattle.laws.specs.BoolLaws.{true_not_false, by_test}
use Rattle.refusal.specs.Test.{Test, verdict, within, verdict_in}
use Rattle.refusal.specs.TestLaws.{verdict_append, all_passed}
use Rattle.heads.specs.Kind.{kind_known}
use Rattle.deadwood.specs.Item.{most_items}
use Rattle.seams.specs.Seam.{no_seam}
use Rattle.seams.specs.Rise.{tape_rise}
use Rattle.file.specs.declared.section.Section.{Section}
use Rattle.file.specs.Word.{word}
use Rattle.file.specs.Layout.{kind_at, dh_at, courses_at, course_end, item_end, seam_end, seam_number_in, seam_thickness_in, seam_width_in}
use Rattle.file.specs.Format.{format48, today}
use Rattle.file.specs.Limits.{largest_file, most_courses}
use Rattle.file.specs.Section.{courses, deadwood, seams, sections, record_at, end_of, placed, apart}
use Rattle.file.specs.SectionLaws.{format48_readable, Inside}
use Rattle.form.specs.PlacedLaws.{Placed}
use Rattle.readings.specs.Reading.{seam_of, rise_of}
use Rattle.form.specs.Tests.{size_tests, layout_tests}
use Rattle.records.specs.Record.{record_of}
use Rattle.numbers.specs.Tests.{header_tests, course_tests, item_tests, seam_tests, section_tests, sections_tests, limit_tests}
use Rattle.readings.specs.Tests.{reading_tests, corrected_tests, number_tests}
use Rattle.dimensions.specs.Tests.{dimension_tests}
use Rattle.survey.specs.Tests.{file_tests}
use Rattle.survey.specs.Survey.{decoded_by, decoded_as, decoded}
use Rattle.readings.specs.FitLaws.{NumbersFit, as_they_stand, reading_passes}
use Rattle.numbers.specs.FitLaws.{header_passed, course_passes, item_passes}
use Rattle.survey.specs.DimensionLaws.{taken_apart, kind_known_law}
use Rattle.survey.specs.KnownLaws.{decoded_as_verdict}
use Rattle.survey.proofs.SurveyLaws.{passed_file}
use Rattle.rewrite.specs.Rewritten.{deadwood_from, seams_from, offset_of, courses_words, deadwood_words, seams_words, section_bytes, header_of, no_seams, rewritten, most_bytes}
use Rattle.rewrite.specs.WordLaws.{word_front, word_behind, word_of_part, word_of_zeros, EachSmall, word_of_words}
use Rattle.rewrite.specs.SameLaws.{SameRecords, SameNumbers, same_survey, same_header_tests, same_dimension_tests, course_passes_too, reading_passes_too, item_passes_too}

-- a section's bytes are all there
section_long : (s : List ℕ) (x : Section) → Inside s x → length (section_bytes s x) ≡ x.size * x.count
section_long s x inside = by_count x.count refl
  where
    by_count : (n : ℕ) → x.count ≡ n → length (section_bytes s x) ≡ x.size * x.count
    by_count zero e = rw (e, length-take) (omega arith)
    by_count (suc n) e = rw (length-take, length-drop, e) (omega (arith, inside.inside n (omega arith)))

-- a list of tests passes where both its parts do
both_passed : (ts us : List Test) → verdict ts ≡ Ok tt → verdict us ≡ Ok tt → verdict (ts ++ us) ≡ Ok tt
both_passed ts us e h = verdict_append ts us ∙ rw (e, h)

-- a section that is not empty stands where it is put
offset_of_law : (count at : ℕ) → 0 < count → offset_of count at ≡ at
offset_of_law count at some = rw (ne_eqb count 0 (λ e. omega arith))

offset_small : (count at : ℕ) → at < 2 ^ 32 → offset_of count at < 2 ^ 32
offset_small count at small = by_test (eqb count 0) (λ e. rw e (omega arith)) (λ e. rw e small)

some_count : (n : ℕ) → eqb n 0 ≡ false → 0 < n
some_count zero e = absurd (true_not_false e)
some_count (suc n) e = omega arith

-- tests that pass, by what they ask

within_at : {low x high : ℕ} → low ≤ x → x ≤ high → within low x high ≡ true
within_at {low} {x} {high} l h = rw (le-leb low x l, le-leb x high h)

placed_at : (size : ℕ) (x : Section) → (0 < x.count → (today.header ≤ x.offset) × (end_of x ≤ size)) → placed today.header size x ≡ true
unfolding placed
placed_at size x there =
    by_test (eqb x.count 0) (λ none. rw none)
    (λ some. let fits = there (some_count x.count some) in rw (some, le-leb today.header x.offset fits.0, le-leb (end_of x) size fits.1))

apart_at : (x y : Section) → (0 < x.count → 0 < y.count → end_of x ≤ y.offset) → apart x y ≡ true
unfolding apart
apart_at x y before =
    by_test (eqb x.count 0) (λ none. rw none)
    (λ some. by_test (eqb y.count 0) (λ none. rw (some, none))
    (λ some'. rw (some, some', le-leb (end_of x) y.offset (before (some_count x.count some) (some_count y.count some')))))

module _ (s : List ℕ) (fit : Placed format48 s) where
  abbrev old-courses : Section
  old-courses = courses format48 s

  abbrev old-deadwood : Section
  old-deadwood = deadwood format48 s

  abbrev c : ℕ
  c = old-courses.count

  abbrev d : ℕ
  d = old-deadwood.count

  abbrev front : List ℕ
  front = take courses_at s

  abbrev header : List ℕ
  header = header_of s c d

  abbrev rest : List ℕ
  rest = section_bytes s old-deadwood ++ no_seams c

  front_long : length front ≡ courses_at
  front_long = length-take-le courses_at s (omega (arith, fit.header))

  header_long : length header ≡ today.header
  header_long = rw length-append (omega (arith, front_long))

  courses_long : length (section_bytes s old-courses) ≡ course_end * c
  courses_long = section_long s old-courses fit.courses_inside

  deadwood_long : length (section_bytes s old-deadwood) ≡ item_end * d
  deadwood_long = section_long s old-deadwood fit.deadwood_inside

  abbrev t : List ℕ
  t = rewritten s

  rewritten_long : length t ≡ seams_from c d + seam_end * c
  unfolding rewritten
  rewritten_long =
      length-append header _
      ∙ ap₂ ◌+◌ header_long
      (length-append (section_bytes s old-courses) rest
      ∙ ap₂ ◌+◌ courses_long (length-append (section_bytes s old-deadwood) (no_seams c) ∙ ap₂ ◌+◌ deadwood_long (length-replicate (today.seam * c) 0)))
      ∙ omega arith

  rewritten_short : length t ≤ most_bytes
  rewritten_short = omega (arith, rewritten_long, fit.few_courses, fit.few_items)

  -- the header

  header_word : (at : ℕ) → at + 4 ≤ today.header → word t at ≡ word header at
  unfolding rewritten
  header_word at inside = word_front header _ at (omega (arith, header_long))

  kept : (at : ℕ) → at + 4 ≤ courses_at → word s at ≡ word t at
  kept at inside =
      sym
      (header_word at (omega arith)
      ∙ word_front front _ at (omega (arith, front_long))
      ∙ word_of_part s 0 courses_at at inside
      ∙ ap (word s) (zero-add at))

  -- the sections' words: number k of the six
  abbrev words : List ℕ
  words = courses_words c ++ (deadwood_words c d ++ seams_words c d)

  words_small : EachSmall words
  words_small =
      let courses-small : c < 2 ^ 32 = omega (arith, fit.few_courses) in
      let items-small : d < 2 ^ 32 = omega (arith, fit.few_items) in (
        courses-small,
        (
          offset_small c today.header (omega arith),
          (
            items-small,
            (
              offset_small d (deadwood_from c) (omega (arith, fit.few_courses)),
              (
                courses-small,
                (
                  offset_small c (seams_from c d) (omega (arith, fit.few_courses, fit.few_items)),
                  tt,
                ),
              ),
            ),
          ),
        ),
      )

  section_word : (k : ℕ) → k < 6 → word t (courses_at + 4 * k) ≡ get_or words k 0
  section_word k l =
      header_word (courses_at + 4 * k) (omega arith)
      ∙ word_behind front _ courses_at (4 * k) front_long
      ∙ word_of_words words words_small k l

  new_courses : ((courses today t).count ≡ c) × ((courses today t).offset ≡ today.header)
  new_courses = (section_word 0 (omega arith), section_word 1 (omega arith) ∙ offset_of_law c today.header fit.some_course)

  new_deadwood : ((deadwood today t).count ≡ d) × (0 < d → (deadwood today t).offset ≡ deadwood_from c)
  new_deadwood = (section_word 2 (omega arith), λ some. section_word 3 (omega arith) ∙ offset_of_law d (deadwood_from c) some)

  new_seams : ((seams today t).count ≡ c) × ((seams today t).offset ≡ seams_from c d)
  new_seams = (section_word 4 (omega arith), section_word 5 (omega arith) ∙ offset_of_law c (seams_from c d) fit.some_course)

  -- the sections' records

  behind_header : (at : ℕ) → word t (today.header + at) ≡ word (section_bytes s old-courses ++ rest) at
  unfolding rewritten
  behind_header at = word_behind header _ today.header at header_long

  behind_courses : (at : ℕ) → word t (deadwood_from c + at) ≡ word rest at
  behind_courses at =
      ap (word t) (add_assoc today.header (course_end * c) at)
      ∙ behind_header (course_end * c + at)
      ∙ word_behind (section_bytes s old-courses) rest (course_end * c) at courses_long

  behind_deadwood : (at : ℕ) → word t (seams_from c d + at) ≡ 0
  behind_deadwood at =
      ap (word t) (add_assoc (deadwood_from c) (item_end * d) at)
      ∙ behind_courses (item_end * d + at)
      ∙ word_behind (section_bytes s old-deadwood) (no_seams c) (item_end * d) at deadwood_long
      ∙ word_of_zeros (today.seam * c) at

  course_words : SameRecords s t old-courses (courses today t) course_end
  course_words i k l inside =
      let at = course_end * i + k in
      let fits : at + 4 ≤ course_end * c = omega arith in
      let old : record_at old-courses i + k ≡ old-courses.offset + at = omega arith in
      let new : record_at (courses today t) i + k ≡ today.header + at = omega (arith, new_courses) in
      sym
      (ap (word t) new
      ∙ behind_header at
      ∙ word_front (section_bytes s old-courses) rest at (omega (arith, courses_long))
      ∙ word_of_part s old-courses.offset (course_end * c) at fits
      ∙ ap (word s) (sym old))

  item_words : SameRecords s t old-deadwood (deadwood today t) item_end
  item_words i k l inside =
      let at = item_end * i + k in
      let fits : at + 4 ≤ item_end * d = omega arith in
      let old : record_at old-deadwood i + k ≡ old-deadwood.offset + at = omega arith in
      let new : record_at (deadwood today t) i + k ≡ deadwood_from c + at = omega (arith, new_deadwood.1 (omega arith)) in
      sym
      (ap (word t) new
      ∙ behind_courses at
      ∙ word_front (section_bytes s old-deadwood) (no_seams c) at (omega (arith, deadwood_long))
      ∙ word_of_part s old-deadwood.offset (item_end * d) at fits
      ∙ ap (word s) (sym old))

  seam_words : (i k : ℕ) → word t (record_at (seams today t) i + k) ≡ 0
  seam_words i k =
      let new : record_at (seams today t) i + k ≡ seams_from c d + (seam_end * i + k) = omega (arith, new_seams.1) in
      ap (word t) new ∙ behind_deadwood (seam_end * i + k)

  -- neither file has seams

  had_none : (i : ℕ) → seam_of format48 s i ≡ no_seam
  had_none i = rw (le-ltb i 0 (omega arith))

  has_none : (i : ℕ) → seam_of today t i ≡ no_seam
  has_none i =
      by_test (ltb i (seams today t).count)
      (λ e. rw (e, seam_words i seam_number_in, seam_words i seam_thickness_in, seam_words i seam_width_in))
      (λ e. rw e)

  same_rise : (i : ℕ) → rise_of format48 s i ≡ rise_of today t i
  unfolding rise_of
  same_rise i = ap₂ tape_rise (had_none i ∙ sym (has_none i)) (kept dh_at (omega arith))

  same_numbers : SameNumbers format48 s today t
  same_numbers = record {
    header = kept;
    courses_count = sym new_courses.0;
    deadwood_count = sym new_deadwood.0;
    course = course_words;
    item = item_words;
    rise = same_rise;
  }

  -- refusals 1 to 4 are not given

  size_passes : verdict (size_tests today t) ≡ Ok tt
  size_passes = rw (le-leb (length t) largest_file (omega (arith, rewritten_short)), le-leb today.header (length t) (omega (arith, rewritten_long)))

  layout_passes : kind_known (word s kind_at) ≡ true → verdict (layout_tests today t) ≡ Ok tt
  unfolding layout_tests
  layout_passes known =
      let of-courses = new_courses in
      let of-deadwood = new_deadwood in
      let of-seams = new_seams in
      rw (
        within_at {low = 1} {x = (courses today t).count} {high = most_courses} (omega (arith, of-courses, fit.some_course)) (omega (arith, of-courses, fit.few_courses)),
        within_at {low = 0} {x = (deadwood today t).count} {high = most_items} (omega arith) (omega (arith, of-deadwood.0, fit.few_items)),
        within_at {low = (courses today t).count} {x = (seams today t).count} {high = (courses today t).count} (omega (arith, of-courses, of-seams)) (omega (arith, of-courses, of-seams)),
        placed_at (length t) (courses today t) (λ some. (omega (arith, of-courses), omega (arith, of-courses, rewritten_long))),
        apart_at (courses today t) (deadwood today t) (λ some some'. omega (arith, of-courses, of-deadwood.1 (omega (arith, of-deadwood.0)))),
        apart_at (courses today t) (seams today t) (λ some some'. omega (arith, of-courses, of-seams)),
        placed_at (length t) (deadwood today t) (λ some. let there = of-deadwood.1 (omega (arith, of-deadwood.0)) in (omega (arith, there), omega (arith, there, of-deadwood.0, rewritten_long))),
        apart_at (deadwood today t) (seams today t) (λ some some'. omega (arith, of-deadwood.0, of-deadwood.1 (omega (arith, of-deadwood.0)), of-seams)),
        placed_at (length t) (seams today t) (λ some. (omega (arith, of-seams), omega (arith, of-seams, rewritten_long))),
        ap kind_known (sym (kept kind_at (omega arith))) ∙ known,
      )

-- a file that is not refused
module _ (s : List ℕ) (accepted : verdict_in (decoded_as format48 s) ≡ Ok tt) where
  e : verdict (file_tests format48 s) ≡ Ok tt
  e = sym (decoded_as_verdict format48 s) ∙ accepted

  fits : NumbersFit format48 s
  fits = (passed_file format48 s format48_readable e).0

  pub accepted_placed : Placed format48 s
  accepted_placed = fits.placed

  pub rewritten_fits : length (rewritten s) ≤ most_bytes
  rewritten_fits = rewritten_short s fits.placed

  abbrev new : List ℕ
  new = rewritten s

  same : SameNumbers format48 s today new
  same = same_numbers s fits.placed

  -- as many courses and items as there were, and so the same verdict on each

  old_course : (i : ℕ) → i < (courses today new).count → i < (courses format48 s).count
  old_course i l = omega (arith, same.courses_count)

  old_item : (i : ℕ) → i < (deadwood today new).count → i < (deadwood format48 s).count
  old_item i l = omega (arith, same.deadwood_count)

  courses_pass : verdict (section_tests new (courses today new)) ≡ Ok tt
  courses_pass =
      all_passed (courses today new).count (λ i. course_tests new (record_of (courses today new) i))
      (λ i l. course_passes_too format48 s today new same i (old_course i l) (course_passes format48 s (as_they_stand format48 s fits) i (old_course i l)))

  deadwood_passes : verdict (section_tests new (deadwood today new)) ≡ Ok tt
  deadwood_passes =
      all_passed (deadwood today new).count (λ i. item_tests new (record_of (deadwood today new) i))
      (λ i l. item_passes_too format48 s today new same i (old_item i l) (item_passes format48 s (as_they_stand format48 s fits) i (old_item i l)))

  seams_pass : verdict (section_tests new (seams today new)) ≡ Ok tt
  unfolding seam_tests
  seams_pass =
      let none = seam_words s fits.placed in
      all_passed (seams today new).count (λ i. seam_tests new (record_of (seams today new) i))
      (λ i l. rw (none i seam_number_in, none i seam_thickness_in, none i seam_width_in))

  readings_pass : verdict (corrected_tests today new) ≡ Ok tt
  readings_pass =
      all_passed (courses today new).count (λ i. reading_tests new (record_of (courses today new) i) (rise_of today new i))
      (λ i l. reading_passes_too format48 s today new same i (old_course i l) (reading_passes format48 s fits i (old_course i l)))

  sections_pass : verdict (sections_tests new (sections today new)) ≡ Ok tt
  sections_pass =
      both_passed (section_tests new (courses today new)) (section_tests new (deadwood today new) ++ (section_tests new (seams today new) ++ [])) courses_pass
      (both_passed (section_tests new (deadwood today new)) (section_tests new (seams today new) ++ []) deadwood_passes
      (both_passed (section_tests new (seams today new)) [] seams_pass refl))

  numbers_pass : verdict (number_tests today new) ≡ Ok tt
  numbers_pass =
      let header = ap verdict (sym (same_header_tests format48 s today new same)) ∙ header_passed format48 s (as_they_stand format48 s fits) in
      both_passed (limit_tests today new) (corrected_tests today new)
      (both_passed (header_tests new) (sections_tests new (sections today new)) header sections_pass)
      readings_pass

  -- it is not refused ..
  rewritten_passes : verdict (file_tests today new) ≡ Ok tt
  unfolding file_tests
  rewritten_passes =
      let dimensions = ap verdict (sym (same_dimension_tests format48 s today new same)) ∙ (passed_file format48 s format48_readable e).1 in
      let kind = kind_known_law format48 s (taken_apart format48 s e).0 in
      both_passed (size_tests today new) (layout_tests today new ++ (number_tests today new ++ dimension_tests today new)) (size_passes s fits.placed)
      (both_passed (layout_tests today new) (number_tests today new ++ dimension_tests today new) (layout_passes s fits.placed kind)
      (both_passed (number_tests today new) (dimension_tests today new) numbers_pass dimensions))

  -- .. and has the same survey
  pub rewritten_decoded : decoded new ≡ decoded_as format48 s
  unfolding decoded
  rewritten_decoded = ap₂ decoded_by (rewritten_passes ∙ sym e) (sym (same_survey format48 s today new same))
