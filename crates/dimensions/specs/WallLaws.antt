-- A wall is never thicker than the tube: of a file that passes refusals 1 to 5 the wall is thinner than either outer diameter, so that
-- nothing is cut at 0 in D1 and D2, and each with the wall is its outer diameter again. Assumes nothing.
use Rattle.std.specs.Prelude.{ℕ, zero, suc, ◌+◌, ◌*◌, ◌≤◌, ◌<◌, ◌≡◌, List}
use Rattle.std.proofs.Common.{le_refl, mul-le-mul_right, arith}
use Rattle.laws.proofs.NearestLaws.{nearest_at_most, nearest_at_least}
use Rattle.measure.specs.Pi.{pi_over, pi_under}
use Rattle.file.specs.declared.format.Format.{Format}
use Rattle.file.specs.Word.{word}
use Rattle.file.specs.Layout.{left_at, right_at, first_in, second_in, length_in}
use Rattle.file.specs.Section.{courses, record_at}
use Rattle.numbers.specs.Limits.{shortest_circumference, thickest}
use Rattle.readings.specs.Reading.{rise_of, corrected}
use Rattle.readings.specs.CourseLaws.{CourseFits, CoursesFit}
use Rattle.readings.specs.FitLaws.{NumbersFit, as_they_stand, courses_fit}
use Rattle.numbers.specs.FitLaws.{ends_fit}
use Rattle.dimensions.specs.Dimensions.{sum_of, sums_over, sums_of, outer_diameter, wall, shell_diameter, head_diameter, d1, d2}
use Rattle.dimensions.specs.SumLaws.{file_sums}

-- of the thickest courses
abbrev pub thickest_wall : ℕ
thickest_wall = 2 * thickest

-- of the shortest circumferences: 113 · 300,000 / 710, to the nearest
abbrev pub smallest_outer : ℕ
smallest_outer = 47746

outer_at_least : (readings lengths : ℕ) → 0 < lengths → 2 * shortest_circumference * lengths ≤ readings
    → smallest_outer ≤ outer_diameter readings lengths
unfolding outer_diameter
outer_at_least readings lengths some enough =
    nearest_at_least (pi_under * readings) smallest_outer (2 * pi_over * lengths) (omega arith) (omega arith)

-- what the course at a byte adds to W is at least that of the shortest circumferences ..
reading_at_least : (s : List ℕ) (at rise : ℕ) → CourseFits s at rise → 2 * shortest_circumference * (sum_of s at rise).lengths ≤ (sum_of s at rise).readings
unfolding sum_of
reading_at_least s at rise course =
    let first = word s (at + first_in) in
    let second = word s (at + second_in) in
    let both : 2 * shortest_circumference ≤ corrected first rise + corrected second rise = omega (arith, course.first, course.second) in
    mul-le-mul_right (word s (at + length_in)) both

-- .. and so is W over n courses
readings_at_least : (f : Format) (s : List ℕ) → CoursesFit f s
    → (n : ℕ) → n ≤ (courses f s).count → 2 * shortest_circumference * (sums_over f s n).lengths ≤ (sums_over f s n).readings
unfolding sums_over
readings_at_least f s fit zero l = omega arith
readings_at_least f s fit (suc n) l =
    omega (arith, readings_at_least f s fit n (omega arith), reading_at_least s (record_at (courses f s) n) (rise_of f s n) (fit n (omega arith)))

module _ (f : Format) (s : List ℕ) (fit : NumbersFit f s) where
  pub wall_at_most : wall (sums_of f s).thicknesses (sums_of f s).count ≤ thickest_wall
  unfolding wall
  wall_at_most =
      nearest_at_most (2 * (sums_of f s).thicknesses) thickest_wall (sums_of f s).count
      (omega (arith, (file_sums f s fit).count, fit.placed.some_course))
      (omega (arith, (file_sums f s fit).count, (file_sums f s fit).thicknesses))

  -- the outer diameter of the courses, and that of the shell's ends

  pub shell_outer_at_least : smallest_outer ≤ outer_diameter (sums_of f s).readings (sums_of f s).lengths
  shell_outer_at_least =
      outer_at_least (sums_of f s).readings (sums_of f s).lengths
      (omega (arith, (file_sums f s fit).some, fit.placed.some_course))
      (readings_at_least f s (courses_fit f s fit) (courses f s).count (le_refl (courses f s).count))

  pub head_outer_at_least : smallest_outer ≤ outer_diameter (word s left_at + word s right_at) 1
  head_outer_at_least = outer_at_least (word s left_at + word s right_at) 1 (omega arith) (omega (arith, ends_fit f s (as_they_stand f s fit)))

  -- so nothing is cut at 0

  pub d1_plus_wall : d1 f s + wall (sums_of f s).thicknesses (sums_of f s).count ≡ outer_diameter (sums_of f s).readings (sums_of f s).lengths
  unfolding shell_diameter
  d1_plus_wall = omega (arith, wall_at_most, shell_outer_at_least)

  pub d2_plus_wall : d2 f s + wall (sums_of f s).thicknesses (sums_of f s).count ≡ outer_diameter (word s left_at + word s right_at) 1
  unfolding head_diameter
  d2_plus_wall = omega (arith, wall_at_most, head_outer_at_least)
