-- How large the sums over courses within their limits can be, and D1 and D2, which are no more than what they are made of. Assumes nothing.
use Rattle.std.specs.Prelude.{ℕ, zero, suc, ◌+◌, ◌-◌, ◌*◌, ◌^◌, ◌≤◌, ◌<◌, ◌≡◌, List}
use Rattle.std.proofs.Common.{le_refl, mul-le-mul, mul-le-mul_left, arith}
use Rattle.laws.proofs.NearestLaws.{nearest_at_most}
use Rattle.measure.specs.Pi.{pi_over, pi_under}
use Rattle.tank.specs.Limits.{longest_shell}
use Rattle.file.specs.declared.format.Format.{Format}
use Rattle.file.specs.Word.{word}
use Rattle.file.specs.Layout.{left_at, right_at, first_in, second_in}
use Rattle.file.specs.Limits.{most_courses}
use Rattle.file.specs.Section.{courses, record_at}
use Rattle.numbers.specs.Limits.{longest_circumference, thickest}
use Rattle.readings.specs.Reading.{rise_of, corrected}
use Rattle.readings.specs.CourseLaws.{CourseFits, CoursesFit}
use Rattle.readings.specs.FitLaws.{NumbersFit, as_they_stand, courses_fit}
use Rattle.numbers.specs.FitLaws.{ends_fit}
use Rattle.dimensions.specs.declared.sums.Sums.{Sums}
use Rattle.dimensions.specs.Dimensions.{sum_of, sums_over, sums_of, outer_diameter, wall, shell_diameter, head_diameter, d1, d2}

-- the largest that a course adds
abbrev pub most_reading : ℕ
most_reading = 2 * longest_circumference * longest_shell

-- sums over n courses
pub record SumsOf (n : ℕ) (t : Sums) : Type 0 where
  pub readings : t.readings ≤ n * most_reading
  pub lengths : t.lengths ≤ n * longest_shell
  pub some : n ≤ t.lengths
  pub thicknesses : t.thicknesses ≤ n * thickest
  pub count : t.count ≡ n

-- sums over the courses that they count, no more than a file can have, whose circumferences are no longer than they may be
pub record SumsFit (t : Sums) : Type 0 where
  pub of : SumsOf t.count t
  pub few : t.count ≤ most_courses
  pub pairs : t.readings ≤ 2 * longest_circumference * t.lengths

-- sums over as many courses as a file can have
pub record SumsSmall (t : Sums) : Type 0 where
  pub readings : t.readings ≤ most_courses * most_reading
  pub lengths : t.lengths ≤ most_courses * longest_shell
  pub thicknesses : t.thicknesses ≤ most_courses * thickest
  pub count : t.count ≤ most_courses

pub sums_small : (n : ℕ) (t : Sums) → n ≤ most_courses → SumsOf n t → SumsSmall t
sums_small n t few of = record {
  readings = omega (arith, of.readings);
  lengths = omega (arith, of.lengths);
  thicknesses = omega (arith, of.thicknesses);
  count = omega (arith, of.count);
}

pub sum_fits : (s : List ℕ) (at rise : ℕ) → CourseFits s at rise → SumsOf 1 (sum_of s at rise)
unfolding sum_of
sum_fits s at rise c = record {
  readings =
      let first = word s (at + first_in) in
      let second = word s (at + second_in) in
      let both : corrected first rise + corrected second rise ≤ 2 * longest_circumference = omega (arith, c.first_high, c.second_high) in
      omega (arith, mul-le-mul both c.long);
  lengths = omega (arith, c.long);
  some = c.some;
  thicknesses = omega (arith, c.thick);
  count = omega arith;
}

pub sums_fit : (f : Format) (s : List ℕ) → CoursesFit f s → (n : ℕ) → n ≤ (courses f s).count → SumsOf n (sums_over f s n)
unfolding sums_over
sums_fit f s each zero l = record { readings = omega arith; lengths = omega arith; some = omega arith; thicknesses = omega arith; count = omega arith }
sums_fit f s each (suc n) l =
    let before = sums_fit f s each n (omega arith) in
    let one = sum_fits s (record_at (courses f s) n) (rise_of f s n) (each n (omega arith)) in
    record {
      readings = omega (arith, before.readings, one.readings);
      lengths = omega (arith, before.lengths, one.lengths);
      some = omega (arith, before.some, one.some);
      thicknesses = omega (arith, before.thicknesses, one.thicknesses);
      count = omega (arith, before.count, one.count);
    }

-- of a file that passes refusals 1 to 5
module _ (f : Format) (s : List ℕ) (fit : NumbersFit f s) where
  pub file_sums : SumsOf (courses f s).count (sums_of f s)
  file_sums = sums_fit f s (courses_fit f s fit) (courses f s).count (le_refl (courses f s).count)

  pub file_sums_fit : SumsSmall (sums_of f s) × (1 ≤ (sums_of f s).lengths) × (1 ≤ (sums_of f s).count)
  file_sums_fit = (
    sums_small (courses f s).count (sums_of f s) fit.placed.few_courses file_sums,
    omega (arith, file_sums.some, fit.placed.some_course),
    omega (arith, file_sums.count, fit.placed.some_course),
  )

outer_at_most : (readings lengths : ℕ) → 1 ≤ lengths → outer_diameter readings lengths ≤ pi_under * readings
unfolding outer_diameter
outer_at_most readings lengths some =
    let dividend = pi_under * readings in
    let divisor : 1 ≤ 2 * pi_over * lengths = omega arith in
    nearest_at_most dividend dividend (2 * pi_over * lengths) divisor (omega (arith, mul-le-mul_left dividend divisor))

-- an outer diameter has 32 bits where a pair of circumferences has 33, and so has any wall

pub outer_fits : (readings lengths : ℕ) → readings < 2 ^ 33 * lengths → outer_diameter readings lengths < 2 ^ 32
unfolding outer_diameter
outer_fits readings lengths less =
    let most = nearest_at_most (pi_under * readings) (2 ^ 32 - 1) (2 * pi_over * lengths) (omega (arith, less)) (omega (arith, less)) in
    omega (arith, most)

pub wall_fits : (t : Sums) → SumsFit t → 1 ≤ t.count → wall t.thicknesses t.count < 2 ^ 32
unfolding wall
wall_fits t fit some = omega (arith, nearest_at_most (2 * t.thicknesses) (2 * thickest) t.count some (omega (arith, fit.of.thicknesses)))

pub diameters_small : (f : Format) (s : List ℕ) → NumbersFit f s → (d1 f s < 2 ^ 63) × (d2 f s < 2 ^ 32)
unfolding shell_diameter head_diameter
diameters_small f s fit =
    let sums = file_sums_fit f s fit in
    let ends = word s left_at + word s right_at in (
      omega (arith, sums.0.readings, outer_at_most (sums_of f s).readings (sums_of f s).lengths sums.1),
      omega (arith, ends_fit f s (as_they_stand f s fit), outer_at_most ends 1 (omega arith)),
    )
