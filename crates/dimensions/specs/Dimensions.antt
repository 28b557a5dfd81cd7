-- Outer diameter, wall, D1 and D2 (document 01, 'Dimensions'; document 000, 20.1.1 and 20.2), from the sums over the courses. A wall
-- thicker than the diameter leaves 0, which is below every limit; no file that passes refusals 1 to 5 has one (WallLaws).
-- Assumes nothing.
use Rattle.std.specs.Prelude.{ℕ, zero, suc, ◌+◌, ◌*◌, ◌-◌, Bool, ◌&&◌, List}
use Rattle.laws.specs.Nearest.{nearest}
use Rattle.measure.specs.Diameter.{smallest, largest}
use Rattle.measure.specs.Pi.{pi_over, pi_under}
use Rattle.refusal.specs.Test.{within, near}
use Rattle.file.specs.declared.format.Format.{Format}
use Rattle.file.specs.Word.{word}
use Rattle.file.specs.Layout.{left_at, right_at, first_in, second_in, length_in, thickness_in}
use Rattle.file.specs.Section.{courses, record_at}
use Rattle.readings.specs.Reading.{rise_of, corrected}
use Rattle.dimensions.specs.declared.sums.Sums.{Sums}
use Rattle.dimensions.specs.declared.sums.Sums.TheInside.{Inside}

-- how far the course lengths together may lie from L1, for each course
abbrev pub course_allowance : ℕ
course_allowance = 100

-- how far a diameter may lie from DH
abbrev pub farthest : ℕ
farthest = 10000

-- what is said of sums: the numbers that their fields have
abbrev pub sums : Inside → Sums
sums t = record { readings = t.readings; lengths = t.lengths; thicknesses = t.thicknesses; count = t.count }

-- what the course at a byte adds to the sums: (first + second circumference) · length, its length, its thickness. Both circumferences have
-- lost the tape rise
unfoldable pub sum_of : List ℕ → (at rise : ℕ) → Sums
sum_of s at rise =
    record {
      readings = (corrected (word s (at + first_in)) rise + corrected (word s (at + second_in)) rise) * word s (at + length_in);
      lengths = word s (at + length_in);
      thicknesses = word s (at + thickness_in);
      count = 1;
    }

abbrev pub added : Sums → Sums → Sums
added t u =
    record {
      readings = t.readings + u.readings;
      lengths = t.lengths + u.lengths;
      thicknesses = t.thicknesses + u.thicknesses;
      count = t.count + u.count;
    }

-- over the first n courses of a file
unfoldable pub sums_over : Format → List ℕ → ℕ → Sums
sums_over f s zero = record { readings = 0; lengths = 0; thicknesses = 0; count = 0 }
sums_over f s (suc n) = added (sums_over f s n) (sum_of s (record_at (courses f s) n) (rise_of f s n))

-- over all of them: W, the sum of the lengths, that of the thicknesses, and the course count
abbrev pub sums_of : Format → List ℕ → Sums
sums_of f s = sums_over f s (courses f s).count

-- how far the lengths may lie from L1: readings are good to 0.5 mm, so honest lengths seldom add up to it (document 02, E1). What is weighted
-- by length goes by their sum, and the shell is L1 long
abbrev pub allowance : Sums → ℕ
allowance t = course_allowance * t.count

-- of readings in pairs, weighted by lengths: 113·W / (710·ΣL), to the nearest
unfoldable pub outer_diameter : (readings lengths : ℕ) → ℕ
outer_diameter readings lengths = nearest (pi_under * readings) (2 * pi_over * lengths)

-- twice the mean thickness, to the nearest
unfoldable pub wall : (thicknesses count : ℕ) → ℕ
wall thicknesses count = nearest (2 * thicknesses) count

abbrev wall_of : Sums → ℕ
wall_of t = wall t.thicknesses t.count

unfoldable pub shell_diameter : Sums → ℕ
shell_diameter t = outer_diameter t.readings t.lengths - wall_of t

-- of flange and head, from the circumferences at the shell's ends
unfoldable pub head_diameter : Sums → (left right : ℕ) → ℕ
head_diameter t left right = outer_diameter (left + right) 1 - wall_of t

-- D1 and D2 of a file
abbrev pub d1 : Format → List ℕ → ℕ
d1 f s = shell_diameter (sums_of f s)

abbrev pub d2 : Format → List ℕ → ℕ
d2 f s = head_diameter (sums_of f s) (word s left_at) (word s right_at)

-- a diameter within its limits and not far from DH
unfoldable pub diameter_fits : (d dh : ℕ) → Bool
diameter_fits d dh = near d dh farthest && within smallest d largest
