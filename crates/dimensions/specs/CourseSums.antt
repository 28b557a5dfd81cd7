-- What the dimensions are made of, summed over courses: W, the sum of the lengths, that of the thicknesses, and the course count. Assumes nothing.
use Rattle.std.specs.Prelude.{ℕ}

pub record CourseSums : Type 0 where
  pub readings : ℕ
  pub lengths : ℕ
  pub thicknesses : ℕ
  pub count : ℕ
