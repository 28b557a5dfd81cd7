-- A format of the survey file as its lengths in bytes: of the header, and of each record. Assumes nothing.
use Rattle.std.specs.Prelude.{ℕ}

pub record Lengths : Type 0 where
  pub header : ℕ
  pub course : ℕ
  pub deadwood : ℕ
  pub seam : ℕ
