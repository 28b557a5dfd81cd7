-- What a diameter is as a plain number, of any size. Assumes nothing.
use Rattle.std.specs.Prelude.{ℕ}

pub record Size : Type 0 where
  pub units : ℕ
