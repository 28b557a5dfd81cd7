-- The limits of a diameter (document 01, 'Dimensions'): smallest 500.00 mm and largest 5,000.00 mm. Assumes nothing.
use Rattle.std.specs.Prelude.{ℕ, ◌≤◌, ◌&&◌, leb, Option, Some, None}
use Rattle.laws.specs.Order.{pick}
use Rattle.measure.specs.declared.diameter.Diameter.{Diameter}
use Rattle.measure.specs.Quantity.{diameter}

abbrev pub smallest : ℕ
smallest = 50000

abbrev pub largest : ℕ
largest = 500000

pub record DiameterLimits (n : ℕ) : Type 0 where
  pub low : smallest ≤ n
  pub high : n ≤ largest

abbrev pub measured : ℕ → Option Diameter
measured n = pick (leb smallest n && leb n largest) (Some (diameter n)) None
