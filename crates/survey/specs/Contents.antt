-- What a table is made of: the tank, the step, and the deadwood items as a list. Assumes nothing.
use Rattle.std.specs.Prelude.{ℕ, List}
use Rattle.deadwood.specs.declared.item.Deadwood.{Deadwood}
use Rattle.tank.specs.declared.tank.Tank.{Tank}

pub record Contents : Type 0 where
  pub tank : Tank
  pub step : ℕ
  pub deadwood : List Deadwood
