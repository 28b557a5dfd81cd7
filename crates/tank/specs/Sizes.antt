-- What a tank is made of, as its kind of head, its diameters and its lengths. Assumes nothing.
use Rattle.std.specs.Prelude.{ℕ}
use Rattle.measure.specs.declared.diameter.Diameter.{Diameter}
use Rattle.heads.specs.declared.kind.HeadKind.{HeadKind}

pub record Sizes : Type 0 where
  pub kind : HeadKind
  pub dh : Diameter
  pub d1 : Diameter
  pub d2 : Diameter
  pub l1 : ℕ
  pub l2 : ℕ
  pub l3 : ℕ
