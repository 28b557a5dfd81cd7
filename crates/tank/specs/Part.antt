-- The parts of a tank and their volumes (document 01, 'Volume'). A part is a length of cylinder, as the shell or the flanges, or
-- a pair of heads; it has a diameter and a length, and is filled to a height of its own. Lengths are in u, volumes in v.
-- Assumes nothing.
use Rattle.std.specs.Prelude.{ℕ, ◌+◌, ◌*◌, List, [], ◌∷◌}
use Rattle.laws.specs.Nearest.{nearest}
use Rattle.measure.specs.Quantity.{cubic_per_v}
use Rattle.circle.specs.Circle.{doubled_area}
use Rattle.heads.specs.declared.kind.HeadKind.{HeadKind}
use Rattle.heads.specs.Volume.{heads_volume}

pub data Shape : Type 0 where
  cylinder : Shape
  head_pair : HeadKind → Shape

pub record Part : Type 0 where
  pub shape : Shape
  pub d : ℕ
  pub l : ℕ

-- a part filled to a height
pub record Filled : Type 0 where
  pub part : Part
  pub height : ℕ

-- a cylinder of diameter D and length L filled to H: nearest v of doubled area · L / 2
unfoldable pub cylinder_volume : (d l h : ℕ) → ℕ
cylinder_volume d l h = nearest (doubled_area d h * l) (2 * cubic_per_v)

abbrev pub shape_volume : Shape → (d l h : ℕ) → ℕ
shape_volume cylinder = cylinder_volume
shape_volume (head_pair kind) = heads_volume kind

unfoldable pub volume_of : Filled → ℕ
volume_of f = shape_volume f.part.shape f.part.d f.part.l f.height

-- gross: the parts' volumes, each to the nearest v, added up
unfoldable pub gross : List Filled → ℕ
gross [] = 0
gross (f ∷ fs) = volume_of f + gross fs
