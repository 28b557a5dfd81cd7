-- Parts that are filled no higher than their diameter and keep within the limits of any tank; and what no such part, nor
-- a list of them, exceeds. Assumes nothing.
use Rattle.std.specs.Prelude.{ℕ, ◌+◌, ◌≤◌, ◌<◌, List, [], ◌∷◌}
use Rattle.std.proofs.Common.{le_refl, add-le-add}
use Rattle.measure.specs.Diameter.{largest}
use Rattle.heads.specs.LengthLaws.{HeadLimits}
use Rattle.heads.specs.VolumeLaws.{most_heads}
use Rattle.heads.proofs.VolumeLaws.{heads_at_most}
use Rattle.tank.specs.Limits.{longest_shell}
use Rattle.tank.specs.Part.{Shape, cylinder, head_pair, Filled, shape_volume, volume_of, gross}
use Rattle.tank.specs.CylinderLaws.{most_cylinder, cylinder_at_most}

-- a cylinder may be as long as the longest shell, a head as its kind and its diameter allow
abbrev pub LengthLimits : Shape → (d l : ℕ) → Type 0
LengthLimits cylinder d l = l ≤ longest_shell
LengthLimits (head_pair kind) d l = HeadLimits kind d l

pub record PartLimits (f : Filled) : Type 0 where
  pub h_high : f.height ≤ f.part.d
  pub d_low : 0 < f.part.d
  pub d_high : f.part.d ≤ largest
  pub length : LengthLimits f.part.shape f.part.d f.part.l

pub data EachWithinLimits : List Filled → Type 0 where
  none : EachWithinLimits []
  more : {f : Filled} {fs : List Filled} → PartLimits f → EachWithinLimits fs → EachWithinLimits (f ∷ fs)

-- in v
abbrev most_of : Shape → ℕ
most_of cylinder = most_cylinder
most_of (head_pair kind) = most_heads

shape_at_most : (s : Shape) (d l h : ℕ) → h ≤ d → 0 < d → d ≤ largest → LengthLimits s d l → shape_volume s d l h ≤ most_of s
shape_at_most cylinder d l h h_high d_low d_high length = cylinder_at_most d l h h_high d_high length
shape_at_most (head_pair kind) d l h h_high d_low d_high length = heads_at_most kind d l h h_high d_low d_high length

abbrev pub most : List Filled → ℕ
most [] = 0
most (f ∷ fs) = most_of f.part.shape + most fs

pub gross_at_most : (fs : List Filled) → EachWithinLimits fs → gross fs ≤ most fs
unfolding gross volume_of
gross_at_most [] none = le_refl 0
gross_at_most (f ∷ fs) (more s ss) =
    add-le-add
    (shape_at_most f.part.shape f.part.d f.part.l f.height s.h_high s.d_low s.d_high s.length)
    (gross_at_most fs ss)
