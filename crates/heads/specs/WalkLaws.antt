-- Walks up the heads that have not passed a height: at the bottom none has, and one that has come to a height has passed no higher one.
-- Assumes nothing.
use Rattle.std.specs.Prelude.{ℕ, ◌≤◌, ◌≡◌, refl}
use Rattle.std.proofs.Common.{sym, ◌∙◌, ap, arith}
use Rattle.measure.specs.Diameter.{largest}
use Rattle.dome_walk.specs.declared.walk.DomeWalk.{DomeWalk}
use Rattle.dome_walk.specs.Walk.{begun, domes_at, none_begun}
use Rattle.dome_walk.specs.WalkLaws.{DomeLimits}
use Rattle.dome_walk.specs.BegunLaws.{none_begun_law}
use Rattle.heads.specs.declared.kind.HeadKind.{HeadKind}
use Rattle.heads.specs.declared.kind.HeadKind.TheVariants.{Flat, HalfEllipsoid, SphericalCap}
use Rattle.heads.specs.LengthLaws.{HeadLimits, cap_limits}
use Rattle.heads.specs.Walk.{heads_walk_at}

-- the walk has come to a height that is not above h
pub record HeadsNotPast (kind : HeadKind) (d l h : ℕ) (w : DomeWalk) : Type 0 where
  pub height : ℕ
  pub below : height ≤ h
  pub stands : w ≡ heads_walk_at kind d l height

-- a spherical cap is a dome whose numbers are small
pub dome_limits : (d l : ℕ) → d ≤ largest → HeadLimits SphericalCap d l → DomeLimits d l
dome_limits d l d_high limits = record { some = limits.low; fits = cap_limits d l limits; small = omega arith }

at_start : (kind : HeadKind) (d l : ℕ) → d ≤ largest → HeadLimits kind d l → none_begun ≡ heads_walk_at kind d l 0
at_start Flat d l d_high limits = refl
at_start HalfEllipsoid d l d_high limits = refl
at_start SphericalCap d l d_high limits = none_begun_law d l (dome_limits d l d_high limits)

pub not_past_start : (kind : HeadKind) (d l h : ℕ) (w : DomeWalk) → d ≤ largest → HeadLimits kind d l → w ≡ none_begun → HeadsNotPast kind d l h w
not_past_start kind d l h w d_high limits e = record { height = 0; below = omega arith; stands = e ∙ at_start kind d l d_high limits }

pub not_past_higher : (kind : HeadKind) (d l h h' : ℕ) → h ≤ h' → HeadsNotPast kind d l h' (heads_walk_at kind d l h)
not_past_higher kind d l h h' up = record { height = h; below = up; stands = refl }

-- for a dome: its levels are those of the definition, and no more than the height asks for
pub dome_not_past : (d l h : ℕ) (w : DomeWalk) → HeadsNotPast SphericalCap d l h w → (w ≡ domes_at d l w.levels) × (w.levels ≤ begun h)
dome_not_past d l h w n =
    let levels = ap (λ x. x.levels) n.stands in
    (n.stands ∙ ap (domes_at d l) (sym levels), omega (arith, levels, n.below))
