-- How far the heads are filled at height H: a dome's levels for spherical caps, and nothing for the other kinds. Assumes nothing.
use Rattle.std.specs.Prelude.{ℕ}
use Rattle.dome_walk.specs.declared.walk.DomeWalk.{DomeWalk}
use Rattle.dome_walk.specs.Walk.{begun, domes_at, none_begun}
use Rattle.heads.specs.declared.kind.HeadKind.{HeadKind}
use Rattle.heads.specs.declared.kind.HeadKind.TheVariants.{Flat, HalfEllipsoid, SphericalCap}

abbrev pub heads_walk_at : HeadKind → (d l h : ℕ) → DomeWalk
heads_walk_at Flat d l h = none_begun
heads_walk_at HalfEllipsoid d l h = none_begun
heads_walk_at SphericalCap d l h = domes_at d l (begun h)
