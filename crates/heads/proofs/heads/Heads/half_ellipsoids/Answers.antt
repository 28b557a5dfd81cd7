-- `heads::heads::Heads::half_ellipsoids` meets its contract: the product is that of the definition, and the volume stays within 32 bits. Assumes
-- nothing.
use Rattle.std.proofs.Common.{arith, ◌≡◌, ◌∙◌, ap, ℕ, ◌*◌, ◌-◌}
use Rattle.laws.specs.Nearest.{nearest}
use Rattle.measure.specs.Quantity.{diameter_units, cubic_per_v, volume}
use Rattle.measure.specs.Pi.{pi_over, pi_under}
use Rattle.heads.specs.declared.kind.HeadKind.TheVariants.{HalfEllipsoid}
use Rattle.heads.specs.Volume.{heads_volume}
use Rattle.heads.proofs.VolumeLaws.{half_ellipsoids_at_most}
use Rattle.heads.proofs.heads.Heads.half_ellipsoids.Goals as goal

rounded : (d l h : ℕ) {d' r : ℕ} → d' ≡ d → r ≡ nearest (pi_over * l * (3 * d' - 2 * h) * (h * h)) (pi_under * (3 * d') * cubic_per_v)
    → r ≡ heads_volume HalfEllipsoid d l h
unfolding heads_volume
rounded d l h units e = rw units at e ∙ ap (λ (n : ℕ). nearest n (pi_under * (3 * d) * cubic_per_v)) (regroup (3 * d - 2 * h))
  where
    regroup : (u : ℕ) → pi_over * l * u * (h * h) ≡ pi_over * l * (h * h) * u
    regroup u = omega arith

pub overflow_cast-both : goal.overflow_cast-both
overflow_cast-both c =
    let a = c.args in
    let heads = a.self in
    let d = diameter_units heads.d in
    let limits = c.units-d.ensures.limits in
    omega (
      arith,
      rounded d heads.l a.h c.units-d.ensures.value c.nearest_of_product-both.ensures,
      half_ellipsoids_at_most d heads.l a.h c.requires (omega (arith, limits.low)) limits.high heads.limits.high,
    )

pub returns : goal.returns
returns c =
    let heads = c.args.self in
    c.from.ensures ∙ ap volume (rounded (diameter_units heads.d) heads.l c.args.h c.units-d.ensures.value c.nearest_of_product-both.ensures)
