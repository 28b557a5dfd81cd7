-- `heads::heads::Heads::spherical_caps` meets its contract: a factor 2 of both numbers cancels, and the volume fits 32 bits. Assumes nothing.
use Rattle.std.proofs.Common.{arith, ◌≡◌, sym, ◌∙◌, ap, ap₂, ℕ, ◌+◌, ◌*◌, mul-add}
use Rattle.laws.specs.Nearest.{nearest}
use Rattle.laws.proofs.NearestLaws.{nearest_cancel}
use Rattle.measure.specs.Quantity.{diameter_units, cubic_per_v, volume}
use Rattle.domes.specs.Dome.{dome_fitting, dome_covering}
use Rattle.dome_walk.specs.declared.bounds.Bounds.{Bounds}
use Rattle.dome_walk.specs.Walk.{filled_at}
use Rattle.heads.specs.declared.kind.HeadKind.TheVariants.{SphericalCap}
use Rattle.heads.specs.Volume.{heads_volume}
use Rattle.heads.proofs.VolumeLaws.{dome_small, heads_at_most}
use Rattle.heads.proofs.heads.Heads.spherical_caps.Goals as goal

-- what the dome of the heads answers: the two totals of one dome
of_heads : (h : ℕ) {d l d' l' : ℕ} {t : Bounds} → (d' ≡ d) × (l' ≡ l) → t ≡ filled_at d' l' h → t ≡ filled_at d l h
of_heads h same e = e ∙ ap₂ (λ (d l : ℕ). filled_at d l h) same.0 same.1

both : (d l h : ℕ) (t : Bounds) → t ≡ filled_at d l h → t.fitting + t.covering ≡ dome_fitting d l h + dome_covering d l h
both d l h t e = ap₂ ◌+◌ (ap (λ w. w.fitting) e) (ap (λ w. w.covering) e)

-- halfway between twice each is as much as both
halfway : (d l h : ℕ) (t : Bounds) → t ≡ filled_at d l h → nearest (t.fitting + t.covering) cubic_per_v ≡ heads_volume SphericalCap d l h
unfolding heads_volume
halfway d l h t e =
    let f = dome_fitting d l h in
    let g = dome_covering d l h in
    ap (λ (n : ℕ). nearest n cubic_per_v) (both d l h t e)
    ∙ sym (nearest_cancel 2 (f + g) cubic_per_v (omega arith) (omega arith))
    ∙ ap (λ (n : ℕ). nearest n (2 * cubic_per_v)) (mul-add 2 f g)

pub overflow_add-totals : goal.overflow_add-totals
overflow_add-totals c =
    let heads = c.args.self in
    let d = diameter_units heads.d in
    let p = c.requires in
    omega (
      arith,
      both d heads.l c.args.h c.filled-totals.result (of_heads c.args.h c.dome.ensures.value c.filled-totals.ensures),
      dome_small d heads.l c.args.h p.1 c.dome.ensures.limits.high (rw p.0 at heads.limits),
    )

pub nearest_quotient-requires : goal.nearest_quotient-requires
nearest_quotient-requires c =
    let heads = c.args.self in
    let d = diameter_units heads.d in
    let p = c.requires in (
      omega arith,
      omega (
        arith,
        both d heads.l c.args.h c.filled-totals.result (of_heads c.args.h c.dome.ensures.value c.filled-totals.ensures),
        dome_small d heads.l c.args.h p.1 c.dome.ensures.limits.high (rw p.0 at heads.limits),
      ),
    )

pub overflow_cast-nearest_quotient : goal.overflow_cast-nearest_quotient
overflow_cast-nearest_quotient c =
    let heads = c.args.self in
    let d = diameter_units heads.d in
    let p = c.requires in
    omega (
      arith,
      c.nearest_quotient.ensures ∙ halfway d heads.l c.args.h c.filled-totals.result (of_heads c.args.h c.dome.ensures.value c.filled-totals.ensures),
      heads_at_most SphericalCap d heads.l c.args.h p.1 (omega (arith, c.dome.ensures.limits.low)) c.dome.ensures.limits.high (rw p.0 at heads.limits),
    )

pub returns : goal.returns
returns c =
    let heads = c.args.self in
    c.from.ensures
    ∙ ap volume (
    c.nearest_quotient.ensures
    ∙ halfway (diameter_units heads.d) heads.l c.args.h c.filled-totals.result (of_heads c.args.h c.dome.ensures.value c.filled-totals.ensures)
    )
