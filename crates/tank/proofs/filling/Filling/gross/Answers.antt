-- `tank::filling::Filling::gross` meets its contract: the three parts' volumes, each within its bound. Assumes nothing.
use Rattle.std.proofs.Common.{arith, ◌≡◌, ◌∙◌, ap, ap₂, ℕ, ◌+◌, ◌*◌, ◌^◌, ◌≤◌, ◌<◌}
use Rattle.laws.specs.Nearest.{nearest}
use Rattle.measure.specs.Diameter.{largest}
use Rattle.measure.specs.declared.volume.Volume.{Volume}
use Rattle.measure.specs.Quantity.{diameter_units, dip_units, volume, volume_units, cubic_per_v}
use Rattle.correction.specs.declared.shell_height.ShellHeight.{ShellHeight}
use Rattle.correction.specs.ShellHeight.{shell_height, shell_units}
use Rattle.correction.proofs.CorrectionLaws.{corrected_at_most}
use Rattle.circle.specs.Circle.{doubled_area}
use Rattle.heads.specs.Volume.{heads_volume}
use Rattle.tank.specs.declared.tank.Tank.{Tank}
use Rattle.tank.specs.Limits.{longest_shell}
use Rattle.tank.specs.Part.{cylinder_volume}
use Rattle.tank.specs.Tank.{sizes, gross_at}
use Rattle.tank.specs.CylinderLaws.{cylinder_product}
use Rattle.tank.specs.TankLaws.{shell_at, heads_at, gross_by_parts, gross_small}
use Rattle.tank.proofs.filling.Filling.gross.Goals as goal

-- a cylinder by the area that the code has of it: the product fits, and rounded it is the volume
module _ (d h l : ℕ) {area : ℕ} (same : area ≡ doubled_area d h) where
  product_fits : h ≤ d → d ≤ largest → l ≤ longest_shell → area * l < 2 ^ 63
  product_fits h_high d_high l_high = rw same (omega (arith, cylinder_product d l h h_high d_high l_high))

  rounded : {r : Volume} → r ≡ volume (nearest (area * l) (2 * cubic_per_v)) → volume_units r ≡ cylinder_volume d l h
  unfolding cylinder_volume
  rounded e = ap volume_units e ∙ ap (λ (n : ℕ). nearest (n * l) (2 * cubic_per_v)) same

-- the parts' volumes add up to the definition's gross
together : (t : Tank) (h : ℕ) {shell_area flange_area : ℕ} {height : ShellHeight} {shell flanges heads : Volume}
    → shell_area ≡ doubled_area (diameter_units t.d1) (shell_at t h) → flange_area ≡ doubled_area (diameter_units t.d2) (heads_at t h)
    → height ≡ shell_height (heads_at t h) → shell ≡ volume (nearest (shell_area * t.l1) (2 * cubic_per_v))
    → flanges ≡ volume (nearest (flange_area * (2 * t.l2)) (2 * cubic_per_v)) → heads ≡ volume (heads_volume t.kind (diameter_units t.d2) t.l3 (shell_units height))
    → volume_units shell + volume_units flanges + volume_units heads ≡ gross_at t h
together t h of_shell of_flanges there e f g =
    rw (gross_by_parts t h)
    (ap₂ ◌+◌
    (ap₂ ◌+◌ (rounded _ _ t.l1 of_shell e) (rounded _ _ (2 * t.l2) of_flanges f))
    (ap volume_units g ∙ ap (λ x. heads_volume t.kind (diameter_units t.d2) t.l3 (shell_units x)) there))

pub cylinder_volume-of_shell-requires : goal.cylinder_volume-of_shell-requires
cylinder_volume-of_shell-requires c =
    let t = sizes c.t.inside in
    let there = rw (← c.t.view_is) at c.requires in
    let limits = c.t.invariant in
    product_fits (diameter_units t.d1) (shell_at t (dip_units c.args.h)) t.l1 (c.area.ensures ∙ ap (λ f. f.shell.area) there) (corrected_at_most _ _ _) limits.d1_high limits.l1_high

pub cylinder_volume-of_flanges-requires : goal.cylinder_volume-of_flanges-requires
cylinder_volume-of_flanges-requires c =
    let t = sizes c.t.inside in
    let there = rw (← c.t.view_is) at c.requires in
    let limits = c.t.invariant in
    let flanges : 2 * t.l2 ≤ longest_shell = omega (arith, limits.l2_high) in
    product_fits (diameter_units t.d2) (heads_at t (dip_units c.args.h)) (2 * t.l2) (c.area-2.ensures ∙ ap (λ f. f.flanges.area) there) (corrected_at_most _ _ _) limits.d2_high flanges

pub volume-of_heads-requires-clause-inside : goal.volume-of_heads-requires-clause-inside
volume-of_heads-requires-clause-inside c = rw (c.heads.ensures.1, c.corrected-in_heads.ensures, ← c.t.view_is) (corrected_at_most _ _ _)

pub add-requires : goal.add-requires
add-requires c =
    let t = sizes c.t.inside in
    let h = dip_units c.args.h in
    let there = rw (← c.t.view_is) at c.requires in
    let all =
    together t h (c.area.ensures ∙ ap (λ f. f.shell.area) there) (c.area-2.ensures ∙ ap (λ f. f.flanges.area) there)
    c.corrected-in_heads.ensures c.cylinder_volume-of_shell.ensures c.cylinder_volume-of_flanges.ensures (rw (c.heads.ensures.0, c.heads.ensures.1, c.heads.ensures.2, ← c.t.view_is) at c.volume-of_heads.ensures) in
    omega (arith, all, gross_small t h c.t.invariant)

pub add-requires-2 : goal.add-requires-2
add-requires-2 c =
    let t = sizes c.t.inside in
    let h = dip_units c.args.h in
    let there = rw (← c.t.view_is) at c.requires in
    let all =
    together t h (c.area.ensures ∙ ap (λ f. f.shell.area) there) (c.area-2.ensures ∙ ap (λ f. f.flanges.area) there)
    c.corrected-in_heads.ensures c.cylinder_volume-of_shell.ensures c.cylinder_volume-of_flanges.ensures (rw (c.heads.ensures.0, c.heads.ensures.1, c.heads.ensures.2, ← c.t.view_is) at c.volume-of_heads.ensures) in
    rw c.add.ensures (omega (arith, all, gross_small t h c.t.invariant))

pub returns : goal.returns
returns c =
    let t = sizes c.t.inside in
    let h = dip_units c.args.h in
    let there = rw (← c.t.view_is) at c.requires in
    let heads = c.volume-of_heads.result in
    let all =
    together t h (c.area.ensures ∙ ap (λ f. f.shell.area) there) (c.area-2.ensures ∙ ap (λ f. f.flanges.area) there)
    c.corrected-in_heads.ensures c.cylinder_volume-of_shell.ensures c.cylinder_volume-of_flanges.ensures (rw (c.heads.ensures.0, c.heads.ensures.1, c.heads.ensures.2, ← c.t.view_is) at c.volume-of_heads.ensures) in
    rw (← c.t.view_is) (c.add-2.ensures ∙ ap volume (ap (λ x. volume_units x + volume_units heads) c.add.ensures ∙ all))
