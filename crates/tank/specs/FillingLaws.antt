-- A tank filled to a dip height, as three walks, up the shell's circle, the flanges' and the heads; and fillings that have not passed a dip
-- height. Assumes nothing.
use Rattle.std.specs.Prelude.{ℕ, ◌≤◌, ◌≡◌, refl}
use Rattle.std.proofs.Common.{sym, ◌∙◌, ap, arith}
use Rattle.measure.specs.Quantity.{diameter_units}
use Rattle.correction.proofs.CorrectionLaws.{corrected_mono}
use Rattle.circle.specs.declared.walk.Walk.{Walk}
use Rattle.circle.specs.Walk.{walk_at}
use Rattle.heads.specs.Walk.{heads_walk_at}
use Rattle.heads.specs.WalkLaws.{HeadsNotPast, not_past_higher}
use Rattle.tank.specs.declared.tank.Tank.{Tank}
use Rattle.tank.specs.declared.filling.Filling.{Filling}
use Rattle.tank.specs.TankLaws.{shell_at, heads_at}

-- filled to dip height H
abbrev pub filling_at : Tank → ℕ → Filling
filling_at t h = record {
  shell = walk_at (diameter_units t.d1) (shell_at t h);
  flanges = walk_at (diameter_units t.d2) (heads_at t h);
  heads = heads_walk_at t.kind (diameter_units t.d2) t.l3 (heads_at t h);
}

-- a walk up a circle that has not passed a level
pub record NotAbove (d level : ℕ) (w : Walk) : Type 0 where
  pub stands : w ≡ walk_at d w.level
  pub below : w.level ≤ level

pub not_above_start : (d level : ℕ) (w : Walk) → w ≡ walk_at d 0 → NotAbove d level w
not_above_start d level w e =
    let bottom = ap (λ x. x.level) e in
    record { stands = e ∙ ap (walk_at d) (sym bottom); below = omega arith }

-- a filling that has not passed dip height H
pub record NotPast (t : Tank) (h : ℕ) (f : Filling) : Type 0 where
  pub shell : NotAbove (diameter_units t.d1) (shell_at t h) f.shell
  pub flanges : NotAbove (diameter_units t.d2) (heads_at t h) f.flanges
  pub heads : HeadsNotPast t.kind (diameter_units t.d2) t.l3 (heads_at t h) f.heads

pub not_past : (t : Tank) (h h' : ℕ) → h ≤ h' → NotPast t h' (filling_at t h)
not_past t h h' l = record {
  shell = record { stands = refl; below = corrected_mono (diameter_units t.d1) (diameter_units t.dh) h h' l };
  flanges = record { stands = refl; below = corrected_mono (diameter_units t.d2) (diameter_units t.dh) h h' l };
  heads = not_past_higher t.kind (diameter_units t.d2) t.l3 (heads_at t h) (heads_at t h') (corrected_mono (diameter_units t.d2) (diameter_units t.dh) h h' l);
}
