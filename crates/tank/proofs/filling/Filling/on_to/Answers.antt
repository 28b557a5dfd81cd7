-- `tank::filling::Filling::on_to` meets its contract: each walk goes on to its corrected height, which it has not passed and
-- which is within its diameter. Assumes nothing.
use Rattle.std.proofs.Common.{◌≡◌, ℕ, ◌≤◌}
use Rattle.correction.specs.declared.shell_height.ShellHeight.{ShellHeight}
use Rattle.correction.specs.ShellHeight.{shell_height, shell_units}
use Rattle.correction.specs.Correction.{corrected_height}
use Rattle.correction.proofs.CorrectionLaws.{corrected_at_most}
use Rattle.circle.specs.declared.walk.Walk.{Walk}
use Rattle.circle.specs.Walk.{walk_at}
use Rattle.tank.specs.FillingLaws.{NotAbove}
use Rattle.tank.proofs.filling.Filling.on_to.Goals as goal

-- what a walk asks before it goes on to a corrected height
ready : (d dh dip : ℕ) {h : ShellHeight} {w : Walk} → h ≡ shell_height (corrected_height d dh dip) → NotAbove d (corrected_height d dh dip) w
    → (w ≡ walk_at d w.level) × (w.level ≤ shell_units h) × (shell_units h ≤ d)
ready d dh dip e n = rw e (n.stands, n.below, corrected_at_most d dh dip)

pub on_to-requires : goal.on_to-requires
on_to-requires c =
    let p = rw (← c.t.view_is) at c.requires in
    ready _ _ _ c.corrected-in_shell.ensures p.shell

pub on_to-requires-2 : goal.on_to-requires-2
on_to-requires-2 c =
    let p = rw (← c.t.view_is) at c.requires in
    ready _ _ _ c.corrected-in_heads.ensures p.flanges

pub on_to-requires-3-clause-inside : goal.on_to-requires-3-clause-inside
on_to-requires-3-clause-inside c = rw (c.heads.ensures.1, c.corrected-in_heads.ensures, ← c.t.view_is) (corrected_at_most _ _ _)
