-- `tank::filling::Filling::empty` meets its contract: a walk at the bottom has passed no level. Assumes nothing.
use Rattle.heads.specs.WalkLaws.{not_past_start}
use Rattle.tank.specs.FillingLaws.{not_above_start}
use Rattle.tank.proofs.filling.Filling.empty.Goals as goal

pub returns : goal.returns
returns c t limits h = record {
  shell = not_above_start _ _ _ (c.start.ensures _);
  flanges = not_above_start _ _ _ (c.start-2.ensures _);
  heads = not_past_start t.kind _ t.l3 _ _ limits.d2_high limits.heads c.start-3.ensures;
}
