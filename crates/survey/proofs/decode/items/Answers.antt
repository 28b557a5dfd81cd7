-- `survey::decode::items` meets its contract: the invariant begins and is kept. Assumes nothing.
use Rattle.std.proofs.Common.{◌∙◌, arith, ap, length}
use Rattle.laws.specs.FillLaws.{filled_none, filled_more}
use Rattle.survey.proofs.decode.items.Goals as goal

pub loop-i-init : goal.loop-i-init
loop-i-init c = (rw c.nothing-list.ensures, filled_none _ _)

pub loop-i-preserved : goal.loop-i-preserved
loop-i-preserved c =
    let l = c.loop-i in
    let few = ap (λ y. y.count) (c.x.view_is ∙ c.deadwood-x.ensures) in
    (l.invariant.0, rw (c.item_from.ensures, c.record_at.ensures) (filled_more (omega (arith, few, c.requires.few_items, ap length l.invariant.0)) l.invariant.1))
