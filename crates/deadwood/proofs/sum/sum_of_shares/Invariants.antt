-- `deadwood::sum::sum_of_shares` meets its contract: the sum is that of the shares of the items so far. Assumes nothing.
use Rattle.std.proofs.Common.{◌≡◌}
use Rattle.laws.specs.Signed.{sumℤ}
use Rattle.measure.specs.Quantity.{dip_units}
use Rattle.deadwood.specs.Share.{share_in}
use Rattle.deadwood.proofs.sum.sum_of_shares.Given as goal

abbrev pub invariant-loop-item : goal.invariant-loop-item
invariant-loop-item l = l.sum ≡ sumℤ l.item-index (share_in l.items (dip_units l.h))
