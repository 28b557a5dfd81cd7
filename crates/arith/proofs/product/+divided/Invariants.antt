-- `arith::product::divided` halves its factor, which is the measure. Assumes nothing.
use Rattle.arith.proofs.product.+divided.Given as goal

abbrev pub decreases-divided : goal.decreases-divided
decreases-divided l = l.factor
