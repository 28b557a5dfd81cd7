-- One zero more is put.
use Rattle.std.proofs.Common.{zero}
use Rattle.std.proofs.lemmas.List.{replicate-append-replicate}
use Rattle.text.specs.WroteLaws.{wrote_both}
use Rattle.rewrite.proofs.put.put_zeros.Goals as goal

pub loop-preserved : goal.loop-preserved
loop-preserved c = rw (← replicate-append-replicate c.loop.counter 1 zero) (wrote_both c.loop.invariant c.byte.ensures)
