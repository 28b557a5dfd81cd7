-- `rewrite::rewritten::put_sections` meets its contract: one section behind the other, and the zeros. Assumes nothing.
use Rattle.std.proofs.Common.{ap}
use Rattle.text.specs.WroteLaws.{wrote_both}
use Rattle.rewrite.proofs.rewritten.put_sections.Goals as goal

pub returns : goal.returns
returns c = wrote_both c.put_records.ensures (wrote_both c.put_records-2.ensures (rw (ap (λ y. y.count) c.c.view_is) at c.put_zeros.ensures))
