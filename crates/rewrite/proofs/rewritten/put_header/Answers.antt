-- `rewrite::rewritten::put_header` meets its contract: what stands before the sections' words, and these. Assumes nothing.
use Rattle.std.proofs.Common.{arith, sym, length-take-le}
use Rattle.text.specs.WroteLaws.{wrote_both}
use Rattle.file.specs.Layout.{courses_at}
use Rattle.rewrite.proofs.rewritten.put_header.Goals as goal

pub slice_bounds-bytes-end : goal.slice_bounds-bytes-end
slice_bounds-bytes-end c = sym (length-take-le courses_at c.args.s.now (omega (arith, c.requires.0)))

pub returns : goal.returns
returns c =
    wrote_both c.bytes.ensures
    (wrote_both (rw c.offset_of.ensures at c.put_section.ensures)
    (wrote_both (rw c.offset_of-2.ensures at c.put_section-2.ensures) (rw c.offset_of-3.ensures at c.put_section-3.ensures)))
