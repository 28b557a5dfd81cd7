-- `file::format::Format::has_seams` meets its contract: what holds of a header holds of any format that has it. Assumes nothing.
use Rattle.file.proofs.format.Format.has_seams.Goals as goal

pub returns : goal.returns
returns c =
    let f = c.self.inside in
    rw (← c.self.view_is) (c.header_has_seams.ensures f.course f.deadwood f.seam)
