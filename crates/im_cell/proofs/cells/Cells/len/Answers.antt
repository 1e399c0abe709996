use Rattle.std.proofs.Common.{◌∙◌}
use Rattle.im_cell.proofs.Kept.{long-slots}

pub returns : Rattle.im_cell.proofs.cells.Cells.len.Goals.returns
returns c = c.len.ensures ∙ c.self.inside.states.ok.0
    ∙ long-slots c.self.inside.states.items c.self.inside.values.items c.self.inside.extents.items c.args.self.now
    c.self.invariant.0 c.self.invariant.1 c.self.view_is
