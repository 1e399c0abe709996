use Rattle.std.proofs.Common.{◌∙◌}
use Rattle.im_cell.proofs.Rows.{long-rows}

pub returns : Rattle.im_cell.proofs.row.CellRow.len.Goals.returns
returns c = c.len.ensures ∙ c.self.inside.states.ok.0
    ∙ long-rows c.self.inside.states.items c.self.inside.values.items c.self.inside.extents.items c.self.inside.lasts.items c.args.self.now
    c.self.invariant.values_are c.self.invariant.extents_are c.self.invariant.lasts_are c.self.view_is
