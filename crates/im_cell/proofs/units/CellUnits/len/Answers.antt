use Rattle.std.proofs.Common.{length, sym, ap, ◌∙◌}
use Rattle.im_cell.proofs.Seen.{length-shown}

pub returns : Rattle.im_cell.proofs.units.CellUnits.len.Goals.returns
returns c = c.len.ensures ∙ sym (length-shown c.self.inside.units.items c.self.inside.cells) ∙ ap length c.self.view_is
