use Rattle.std.proofs.Common.{ap, ◌∙◌}
use Rattle.im_types.specs.Types.{place}
use Rattle.im_cell.proofs.Places.{least-if}

pub returns-clause-least : Rattle.im_cell.proofs.table.CellTable.place.Goals.returns-clause-least
returns-clause-least c = least-if c.args.self.now c.args.n _
    (c.place_block.ensures.place ∙ ap (place c.args.n) c.self.view_is)
