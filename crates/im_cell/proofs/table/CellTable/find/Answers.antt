use Rattle.std.proofs.Common.{ap, ◌∙◌}
use Rattle.im_types.specs.Types.{place}
use Rattle.im_cell.proofs.Changed.{place-table}

pub returns : Rattle.im_cell.proofs.table.CellTable.find.Goals.returns
returns c = c.find.ensures ∙ place-table c.self.inside.slots c.self.inside.holes c.args.n c.self.invariant
    ∙ ap (place c.args.n) c.self.view_is
