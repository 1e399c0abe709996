use Rattle.std.proofs.Common.{rules}
use Rattle.im_cell.proofs.Rows.{rows-all}

pub returns : Rattle.im_cell.proofs.row.CellRow.free.Goals.returns
returns c = rows-all c.args.cells _ _ _ _ (search rules) (search rules) (search rules) (search rules)
