use Rattle.std.proofs.Common.{rules}
use Rattle.im_cell.proofs.Rows.{rows-none}

pub returns : Rattle.im_cell.proofs.row.CellRow.with_capacity.Goals.returns
returns c = rows-none _ _ _ _ (search rules)
