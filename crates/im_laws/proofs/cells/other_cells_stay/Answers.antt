use Rattle.im_laws.proofs.CellLemmas.{step-other}

pub returns : Rattle.im_laws.proofs.cells.other_cells_stay.Goals.returns
returns c = step-other
