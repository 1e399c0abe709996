use Rattle.im_formats.proofs.Records.{read_cell-spelled}

pub returns : Rattle.im_formats.proofs.cells_read_back.Goals.returns
returns c = λ cells nodes cell few_cells few_nodes fits. read_cell-spelled cells nodes cell few_cells few_nodes fits
