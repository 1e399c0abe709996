use Rattle.im_formats.proofs.Records.{read_cell-only}

pub returns : Rattle.im_formats.proofs.cells_read_nothing_else.Goals.returns
returns c = λ bytes cell read. read_cell-only bytes cell read
