use Rattle.im_formats.proofs.Records.{read_node-only}

pub returns : Rattle.im_formats.proofs.nodes_read_nothing_else.Goals.returns
returns c = λ bytes node read. read_node-only bytes node read
