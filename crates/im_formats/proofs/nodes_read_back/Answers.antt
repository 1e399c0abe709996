use Rattle.im_formats.proofs.Records.{read_node-spelled}

pub returns : Rattle.im_formats.proofs.nodes_read_back.Goals.returns
returns c = λ nodes node few fits. read_node-spelled nodes node few fits
