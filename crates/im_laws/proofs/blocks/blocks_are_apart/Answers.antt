use Rattle.im_laws.proofs.BlockLemmas.{blocks-apart}

pub returns : Rattle.im_laws.proofs.blocks.blocks_are_apart.Goals.returns
returns c = blocks-apart
