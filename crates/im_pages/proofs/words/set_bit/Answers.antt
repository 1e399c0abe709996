use Rattle.im_pages.proofs.BitLemmas.{bit-set}

pub returns : Rattle.im_pages.proofs.words.set_bit.Goals.returns
returns c = λ bit. bit-set c.args.words.now c.args.at bit c.requires
