use Rattle.im_meaning.proofs.Meanings.{read_image}

pub returns : Rattle.im_meaning.proofs.what_is_read_is_an_image.Goals.returns
returns c = λ l file reached it. read_image l file reached it
