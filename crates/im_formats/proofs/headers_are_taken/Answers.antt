use Rattle.im_formats.proofs.Headers.{spells_header-spelled}

pub returns : Rattle.im_formats.proofs.headers_are_taken.Goals.returns
returns c = λ l area gate h fits good. spells_header-spelled l area gate h fits good
