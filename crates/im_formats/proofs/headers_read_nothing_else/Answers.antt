use Rattle.im_formats.proofs.Headers.{spells_header-only}

pub returns : Rattle.im_formats.proofs.headers_read_nothing_else.Goals.returns
returns c = λ l area bytes spelled. (spells_header-only l area bytes spelled).0
