use Rattle.im_formats.proofs.Places.{read_place-only}

pub returns : Rattle.im_formats.proofs.places_read_nothing_else.Goals.returns
returns c = λ bytes place read. read_place-only bytes place read
