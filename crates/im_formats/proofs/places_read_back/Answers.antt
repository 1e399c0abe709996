use Rattle.im_formats.proofs.Places.{read_place-spelled}

pub returns : Rattle.im_formats.proofs.places_read_back.Goals.returns
returns c = λ place fits. read_place-spelled place fits
