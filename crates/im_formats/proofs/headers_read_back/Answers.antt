use Rattle.im_formats.proofs.Headers.{header_in-spelled}

pub returns : Rattle.im_formats.proofs.headers_read_back.Goals.returns
returns c = λ gate h fits. header_in-spelled gate h fits
