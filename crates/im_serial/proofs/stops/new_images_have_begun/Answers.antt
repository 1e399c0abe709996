use Rattle.im_serial.proofs.KeepsLemmas.{new_begun}

pub returns : Rattle.im_serial.proofs.stops.new_images_have_begun.Goals.returns
returns c = new_begun
