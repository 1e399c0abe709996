use Rattle.im_image.proofs.Outside.{outside-stays}

pub returns : Rattle.im_image.proofs.pages.pages_outside_stay.Goals.returns
returns c = outside-stays
