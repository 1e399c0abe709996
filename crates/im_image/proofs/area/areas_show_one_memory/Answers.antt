use Rattle.im_image.proofs.Restored.{one-memory}

pub returns : Rattle.im_image.proofs.area.areas_show_one_memory.Goals.returns
returns c = one-memory
