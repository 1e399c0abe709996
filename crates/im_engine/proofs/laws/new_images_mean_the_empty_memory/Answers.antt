use Rattle.im_engine.proofs.FilesMean.{new_image_means}

pub returns : Rattle.im_engine.proofs.laws.new_images_mean_the_empty_memory.Goals.returns
returns c = new_image_means
