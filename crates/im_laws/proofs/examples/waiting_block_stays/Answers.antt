use Rattle.std.proofs.Common.{refl}
use Rattle.im_types.specs.Types.{empty_contents}

pub returns : Rattle.im_laws.proofs.examples.waiting_block_stays.Goals.returns
unfolding empty_contents
returns c = (refl, (refl, (refl, (refl, (refl, (refl, (refl, (refl, (refl, (refl, tt))))))))))
