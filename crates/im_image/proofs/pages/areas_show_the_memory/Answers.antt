use Rattle.std.proofs.Common.{arith}
use Rattle.im_image.proofs.Encoding.{area-shows}

pub returns : Rattle.im_image.proofs.pages.areas_show_the_memory.Goals.returns
returns c = λ s r m area count shows has. area-shows s r m area count shows (omega (arith, has.size)) has.pages
