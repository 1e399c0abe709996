use Rattle.std.proofs.Common.{arith}
use Rattle.im_image.proofs.Encoding.{pages-show}

pub returns : Rattle.im_image.proofs.pages.pages_show_the_memory.Goals.returns
returns c = λ s r m page count shows pages. pages-show s r m page count shows (λ i low. pages i (omega (arith, low)))
