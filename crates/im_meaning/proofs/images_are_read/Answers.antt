use Rattle.std.proofs.Common.{ℕ, Ok, sym, subst}
use Rattle.im_types.specs.Types.{Reads}
use Rattle.im_meaning.proofs.Meanings.{image_reads}

pub returns : Rattle.im_meaning.proofs.images_are_read.Goals.returns
returns c = λ l file reached it.
    subst (λ (n : ℕ). Reads l file (Ok (record reached { count = n }))) (sym it.count)
    (image_reads l it.header it.shown reached.contents it.commands reached.room file it.image it.accepts)
