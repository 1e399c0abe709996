use Rattle.im_contents.proofs.ContentsLemmas.{memory_unique}

pub returns : Rattle.im_contents.proofs.contents.one_memory_is_shown.Goals.returns
returns c = memory_unique
