use Rattle.im_contents.proofs.ListLemmas.{lists_unique}

pub returns : Rattle.im_contents.proofs.walk.one_list_is_shown.Goals.returns
returns c = lists_unique
