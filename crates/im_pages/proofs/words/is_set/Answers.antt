use Rattle.std.proofs.{Common.◌/◌, Common.◌%◌, Common.get_or, Common.◌==◌, Common.ap, lemmas.Nat.Bits.shr_and_one}
use Rattle.im_pages.specs.Words.{is_set}

pub returns : Rattle.im_pages.proofs.words.is_set.Goals.returns
unfolding is_set
returns c = ap (λ x. x == 1) (shr_and_one (get_or c.args.words.now (c.args.at / 64) 0) (c.args.at % 64))
