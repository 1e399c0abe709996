use Rattle.im_run.proofs.CountLemmas.{numbers_in_order}

pub returns : Rattle.im_run.proofs.stops.numbers_act_once_in_order.Goals.returns
returns c = numbers_in_order
