use Rattle.im_text.proofs.SaidLemmas.{last_printed}

pub returns : Rattle.im_text.proofs.ending.print_refusal.Goals.returns
returns g c = λ from said it. last_printed from _ _ said c.args.refusal (c.push_through.ensures from said it)
