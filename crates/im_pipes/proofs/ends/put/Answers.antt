use Rattle.im_pipes.proofs.RuleLemmas.{sends}

pub send_as-requires-clause-rule : Rattle.im_pipes.proofs.ends.put.Goals.send_as-requires-clause-rule
send_as-requires-clause-rule g c = (sends _ _ _ _ c.requires.sends, λ items views h at. tt)
