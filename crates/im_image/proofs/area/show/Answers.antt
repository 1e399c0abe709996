use Rattle.im_records.proofs.RowLemmas.{refused-same}

pub returns-in-Err-clause-bad : Rattle.im_image.proofs.area.show.Goals.returns-in-Err-clause-bad
returns-in-Err-clause-bad c = λ e m shown. c.in-Err.ensures.bad (refused-same c.in-Err.refusal _ e) m shown
