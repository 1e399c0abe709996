use Rattle.im_serial.proofs.KeepsLemmas.{keeps_on}

pub returns-clause-keeps : Rattle.im_serial.proofs.serial.serial_once_on.Goals.returns-clause-keeps
returns-clause-keeps g c = λ honest limits before.
    let r = c.open_and_serve_once.result in
    keeps_on g.D.Disk limits c.args.styled.now.script.now c.args.disk r.1 _ _ r.0 before honest
    (c.open_and_serve_once.ensures.served honest)
