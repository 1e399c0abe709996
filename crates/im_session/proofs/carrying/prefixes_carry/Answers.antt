use Rattle.im_session.proofs.CarryLemmas.{carried}

pub returns : Rattle.im_session.proofs.carrying.prefixes_carry.Goals.returns
returns g c =
    record { leaves = λ s kept h before keep. carried g.D.Disk g.P.Property.holds s kept h before keep }
