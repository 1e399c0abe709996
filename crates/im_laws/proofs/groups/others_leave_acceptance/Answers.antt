use Rattle.im_laws.proofs.GroupLemmas.{accepted-other, accepted-others}

pub returns : Rattle.im_laws.proofs.groups.others_leave_acceptance.Goals.returns
returns c = record { one = accepted-other; group = accepted-others }
