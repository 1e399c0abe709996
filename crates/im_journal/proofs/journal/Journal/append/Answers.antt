use Rattle.im_journal.proofs.Appending.{full_of_one}

pub returns-clause-full : Rattle.im_journal.proofs.journal.Journal.append.Goals.returns-clause-full
returns-clause-full g c = full_of_one c.args.self.now c.args.disk.now c.append_group.new.disk c.append_group.result c.append_group.ensures.known c.append_group.ensures.full
