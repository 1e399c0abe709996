use Rattle.im_report.proofs.InspectingLemmas.{tells_whole}
use Rattle.im_report.proofs.inspecting.inspect_on.Goals as goal

pub returns-clause-told : goal.returns-clause-told
returns-clause-told g c = λ honest zero. tells_whole
    (g.D.Disk.now c.args.disk).bytes (g.W.Write.contents c.args.out.now)
    (g.W.Write.contents c.look_on.new.out) (c.look_on.ensures.told honest zero)

pub returns-clause-reads : goal.returns-clause-reads
returns-clause-reads g c = c.look_on.ensures.reads.reads

pub returns-clause-honest : goal.returns-clause-honest
returns-clause-honest g c = c.look_on.ensures.reads.honest
