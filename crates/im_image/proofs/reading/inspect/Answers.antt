use Rattle.std.proofs.Common.{◌+◌, sym, ap}
use Rattle.{im_types.specs.Types.Reached, im_memory.specs.State.MemoryState}
use Rattle.im_image.proofs.Outcomes.{reads-same}

pub returns-in-Ok-clause-means : Rattle.im_image.proofs.reading.inspect.Goals.returns-in-Ok-clause-means
returns-in-Ok-clause-means g c = λ h.
    let i = c.in-Ok.image in
    let r = c.report_of.result in
    let told : Reached = record { contents = r.memory.contents; count = r.header.count + r.run; room = r.room } in
    reads-same (g.D.Disk.now c.args.disk.now).bytes
    (record { contents = i.memory.contents; count = i.journal.count; room = i.journal.room }) told
    (sym (ap (λ (m : MemoryState). m.contents) c.report_of.ensures.memory)) (sym c.report_of.ensures.count)
    (sym c.report_of.ensures.room) (c.in-Ok.ensures.means h)
