use Rattle.std.proofs.Common.{◌≡◌, ◌+◌, ◌≤◌, length, refl, ap, ◌∙◌, subst, arith, rules}
use Rattle.im_disk.proofs.RecordLemmas.{shown_written}
use Rattle.im_disk.specs.{Moment.written, Record.shown, Recording.Recording, Recording.ticked}

pub returns-clause-answer : Rattle.im_disk.proofs.memory.MemDiskDisk.write_at.Goals.returns-clause-answer
returns-clause-answer c =
    let b = c.self.inside.bytes.items in
    let more = c.note.new.calls.items in
    let counted = ap (λ k. shown c.put.new.bytes.items more c.self.inside.begun k) c.in_ok-note.ensures.ok_count in
    let size = ap (λ (r : Recording). length r.moment.bytes) c.self.view_is in
    let fits : c.args.at + length c.args.bytes.now ≤ length b = omega arith in
    subst (λ (r : Recording). shown c.put.new.bytes.items more c.self.inside.begun c.note.new.failures
    ≡ ticked (written c.args.at c.args.bytes.now r.moment) r) c.self.view_is
    (counted ∙ shown_written b c.self.inside.calls.items more c.self.inside.begun c.self.inside.failures c.args.at
    (length c.args.bytes.now) c.in-Ok.old c.self.invariant.begun_among fits
    (search rules) c.in_ok-note.ensures.ok c.args.bytes.now c.put.new.bytes.items refl c.put.ensures)
