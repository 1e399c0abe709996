use Rattle.std.proofs.Common.{◌≡◌, ap, ◌∙◌, subst}
use Rattle.im_disk.proofs.RecordLemmas.{shown_read}
use Rattle.im_disk.specs.{Record.shown, Recording.Recording, Recording.ticked}

pub returns-clause-answer : Rattle.im_disk.proofs.memory.MemDiskDisk.read.Goals.returns-clause-answer
returns-clause-answer c =
    let b = c.self.inside.bytes.items in
    let more = c.note.new.calls.items in
    let counted = ap (λ k. shown b more c.self.inside.begun k) c.in_ok-note.ensures.ok_count in
    subst (λ (r : Recording). shown b more c.self.inside.begun c.note.new.failures ≡ ticked r.moment r) c.self.view_is
    (counted ∙ shown_read b c.self.inside.calls.items more c.self.inside.begun c.self.inside.failures c.self.invariant.begun_among c.in_ok-note.ensures.ok)
