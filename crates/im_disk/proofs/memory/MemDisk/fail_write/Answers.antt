use Rattle.std.proofs.Common.{◌≡◌, ◌+◌, ◌≤◌, length, ap, subst, inl, arith, rules}
use Rattle.im_disk.proofs.{RecordingLemmas.may_tick_torn, RecordLemmas.fails_scarred, RecordLemmas.fails_unscarred}
use Rattle.im_disk.specs.{Record.shown, Recording.failed, Recording.Recording, Recording.scarred, Recording.ticked}
use Rattle.im_disk.proofs.memory.MemDisk.fail_write.Goals as goal

pub returns-in-Some-clause-record : goal.returns-in-Some-clause-record
returns-in-Some-clause-record c =
    let b = c.self.inside.bytes.items in
    let more = c.add.new.calls.items in
    let counted = c.fault-failure.new.failures in
    let size = ap (λ (r : Recording). length r.moment.bytes) c.self.view_is in
    let fits : c.args.at + c.args.len ≤ length b = omega arith in
    inl (subst (λ (r : Recording). shown c.fill.new.bytes.items more c.self.inside.begun counted
    ≡ failed (ticked (scarred c.args.at c.args.len c.args.byte r.moment) r)) c.self.view_is
    (fails_scarred b c.self.inside.calls.items more c.self.inside.begun c.self.inside.failures counted c.args.at c.args.len c.in-Ok.old c.self.invariant.begun_among fits (search rules) c.in_default-add.ensures.ok c.fault-failure.ensures.count
    c.args.byte c.in-Some.byte c.fill.new.bytes.items c.in-Some.is c.fill.ensures))

pub returns-in_default-byte-clause-record : goal.returns-in_default-byte-clause-record
returns-in_default-byte-clause-record c =
    let b = c.self.inside.bytes.items in
    let more = c.add.new.calls.items in
    let counted = c.fault-failure.new.failures in
    let size = ap (λ (r : Recording). length r.moment.bytes) c.self.view_is in
    let fits : c.args.at + c.args.len ≤ length b = omega arith in
    inl (subst (λ (r : Recording). shown b more c.self.inside.begun counted
    ≡ failed (ticked (scarred c.args.at c.args.len c.args.byte r.moment) r)) c.self.view_is
    (fails_unscarred b c.self.inside.calls.items more c.self.inside.begun c.self.inside.failures counted c.args.at c.args.len c.in-Ok.old c.self.invariant.begun_among fits (search rules) c.in_default-add.ensures.ok c.fault-failure.ensures.count
    c.args.byte c.in_default-byte.is))

pub returns-in-Some-clause-moment : goal.returns-in-Some-clause-moment
returns-in-Some-clause-moment c =
    let after = shown c.fill.new.bytes.items c.add.new.calls.items c.self.inside.begun c.fault-failure.new.failures in
    may_tick_torn c.args.at c.args.len c.args.byte c.args.self.now after c.requires (returns-in-Some-clause-record c)

pub returns-in_default-byte-clause-moment : goal.returns-in_default-byte-clause-moment
returns-in_default-byte-clause-moment c =
    let after = shown c.self.inside.bytes.items c.add.new.calls.items c.self.inside.begun c.fault-failure.new.failures in
    may_tick_torn c.args.at c.args.len c.args.byte c.args.self.now after c.requires
    (returns-in_default-byte-clause-record c)
