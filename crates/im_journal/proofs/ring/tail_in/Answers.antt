use Rattle.std.proofs.Common.{◌≡◌, ◌+◌, Bool, length, if◌then◌else◌, ◌==◌, Err, refl, ap, ◌∙◌, rules}
use Rattle.im_types.specs.Types.{BadRecord, LAST, tail_if}
use Rattle.im_journal.{proofs.Reading.tail_found, proofs.Reading.tail_unread, specs.Holding.ring_alone}
use Rattle.im_journal.proofs.ring.tail_in.Goals as goal

pub returns-in-Err-clause-bad : goal.returns-in-Err-clause-bad
returns-in-Err-clause-bad c = λ e.
    let is : c.in-Err.refusal ≡ BadRecord = cc in
    tail_unread (ring_alone c.args.slots) c.args.first c.args.ring.now (c.in-Err.ensures.bad (ap (λ r. Err r) is))

pub returns-then-not-are_stale-clause-bad : goal.returns-then-not-are_stale-clause-bad
returns-then-not-are_stale-clause-bad c = λ e.
    let n : c.len.result ≡ length c.in-Ok.commands.items = search rules in
    let m : c.len-2.result ≡ length c.in-Ok.commands.items = search rules in
    tail_found (ring_alone c.args.slots) c.args.first c.args.ring.now c.in-Ok.commands.items c.in-Ok.ensures.commands c.len.result c.len-2.result c.closed_in-closed.result (if c.args.first + c.len.result == LAST then 0 else c.closed_in-closed.result) c.are_stale.result n m c.closed_in-closed.ensures.closed c.are_stale.ensures refl
    ∙ ap (λ (b : Bool). tail_if b
    (if c.args.first + c.len.result == LAST then 0 else c.closed_in-closed.result) c.in-Ok.commands.items) c.if-not-are_stale.true

pub returns-clause-tail : goal.returns-clause-tail
returns-clause-tail c =
    let n : c.len.result ≡ length c.in-Ok.commands.items = search rules in
    let m : c.len-2.result ≡ length c.in-Ok.commands.items = search rules in
    tail_found (ring_alone c.args.slots) c.args.first c.args.ring.now c.in-Ok.commands.items c.in-Ok.ensures.commands c.len.result c.len-2.result c.closed_in-closed.result c.room_behind.result c.are_stale.result n m c.closed_in-closed.ensures.closed c.are_stale.ensures c.room_behind.ensures.room
    ∙ ap (λ (b : Bool). tail_if b c.room_behind.result c.in-Ok.commands.items) c.if-not-are_stale.false
