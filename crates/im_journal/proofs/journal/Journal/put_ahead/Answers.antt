use Rattle.std.proofs.Common.{◌≡◌, ◌+◌, length, sym, refl, ap, ◌∙◌, arith, rules}
use Rattle.im_journal.proofs.Chaining.{bodies_leave_put, chain_of, chained_state, gate_inside, gate_leaves_put}
use Rattle.im_journal.proofs.Chaining.{group_puts, inside}
use Rattle.im_journal.proofs.Fitting.{full_by, full_here, full_no_device, full_no_ok, known_longer, not_full_by}
use Rattle.im_journal.proofs.Fitting.{room_by}
use Rattle.im_journal.specs.Holding.{IsFullFor, journal_state, JournalState, longer, room_after, with_ahead}
use Rattle.im_journal.proofs.journal.Journal.put_ahead.Goals as goal

pub returns-in-Err-clause-runs : goal.returns-in-Err-clause-runs
returns-in-Err-clause-runs g c = record {
  honest = search rules;
  leaves = λ h.
      let h0 = c.write_gate.ensures.runs.honest h in
      gate_leaves_put g.D.Disk c.args.disk.now c.write_gate.new.disk c.self.view_is
      c.as_slice-slice.ensures.value
      (chain_of (journal_state c.self.inside.base c.self.inside.slots c.self.inside.first c.self.inside.count
      c.self.inside.room c.self.inside.laid) c.args.self.now c.as_slice-slice.result.now
      (g.D.Disk.now c.args.disk.now) c.many-laid.result (length c.as_slice-slice.result.now) c.has_room.result
      c.self.view_is c.self.invariant (c.requires.holds h0) c.requires.some c.many-laid.ensures refl
      c.has_room.ensures c.if-not-has_room.false) (c.write_gate.ensures.runs.leaves h);
  calls = search rules;
  faults = search rules;
}

pub returns-in-Err-lay_bodies-clause-runs : goal.returns-in-Err-lay_bodies-clause-runs
returns-in-Err-lay_bodies-clause-runs g c = record {
  honest = search rules;
  leaves = λ h2.
      let h = c.lay_bodies.ensures.runs.honest h2 in
      let h0 = c.write_gate.ensures.runs.honest h in
      bodies_leave_put g.D.Disk c.args.disk.now c.write_gate.new.disk c.self.view_is
      c.as_slice-slice.ensures.value
      (chain_of (journal_state c.self.inside.base c.self.inside.slots c.self.inside.first c.self.inside.count
      c.self.inside.room c.self.inside.laid) c.args.self.now c.as_slice-slice.result.now
      (g.D.Disk.now c.args.disk.now) c.many-laid.result (length c.as_slice-slice.result.now) c.has_room.result
      c.self.view_is c.self.invariant (c.requires.holds h0) c.requires.some c.many-laid.ensures refl
      c.has_room.ensures c.if-not-has_room.false) (c.write_gate.ensures.runs.leaves h)
      _ (ap (λ n. c.self.inside.count + n) c.many-laid.ensures) c.lay_bodies.new.disk
      (c.lay_bodies.ensures.runs.leaves h2);
  calls = search rules;
  faults = search rules;
}

pub returns-clause-runs : goal.returns-clause-runs
returns-clause-runs g c = record {
  honest = search rules;
  leaves = λ h2.
      let h = c.lay_bodies.ensures.runs.honest h2 in
      let h0 = c.write_gate.ensures.runs.honest h in
      bodies_leave_put g.D.Disk c.args.disk.now c.write_gate.new.disk c.self.view_is
      c.as_slice-slice.ensures.value
      (chain_of (journal_state c.self.inside.base c.self.inside.slots c.self.inside.first c.self.inside.count
      c.self.inside.room c.self.inside.laid) c.args.self.now c.as_slice-slice.result.now
      (g.D.Disk.now c.args.disk.now) c.many-laid.result (length c.as_slice-slice.result.now) c.has_room.result
      c.self.view_is c.self.invariant (c.requires.holds h0) c.requires.some c.many-laid.ensures refl
      c.has_room.ensures c.if-not-has_room.false) (c.write_gate.ensures.runs.leaves h)
      _ (ap (λ n. c.self.inside.count + n) c.many-laid.ensures) c.lay_bodies.new.disk
      (c.lay_bodies.ensures.runs.leaves h2);
  calls = search rules;
  faults = search rules;
}

pub returns-clause-added : goal.returns-clause-added
returns-clause-added g c = λ h2.
    let h = c.lay_bodies.ensures.runs.honest h2 in
    let h0 = c.write_gate.ensures.runs.honest h in
    group_puts g.D.Disk c.args.disk.now c.write_gate.new.disk c.self.view_is
    c.as_slice-slice.ensures.value
    (chain_of (journal_state c.self.inside.base c.self.inside.slots c.self.inside.first c.self.inside.count
    c.self.inside.room c.self.inside.laid) c.args.self.now c.as_slice-slice.result.now
    (g.D.Disk.now c.args.disk.now) c.many-laid.result (length c.as_slice-slice.result.now) c.has_room.result
    c.self.view_is c.self.invariant (c.requires.holds h0) c.requires.some c.many-laid.ensures refl
    c.has_room.ensures c.if-not-has_room.false) (c.write_gate.ensures.runs.leaves h)
    _ (ap (λ n. c.self.inside.count + n) c.many-laid.ensures) c.lay_bodies.new.disk
    (c.in_default.ensures.opened h) (c.in_default-lay_bodies.ensures.laid h2) _
    (chained_state c.self.inside.base c.self.inside.slots c.self.inside.first c.self.inside.count c.self.inside.room _
    c.room_after-room.result c.self.inside.laid c.as_slice-slice.result.now c.of.result
    (ap (λ n. c.self.inside.count + n) c.many-laid.ensures) (c.room_after-room.ensures
    ∙ ap (λ n. room_after c.self.inside.count n c.self.inside.room) c.many-laid.ensures)
    (c.of.ensures ∙ sym c.as_slice-slice.ensures.value))

pub returns-clause-state : goal.returns-clause-state
returns-clause-state g c = chained_state c.self.inside.base c.self.inside.slots c.self.inside.first
    c.self.inside.count c.self.inside.room _ c.room_after-room.result c.self.inside.laid c.args.next.now.items
    c.of.result (ap (λ n. c.self.inside.count + n) c.many-laid.ensures) (c.room_after-room.ensures
    ∙ ap (λ n. room_after c.self.inside.count n c.self.inside.room) c.many-laid.ensures) c.of.ensures
    ∙ ap (λ (j : JournalState). with_ahead c.args.next.now.items (longer (length j.ahead) j)) c.self.view_is

pub invariant_of-self : goal.invariant_of-self
invariant_of-self g c =
    let slice = c.as_slice-slice.result.now in
    let laid = c.many-laid.ensures in
    let fits = room_by c.self.inside.count c.self.inside.room _ c.has_room.result c.has_room.ensures
    c.if-not-has_room.false in
    let same : c.of.result ≡ slice = c.of.ensures ∙ sym c.as_slice-slice.ensures.value in
    known_longer (journal_state c.self.inside.base c.self.inside.slots c.self.inside.first c.self.inside.count
    c.self.inside.room c.self.inside.laid) c.self.invariant (length c.self.inside.laid) c.of.result
    (omega (arith, ap length same, c.as_slice-slice.ensures.fits)) (omega (arith, ap length same, fits.0, laid))
    (omega (arith, ap length same, fits.1, laid)) _
    (chained_state c.self.inside.base c.self.inside.slots c.self.inside.first c.self.inside.count c.self.inside.room _
    c.room_after-room.result c.self.inside.laid c.of.result c.of.result
    (ap (λ n. c.self.inside.count + n) laid) (c.room_after-room.ensures
    ∙ ap (λ n. room_after c.self.inside.count n c.self.inside.room) laid) refl)

pub write_gate-requires : goal.write_gate-requires
write_gate-requires g c = record {
  inside = λ h0. gate_inside
      (chain_of (journal_state c.self.inside.base c.self.inside.slots c.self.inside.first c.self.inside.count
      c.self.inside.room c.self.inside.laid) c.args.self.now c.as_slice-slice.result.now
      (g.D.Disk.now c.args.disk.now) c.many-laid.result (length c.as_slice-slice.result.now) c.has_room.result
      c.self.view_is c.self.invariant (c.requires.holds h0) c.requires.some c.many-laid.ensures refl
      c.has_room.ensures c.if-not-has_room.false);
}

pub lay_bodies-requires-clause-fits : goal.lay_bodies-requires-clause-fits
lay_bodies-requires-clause-fits g c =
    let known = c.self.invariant in
    let fits = room_by c.self.inside.count c.self.inside.room _ c.has_room.result c.has_room.ensures
    c.if-not-has_room.false in
    record {
      ring = (omega (arith, known.enough_slots), known.inside);
      few = c.as_slice-slice.ensures.fits;
      once_round = omega (arith, fits.0, known.once_round, known.begun);
      last = omega (arith, fits.1);
    }

pub lay_bodies-requires-clause-inside : goal.lay_bodies-requires-clause-inside
lay_bodies-requires-clause-inside g c = λ h.
    let h0 = c.write_gate.ensures.runs.honest h in
    omega (
      arith,
      (c.in_default.ensures.opened h).kept.size,
      inside
          (chain_of (journal_state c.self.inside.base c.self.inside.slots c.self.inside.first c.self.inside.count
          c.self.inside.room c.self.inside.laid) c.args.self.now c.as_slice-slice.result.now
          (g.D.Disk.now c.args.disk.now) c.many-laid.result (length c.as_slice-slice.result.now) c.has_room.result
          c.self.view_is c.self.invariant (c.requires.holds h0) c.requires.some c.many-laid.ensures refl
          c.has_room.ensures c.if-not-has_room.false),
    )

pub returns-then-not-has_room-clause-full : goal.returns-then-not-has_room-clause-full
returns-then-not-has_room-clause-full g c =
    let laid = c.many-laid.ensures in
    let value = c.as_slice-slice.ensures.value in
    let all : c.many-laid.result + length c.as_slice-slice.result.now
    ≡ length c.self.inside.laid + length c.args.next.now.items = omega (arith, laid, ap length value) in
    full_here (IsFullFor c.args.self.now c.args.next.now.items) c.args.disk.now
    (full_by (journal_state c.self.inside.base c.self.inside.slots c.self.inside.first c.self.inside.count
    c.self.inside.room c.self.inside.laid) c.args.self.now c.args.next.now.items
    (c.many-laid.result + length c.as_slice-slice.result.now) c.has_room.result c.self.view_is all c.has_room.ensures
    c.if-not-has_room.true)

pub returns-in-Err-clause-full : goal.returns-in-Err-clause-full
returns-in-Err-clause-full g c =
    let laid = c.many-laid.ensures in
    let value = c.as_slice-slice.ensures.value in
    let all : c.many-laid.result + length c.as_slice-slice.result.now
    ≡ length c.self.inside.laid + length c.args.next.now.items = omega (arith, laid, ap length value) in
    full_no_device (IsFullFor c.args.self.now c.args.next.now.items) c.args.disk.now c.write_gate.new.disk
    (not_full_by (journal_state c.self.inside.base c.self.inside.slots c.self.inside.first c.self.inside.count
    c.self.inside.room c.self.inside.laid) c.args.self.now c.args.next.now.items
    (c.many-laid.result + length c.as_slice-slice.result.now) c.has_room.result c.self.view_is all c.has_room.ensures
    c.if-not-has_room.false)

pub returns-in-Err-lay_bodies-clause-full : goal.returns-in-Err-lay_bodies-clause-full
returns-in-Err-lay_bodies-clause-full g c =
    let laid = c.many-laid.ensures in
    let value = c.as_slice-slice.ensures.value in
    let all : c.many-laid.result + length c.as_slice-slice.result.now
    ≡ length c.self.inside.laid + length c.args.next.now.items = omega (arith, laid, ap length value) in
    full_no_device (IsFullFor c.args.self.now c.args.next.now.items) c.args.disk.now c.lay_bodies.new.disk
    (not_full_by (journal_state c.self.inside.base c.self.inside.slots c.self.inside.first c.self.inside.count
    c.self.inside.room c.self.inside.laid) c.args.self.now c.args.next.now.items
    (c.many-laid.result + length c.as_slice-slice.result.now) c.has_room.result c.self.view_is all c.has_room.ensures
    c.if-not-has_room.false)

pub returns-clause-full : goal.returns-clause-full
returns-clause-full g c =
    let laid = c.many-laid.ensures in
    let value = c.as_slice-slice.ensures.value in
    let all : c.many-laid.result + length c.as_slice-slice.result.now
    ≡ length c.self.inside.laid + length c.args.next.now.items = omega (arith, laid, ap length value) in
    full_no_ok (IsFullFor c.args.self.now c.args.next.now.items) c.args.disk.now c.lay_bodies.new.disk tt
    (not_full_by (journal_state c.self.inside.base c.self.inside.slots c.self.inside.first c.self.inside.count
    c.self.inside.room c.self.inside.laid) c.args.self.now c.args.next.now.items
    (c.many-laid.result + length c.as_slice-slice.result.now) c.has_room.result c.self.view_is all c.has_room.ensures
    c.if-not-has_room.false)
