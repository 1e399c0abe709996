use Rattle.std.proofs.Common.{length, ap, ◌∙◌, arith, rules}
use Rattle.im_journal.proofs.Appending.{bodies_leave, gate_leaves, group_adds, longer_state, next_of}
use Rattle.im_journal.proofs.Fitting.{known_longer, room_by}
use Rattle.im_journal.specs.Holding.{journal_state, JournalState, longer, with_ahead}
use Rattle.im_journal.proofs.journal.Journal.append_group.Goals as goal

pub returns-in-Err-clause-runs : goal.returns-in-Err-clause-runs
returns-in-Err-clause-runs g c = record {
  honest = search rules;
  leaves = λ h.
      let h0 = c.write_bodies.ensures.runs.honest h in
      bodies_leave g.D.Disk.now g.D.Disk.past c.args.disk.now c.write_bodies.new.disk c.self.view_is
      (next_of (journal_state c.self.inside.base c.self.inside.slots c.self.inside.first c.self.inside.count
      c.self.inside.room c.self.inside.laid) c.args.self.now c.args.commands.now (g.D.Disk.now c.args.disk.now)
      c.has_room.result
      c.self.view_is c.self.invariant
      (c.requires.holds h0) c.requires.some c.requires.few c.has_room.ensures c.if-not-has_room.false)
      (c.write_bodies.ensures.runs.leaves h);
  calls = search rules;
  faults = search rules;
}

pub returns-in-Err-open_gate-clause-runs : goal.returns-in-Err-open_gate-clause-runs
returns-in-Err-open_gate-clause-runs g c = record {
  honest = search rules;
  leaves = λ h2.
      let h = c.open_gate.ensures.runs.honest h2 in
      let h0 = c.write_bodies.ensures.runs.honest h in
      gate_leaves g.D.Disk.now g.D.Disk.past c.args.disk.now c.write_bodies.new.disk c.self.view_is
      (next_of (journal_state c.self.inside.base c.self.inside.slots c.self.inside.first c.self.inside.count
      c.self.inside.room c.self.inside.laid) c.args.self.now c.args.commands.now (g.D.Disk.now c.args.disk.now)
      c.has_room.result
      c.self.view_is c.self.invariant
      (c.requires.holds h0) c.requires.some c.requires.few c.has_room.ensures c.if-not-has_room.false)
      (c.write_bodies.ensures.runs.leaves h) (c.in_default.ensures.written h) c.open_gate.new.disk
      (c.open_gate.ensures.runs.leaves h2);
  calls = search rules;
  faults = search rules;
}

pub returns-clause-runs : goal.returns-clause-runs
returns-clause-runs g c = record {
  honest = search rules;
  leaves = λ h2.
      let h = c.open_gate.ensures.runs.honest h2 in
      let h0 = c.write_bodies.ensures.runs.honest h in
      gate_leaves g.D.Disk.now g.D.Disk.past c.args.disk.now c.write_bodies.new.disk c.self.view_is
      (next_of (journal_state c.self.inside.base c.self.inside.slots c.self.inside.first c.self.inside.count
      c.self.inside.room c.self.inside.laid) c.args.self.now c.args.commands.now (g.D.Disk.now c.args.disk.now)
      c.has_room.result
      c.self.view_is c.self.invariant
      (c.requires.holds h0) c.requires.some c.requires.few c.has_room.ensures c.if-not-has_room.false)
      (c.write_bodies.ensures.runs.leaves h) (c.in_default.ensures.written h) c.open_gate.new.disk
      (c.open_gate.ensures.runs.leaves h2);
  calls = search rules;
  faults = search rules;
}

pub returns-clause-added : goal.returns-clause-added
returns-clause-added g c = λ h2.
    let h = c.open_gate.ensures.runs.honest h2 in
    let h0 = c.write_bodies.ensures.runs.honest h in
    group_adds g.D.Disk.now g.D.Disk.past c.args.disk.now c.write_bodies.new.disk c.self.view_is
    (next_of (journal_state c.self.inside.base c.self.inside.slots c.self.inside.first c.self.inside.count
    c.self.inside.room c.self.inside.laid) c.args.self.now c.args.commands.now (g.D.Disk.now c.args.disk.now)
    c.has_room.result
    c.self.view_is c.self.invariant
    (c.requires.holds h0) c.requires.some c.requires.few c.has_room.ensures c.if-not-has_room.false)
    (c.write_bodies.ensures.runs.leaves h) (c.in_default.ensures.written h) c.open_gate.new.disk
    _ (longer_state c.self.inside.base c.self.inside.slots c.self.inside.first c.self.inside.count c.self.inside.room
    c.room_after-room.result (length c.args.commands.now) c.self.inside.laid c.none.result c.requires.some
    c.room_after-room.ensures c.none.ensures)
    (c.in_default-open_gate.ensures.opened h2)

pub returns-clause-state : goal.returns-clause-state
returns-clause-state g c = longer_state c.self.inside.base c.self.inside.slots c.self.inside.first c.self.inside.count
    c.self.inside.room c.room_after-room.result (length c.args.commands.now) c.self.inside.laid c.none.result
    c.requires.some c.room_after-room.ensures c.none.ensures
    ∙ ap (λ (j : JournalState). longer (length c.args.commands.now) j) c.self.view_is

pub invariant_of-self : goal.invariant_of-self
invariant_of-self g c =
    let fits = room_by c.self.inside.count c.self.inside.room (length c.args.commands.now) c.has_room.result
    c.has_room.ensures c.if-not-has_room.false in
    let none = ap length c.none.ensures in
    known_longer (journal_state c.self.inside.base c.self.inside.slots c.self.inside.first c.self.inside.count
    c.self.inside.room c.self.inside.laid) c.self.invariant (length c.args.commands.now) c.none.result
    (omega (arith, none))
    (omega (arith, none, fits.0)) (omega (arith, none, fits.1)) _
    (ap (λ (j : JournalState). with_ahead c.none.result j)
    (longer_state c.self.inside.base c.self.inside.slots c.self.inside.first c.self.inside.count c.self.inside.room
    c.room_after-room.result (length c.args.commands.now) c.self.inside.laid c.none.result c.requires.some
    c.room_after-room.ensures c.none.ensures))
