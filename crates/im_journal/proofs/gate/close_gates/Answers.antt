use Rattle.std.proofs.Common.{[], ◌∷◌, refl, ◌∙◌, arith, rules}
use Rattle.im_journal.proofs.Closing.{closing_next, closing_start, synced_leaves, synced_shut, torn_leaves}
use Rattle.im_journal.specs.{Gates.closed_gate, Holding.ring_at}
use Rattle.im_journal.proofs.gate.close_gates.Goals as goal

pub loop-i-init : goal.loop-i-init
loop-i-init g c = record {
  honest = λ h. h;
  closing = λ h. closing_start g.D.Disk.now g.D.Disk.past
      (ring_at c.args.base c.args.slots) c.args.«from» c.args.count c.args.disk.now;
  failures = refl;
}

pub returns-in_err-write_at-clause-runs : goal.returns-in_err-write_at-clause-runs
returns-in_err-write_at-clause-runs g c = record {
  honest = search rules;
  leaves = λ h1.
      let h = c.write_at.ensures.honest h1 in
      let h0 = c.loop-i.invariant.honest h in
      torn_leaves g.D.Disk.now g.D.Disk.past
      (ring_at c.args.base c.args.slots) c.args.«from» c.args.count c.args.disk.now c.loop-i.i c.loop-i-test.true
      c.requires.ring.0 c.loop-i.disk
      (c.requires.inside h0) (c.loop-i.invariant.closing h) (closed_gate ∷ []) refl c.write_at.new.self
      (c.write_at.ensures.moment h1);
  calls = search rules;
  failures = search rules;
}

pub loop-i-preserved : goal.loop-i-preserved
loop-i-preserved g c = record {
  honest = λ h1. c.loop-i.invariant.honest (c.write_at.ensures.honest h1);
  closing = λ h1.
      let h = c.write_at.ensures.honest h1 in
      let h0 = c.loop-i.invariant.honest h in
      let tick = c.in_ok-write_at.ensures.tick h1 in
      closing_next g.D.Disk.now g.D.Disk.past
      (ring_at c.args.base c.args.slots) c.args.«from» c.args.count c.args.disk.now c.loop-i.i c.loop-i-test.true
      c.requires.ring.0 c.loop-i.disk
      (c.requires.inside h0) (c.loop-i.invariant.closing h) (closed_gate ∷ []) refl c.write_at.new.self tick.now
      (c.write_at.ensures.moment h1) tick.past;
  failures = c.in_ok-write_at.ensures.failures ∙ c.loop-i.invariant.failures;
}

pub returns-in_err-sync-clause-runs : goal.returns-in_err-sync-clause-runs
returns-in_err-sync-clause-runs g c = record {
  honest = search rules;
  leaves = λ h1.
      let h = c.sync.ensures.honest h1 in
      synced_leaves g.D.Disk.now g.D.Disk.past
      (ring_at c.args.base c.args.slots) c.args.«from» c.args.count c.args.disk.now c.loop-i.i c.loop-i.disk
      (c.loop-i.invariant.closing h) c.sync.new.self (c.sync.ensures.moment h1);
  calls = search rules;
  failures = search rules;
}

pub returns-clause-runs : goal.returns-clause-runs
returns-clause-runs g c = record {
  honest = search rules;
  leaves = λ h1.
      let h = c.sync.ensures.honest h1 in
      synced_leaves g.D.Disk.now g.D.Disk.past
      (ring_at c.args.base c.args.slots) c.args.«from» c.args.count c.args.disk.now c.loop-i.i c.loop-i.disk
      (c.loop-i.invariant.closing h) c.sync.new.self (c.sync.ensures.moment h1);
  calls = search rules;
  failures = search rules;
}

pub returns-clause-closed : goal.returns-clause-closed
returns-clause-closed g c = λ h1.
    let h = c.sync.ensures.honest h1 in
    synced_shut g.D.Disk.now g.D.Disk.past
    (ring_at c.args.base c.args.slots) c.args.«from» c.args.count c.args.disk.now c.loop-i.i c.loop-i.disk
    (c.loop-i.invariant.closing h) c.sync.new.self
    (omega (arith, c.loop-i-test.false)) (c.in_ok-sync.ensures.tick h1).now
