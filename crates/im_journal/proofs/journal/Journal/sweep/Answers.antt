use Rattle.std.proofs.Common.{◌≤◌, sym, subst, rules}
use Rattle.im_journal.proofs.Fitting.{known_swept}
use Rattle.im_journal.proofs.Sweeping.{no_more, sweep_leaves, sweeps, turn_of}
use Rattle.im_journal.specs.Holding.{journal_state, JournalState, to_sweep}
use Rattle.im_journal.proofs.journal.Journal.sweep.Goals as goal

pub returns-in-Err-clause-runs : goal.returns-in-Err-clause-runs
returns-in-Err-clause-runs g c = record {
  honest = search rules;
  leaves = λ h.
      let h0 = c.close_gates.ensures.runs.honest h in
      sweep_leaves g.D.Disk.now g.D.Disk.past c.args.disk.now c.close_gates.new.disk
      (turn_of (journal_state c.self.inside.base c.self.inside.slots c.self.inside.first c.self.inside.count
      c.self.inside.room c.self.inside.laid) c.args.self.now c.at_once-swept.result (g.D.Disk.now c.args.disk.now)
      c.self.view_is c.self.invariant c.requires.some (c.requires.holds h0)
      (no_more c.at_once-swept.result c.args.most c.to_sweep.result
      (to_sweep c.args.self.now) c.at_once-swept.ensures c.to_sweep.ensures))
      (c.close_gates.ensures.runs.leaves h);
  calls = search rules;
  faults = search rules;
}

pub returns-clause-runs : goal.returns-clause-runs
returns-clause-runs g c = record {
  honest = search rules;
  leaves = λ h.
      let h0 = c.close_gates.ensures.runs.honest h in
      sweep_leaves g.D.Disk.now g.D.Disk.past c.args.disk.now c.close_gates.new.disk
      (turn_of (journal_state c.self.inside.base c.self.inside.slots c.self.inside.first c.self.inside.count
      c.self.inside.room c.self.inside.laid) c.args.self.now c.at_once-swept.result (g.D.Disk.now c.args.disk.now)
      c.self.view_is c.self.invariant c.requires.some (c.requires.holds h0)
      (no_more c.at_once-swept.result c.args.most c.to_sweep.result
      (to_sweep c.args.self.now) c.at_once-swept.ensures c.to_sweep.ensures))
      (c.close_gates.ensures.runs.leaves h);
  calls = search rules;
  faults = search rules;
}

pub returns-clause-swept : goal.returns-clause-swept
returns-clause-swept g c = λ h.
    let h0 = c.close_gates.ensures.runs.honest h in
    sweeps
    (turn_of (journal_state c.self.inside.base c.self.inside.slots c.self.inside.first c.self.inside.count
    c.self.inside.room c.self.inside.laid) c.args.self.now c.at_once-swept.result (g.D.Disk.now c.args.disk.now)
    c.self.view_is c.self.invariant c.requires.some (c.requires.holds h0)
    (no_more c.at_once-swept.result c.args.most c.to_sweep.result
    (to_sweep c.args.self.now) c.at_once-swept.ensures c.to_sweep.ensures))
    (g.D.Disk.now c.close_gates.new.disk) (c.in_default.ensures.closed h)

pub invariant_of-self : goal.invariant_of-self
invariant_of-self g c =
    known_swept (journal_state c.self.inside.base c.self.inside.slots c.self.inside.first c.self.inside.count
    c.self.inside.room c.self.inside.laid) c.self.invariant c.at_once-swept.result
    (subst (λ (j : JournalState). c.at_once-swept.result ≤ to_sweep j) (sym c.self.view_is)
    (no_more c.at_once-swept.result c.args.most c.to_sweep.result
    (to_sweep c.args.self.now) c.at_once-swept.ensures c.to_sweep.ensures))
