use Rattle.std.proofs.Common.{rules}
use Rattle.im_journal.proofs.Touching.{touch_leaves, touch_opens}
use Rattle.im_journal.proofs.gate.write_gate.Goals as goal

pub returns-in_err-write_at-clause-runs : goal.returns-in_err-write_at-clause-runs
returns-in_err-write_at-clause-runs g c = record {
  honest = search rules;
  leaves = λ h.
      touch_leaves g.D.Disk c.args.at c.args.disk.now c.write_at.new.self
      (c.requires.inside (c.write_at.ensures.honest h)) (c.write_at.ensures.moment h);
  calls = search rules;
  failures = search rules;
}

pub returns-clause-runs : goal.returns-clause-runs
returns-clause-runs g c = record {
  honest = search rules;
  leaves = λ h.
      touch_leaves g.D.Disk c.args.at c.args.disk.now c.write_at.new.self
      (c.requires.inside (c.write_at.ensures.honest h)) (c.write_at.ensures.moment h);
  calls = search rules;
  failures = search rules;
}

pub returns-clause-opened : goal.returns-clause-opened
returns-clause-opened g c = λ h.
    touch_opens c.args.at (g.D.Disk.now c.args.disk.now) (g.D.Disk.now c.write_at.new.self)
    (c.requires.inside (c.write_at.ensures.honest h)) (c.in_ok-write_at.ensures.tick h).now
