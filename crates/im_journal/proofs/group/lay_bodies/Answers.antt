use Rattle.std.proofs.Common.{length, rules}
use Rattle.im_journal.{proofs.Touching.laid_now, proofs.Touching.synced_bodies, specs.Holding.ring_at}
use Rattle.im_journal.proofs.group.lay_bodies.Goals as goal

pub returns-in_err-sync-clause-runs : goal.returns-in_err-sync-clause-runs
returns-in_err-sync-clause-runs g c = record {
  honest = search rules;
  leaves = λ h1.
      let h = c.sync.ensures.honest h1 in
      synced_bodies g.D.Disk (ring_at c.args.base c.args.slots) c.args.«from»
      (length c.args.commands.now) c.args.disk.now c.write_bodies.new.disk c.sync.new.self
      (c.write_bodies.ensures.runs.leaves h) (c.sync.ensures.moment h1);
  calls = search rules;
  failures = search rules;
}

pub returns-clause-runs : goal.returns-clause-runs
returns-clause-runs g c = record {
  honest = search rules;
  leaves = λ h1.
      let h = c.sync.ensures.honest h1 in
      synced_bodies g.D.Disk (ring_at c.args.base c.args.slots) c.args.«from»
      (length c.args.commands.now) c.args.disk.now c.write_bodies.new.disk c.sync.new.self
      (c.write_bodies.ensures.runs.leaves h) (c.sync.ensures.moment h1);
  calls = search rules;
  failures = search rules;
}

pub returns-clause-laid : goal.returns-clause-laid
returns-clause-laid g c = λ h1.
    let h = c.sync.ensures.honest h1 in
    laid_now (ring_at c.args.base c.args.slots) c.args.«from» c.args.commands.now (g.D.Disk.now c.args.disk.now)
    (g.D.Disk.now c.write_bodies.new.disk) (g.D.Disk.now c.sync.new.self) (c.in_ok-write_bodies.ensures.written h)
    (c.in_ok-sync.ensures.tick h1).now
