use Rattle.im_disk.proofs.SinceLemmas.{leaves_start}
use Rattle.im_checkpoint.proofs.{Moments.means_left, Sweeping.all_hold}
use Rattle.im_checkpoint.specs.Keeping.{MeansWith, paged}
use Rattle.im_checkpoint.proofs.checkpoint.Checkpoint.rest.Goals as goal

pub sweep-requires-clause-holds : goal.sweep-requires-clause-holds
sweep-requires-clause-holds g c = λ h. all_hold c.args.self.now.state
    (paged c.args.self.now c.args.memory.now) c.args.memory.now.contents c.args.journal.now
    (g.D.Disk.now c.args.disk.now) (c.requires.kept h)

pub returns-then-to_sweep-gt0-clause-keeps : goal.returns-then-to_sweep-gt0-clause-keeps
returns-then-to_sweep-gt0-clause-keeps g c = λ h.
    c.sweep.ensures.keeps h c.args.self.now.state
    (paged c.args.self.now c.args.memory.now) c.args.memory.now.contents c.requires.rests.step
    (c.requires.kept (c.sweep.ensures.runs.honest h))

pub returns-then-is_due-clause-keeps : goal.returns-then-is_due-clause-keeps
returns-then-is_due-clause-keeps g c = λ h. record {
  leaves = record {
    within = leaves_start (g.D.Disk.now c.args.disk.now) (g.D.Disk.past c.args.disk.now)
        (MeansWith c.args.memory.now.contents c.args.journal.now);
    after = means_left c.args.self.now.state
        (paged c.args.self.now c.args.memory.now) c.args.memory.now.contents c.args.journal.now
        (g.D.Disk.now c.args.disk.now) (c.requires.kept h);
  };
  kept = c.begin.ensures.kept (g.D.Disk.now c.args.disk.now) (c.requires.kept h);
}

pub returns-clause-keeps : goal.returns-clause-keeps
returns-clause-keeps g c = λ h. record {
  leaves = record {
    within = leaves_start (g.D.Disk.now c.args.disk.now) (g.D.Disk.past c.args.disk.now)
        (MeansWith c.args.memory.now.contents c.args.journal.now);
    after = means_left c.args.self.now.state
        (paged c.args.self.now c.args.memory.now) c.args.memory.now.contents c.args.journal.now
        (g.D.Disk.now c.args.disk.now) (c.requires.kept h);
  };
  kept = c.requires.kept h;
}
