use Rattle.{im_disk.proofs.SinceLemmas.only_weaker, im_journal.specs.Holding.MaySweep}
use Rattle.im_checkpoint.{proofs.Sweeping.sweep_done, proofs.Sweeping.sweep_means, specs.Keeping.MeansWith}
use Rattle.im_checkpoint.proofs.old_slots.sweep.Goals as goal

pub returns-in-Ok-clause-keeps : goal.returns-in-Ok-clause-keeps
returns-in-Ok-clause-keeps g c = λ h s x m is kept. record {
  leaves = only_weaker g.D.Disk.now g.D.Disk.past c.args.disk.now c.sweep_turn.new.disk
      (MaySweep c.args.journal.now (g.D.Disk.now c.args.disk.now)) (MeansWith m c.args.journal.now)
      (c.sweep_turn.ensures.runs.leaves h)
      (sweep_means s x m c.args.journal.now (g.D.Disk.now c.args.disk.now) is kept);
  kept = sweep_done s x m c.args.journal.now (g.D.Disk.now c.args.disk.now) is kept
      (g.D.Disk.now c.sweep_turn.new.disk) _ c.sweep_turn.new.self c.in-Ok.ensures.room.room
      (c.in-Ok.ensures.swept h).run (c.in-Ok.ensures.swept h).calm (c.in-Ok.ensures.swept h).holds;
}

pub returns-in-Err-clause-keeps : goal.returns-in-Err-clause-keeps
returns-in-Err-clause-keeps g c = λ h s x m is kept. record {
  leaves = only_weaker g.D.Disk.now g.D.Disk.past c.args.disk.now c.sweep_turn.new.disk
      (MaySweep c.args.journal.now (g.D.Disk.now c.args.disk.now)) (MeansWith m c.args.journal.now)
      (c.sweep_turn.ensures.runs.leaves h)
      (sweep_means s x m c.args.journal.now (g.D.Disk.now c.args.disk.now) is kept);
  kept = tt;
}
