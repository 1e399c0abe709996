use Rattle.{im_disk.proofs.SinceLemmas.only_weaker, im_journal.specs.Holding.MaySweep}
use Rattle.im_checkpoint.proofs.Sweeping.{kept_still, sweep_means, swept_kept}
use Rattle.im_checkpoint.specs.Keeping.{MeansWith}
use Rattle.im_checkpoint.proofs.old_slots.sweep_more.Goals as goal

pub returns-then-to_sweep-eq0-clause-keeps : goal.returns-then-to_sweep-eq0-clause-keeps
returns-then-to_sweep-eq0-clause-keeps g c =
    λ h s x m is kept. kept_still g.D.Disk.now g.D.Disk.past c.args.disk.now s x m c.args.journal.now kept

pub returns-clause-keeps : goal.returns-clause-keeps
returns-clause-keeps g c = λ h s x m is kept. record {
  leaves = only_weaker g.D.Disk.now g.D.Disk.past c.args.disk.now c.sweep.new.disk
      (MaySweep c.args.journal.now (g.D.Disk.now c.args.disk.now)) (MeansWith m c.args.journal.now)
      (c.sweep.ensures.runs.leaves h)
      (sweep_means s x m c.args.journal.now (g.D.Disk.now c.args.disk.now) is kept);
  kept = swept_kept s x m c.args.journal.now (g.D.Disk.now c.args.disk.now) is kept h c.sweep.result c.args.most
      (g.D.Disk.now c.sweep.new.disk) c.sweep.new.self c.sweep.ensures.room c.sweep.ensures.swept;
}
