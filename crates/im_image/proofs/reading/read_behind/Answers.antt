use Rattle.std.proofs.Common.{Err, sym, ap, subst, inl, inr}
use Rattle.im_types.specs.Types.{Refusal, layout_in, Reads}
use Rattle.im_disk.{proofs.RunLemmas.reads-on, specs.Moment.Moment}
use Rattle.im_image.proofs.Outcomes.{read-err, read-ok, reads-no-page}
use Rattle.im_image.specs.{Headers.seen, Reading.HasArea, Reading.IsImageOf}
use Rattle.im_image.proofs.reading.read_behind.Goals as goal

pub read_run-requires-clause-shown : goal.read_run-requires-clause-shown
read_run-requires-clause-shown g c = λ h.
    subst (λ (m : Moment). HasArea (seen c.args.header) c.in-Ok.memory.contents m.bytes)
    (sym (c.read_memory.ensures.reads.reads h).now)
    (record { header = c.requires.sound (c.read_memory.ensures.reads.honest h); shown = c.in-Ok.ensures.shown h })

pub returns-in-Ok-clause-means : goal.returns-in-Ok-clause-means
returns-in-Ok-clause-means g c =
    read-ok c.read_run.result IsImageOf (λ i. IsImageOf (g.D.Disk.now c.args.disk.now).bytes i)
    (g.D.Disk.now c.args.disk.now) (g.D.Disk.now c.read_memory.new.disk) (g.D.Disk.honest c.read_run.new.disk)
    (λ h. (c.read_memory.ensures.reads.reads (c.read_run.ensures.reads.honest h)).now)
    (λ h i it. it) c.read_run.ensures.means

pub returns-in-Ok-clause-fault : goal.returns-in-Ok-clause-fault
returns-in-Ok-clause-fault g c =
    let file = (g.D.Disk.now c.args.disk.now).bytes in
    read-err c.read_run.result (λ e. Reads (layout_in file) file (Err e)) (g.D.Disk.now c.args.disk.now)
    (g.D.Disk.now c.read_memory.new.disk) (g.D.Disk.honest c.read_run.new.disk)
    (λ h. (c.read_memory.ensures.reads.reads (c.read_run.ensures.reads.honest h)).now) (λ h e it. it)
    c.read_run.ensures.fault

pub returns-in-Ok-clause-reads : goal.returns-in-Ok-clause-reads
returns-in-Ok-clause-reads g c = reads-on g.D.Disk _ _ _ _ _ _ _ _ (λ e why. why)
    c.in-Ok.ensures.reads c.read_run.ensures.reads

pub returns-in-Err-clause-fault : goal.returns-in-Err-clause-fault
returns-in-Err-clause-fault g c =
    elim c.in-Err.ensures.reads.faults.0 [
      | inl is ↦ inr (inr (λ h.
          subst (λ (e : Refusal). Reads (layout_in (g.D.Disk.now c.args.disk.now).bytes)
          (g.D.Disk.now c.args.disk.now).bytes (Err e)) (sym is)
          (reads-no-page (layout_in (g.D.Disk.now c.args.disk.now).bytes) (g.D.Disk.now c.args.disk.now).bytes
          (c.requires.sound (c.read_memory.ensures.reads.honest h)).good
          (c.in-Err.ensures.bad (ap (λ (e : Refusal). Err e) is) h))))
      | inr more ↦ elim more [ inl none ↦ inl none | inr device ↦ inr (inl device) ]
    ]
