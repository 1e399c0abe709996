use Rattle.std.proofs.Common.{◌≡◌, None, Ok, Err, sym, subst, inl, inr, ⊎_elim}
use Rattle.{im_types.specs.Types.Header, im_types.specs.Types.header_of, im_journal.specs.Holding.Holds}
use Rattle.im_disk.{proofs.RunLemmas.reads-on, specs.Moment.Moment}
use Rattle.im_image.proofs.Outcomes.{read-err, read-ok, reads-wider}
use Rattle.im_image.proofs.VersionLemmas.{fault_reads, image_may, reads_by, refused_may, sound, version_read}
use Rattle.im_image.specs.Headers.{seen, version_fault}
use Rattle.im_image.specs.Reading.{HasHeader, IsImageOf, reached, ReadsBy}
use Rattle.im_image.proofs.reading.read_image.Goals as goal

pub read_behind-requires-clause-sound : goal.read_behind-requires-clause-sound
read_behind-requires-clause-sound g c = λ h.
    subst (λ (m : Moment). HasHeader (seen c.in-Ok.header) m.bytes) (sym (c.read_header.ensures.reads.reads h).now)
    (record {
      good = sound c.args.versions (g.D.Disk.now c.args.disk.now).bytes (c.in-Ok.ensures.good h);
      is = c.in-Ok.ensures.found h;
    })

pub returns-in-Ok-clause-version : goal.returns-in-Ok-clause-version
returns-in-Ok-clause-version g c =
    version_read c.read_behind.result c.args.versions c.in-Ok.header c.in-Ok.ensures.version c.read_behind.ensures.same

pub returns-in-Ok-clause-header : goal.returns-in-Ok-clause-header
returns-in-Ok-clause-header g c =
    read-ok c.read_behind.result IsImageOf (λ i. seen i.header ≡ header_of (g.D.Disk.now c.args.disk.now).bytes)
    (g.D.Disk.now c.args.disk.now) (g.D.Disk.now c.read_header.new.disk) (g.D.Disk.honest c.read_behind.new.disk)
    (λ h. (c.read_header.ensures.reads.reads (c.read_behind.ensures.reads.honest h)).now)
    (λ h i it. it.header) c.read_behind.ensures.means

pub returns-in-Ok-clause-holds : goal.returns-in-Ok-clause-holds
returns-in-Ok-clause-holds g c =
    read-ok c.read_behind.result IsImageOf (λ i. Holds i.journal (g.D.Disk.now c.args.disk.now).bytes)
    (g.D.Disk.now c.args.disk.now) (g.D.Disk.now c.read_header.new.disk) (g.D.Disk.honest c.read_behind.new.disk)
    (λ h. (c.read_header.ensures.reads.reads (c.read_behind.ensures.reads.honest h)).now)
    (λ h i it. it.holds) c.read_behind.ensures.means

pub returns-in-Ok-clause-means : goal.returns-in-Ok-clause-means
returns-in-Ok-clause-means g c =
    let file = (g.D.Disk.now c.args.disk.now).bytes in
    read-ok c.read_behind.result IsImageOf (λ i. ReadsBy c.args.versions file (Ok (reached i)))
    (g.D.Disk.now c.args.disk.now) (g.D.Disk.now c.read_header.new.disk) (g.D.Disk.honest c.read_behind.new.disk)
    (λ h. (c.read_header.ensures.reads.reads (c.read_behind.ensures.reads.honest h)).now)
    (λ h i it. reads_by c.args.versions file (Ok (reached i))
    (subst (λ (x : Header). version_fault c.args.versions x.version ≡ None)
    (c.in-Ok.ensures.found (c.read_behind.ensures.reads.honest h)) c.in-Ok.ensures.version) it.means)
    c.read_behind.ensures.means

pub returns-in-Ok-clause-fault : goal.returns-in-Ok-clause-fault
returns-in-Ok-clause-fault g c =
    let file = (g.D.Disk.now c.args.disk.now).bytes in
    read-err c.read_behind.result (λ e. ReadsBy c.args.versions file (Err e)) (g.D.Disk.now c.args.disk.now)
    (g.D.Disk.now c.read_header.new.disk) (g.D.Disk.honest c.read_behind.new.disk)
    (λ h. (c.read_header.ensures.reads.reads (c.read_behind.ensures.reads.honest h)).now)
    (λ h e it. reads_by c.args.versions file (Err e)
    (subst (λ (x : Header). version_fault c.args.versions x.version ≡ None)
    (c.in-Ok.ensures.found (c.read_behind.ensures.reads.honest h)) c.in-Ok.ensures.version) it)
    c.read_behind.ensures.fault

pub returns-in-Ok-clause-reads : goal.returns-in-Ok-clause-reads
returns-in-Ok-clause-reads g c = reads-on g.D.Disk _ _ _ _ _ _ _ _ (image_may c.args.versions)
    c.in-Ok.ensures.reads c.read_behind.ensures.reads

pub returns-in-Err-clause-fault : goal.returns-in-Err-clause-fault
returns-in-Err-clause-fault g c =
    ⊎_elim (λ device. inr (inl device))
    (λ fault. inr (inr (λ h.
    fault_reads c.args.versions (g.D.Disk.now c.args.disk.now).bytes c.in-Err.refusal (fault h))))
    c.in-Err.ensures.fault

pub returns-in-Err-clause-reads : goal.returns-in-Err-clause-reads
returns-in-Err-clause-reads g c = reads-wider g.D.Disk _ _ _ _ _ (refused_may c.args.versions c.in-Err.refusal)
    c.in-Err.ensures.reads
