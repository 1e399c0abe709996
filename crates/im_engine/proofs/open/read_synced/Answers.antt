use Rattle.std.proofs.Common.{◌≡◌, Ok, inl, inr, ⊎_elim}
use Rattle.im_types.specs.Types.{layout_in_use, header_of, Reads}
use Rattle.im_image.specs.Headers.{seen}
use Rattle.im_engine.proofs.Opening.{kept_read, opens_leaves, ring_young, settled}
use Rattle.im_engine.specs.State.{IsFirstFault}
use Rattle.im_engine.proofs.open.read_synced.Goals as goal

pub returns-in-Ok-clause-kept : goal.returns-in-Ok-clause-kept
returns-in-Ok-clause-kept g c = λ h x all.
    let i = c.in-Ok.image in
    let done = (c.in_default.ensures.tick (c.read_image.ensures.reads.honest h)).now in
    kept_read (g.D.Disk.now c.args.disk.now) (g.D.Disk.now c.sync.new.self) (g.D.Disk.now c.read_image.new.disk) (seen i.header) x i.memory.contents i.journal all
    done (c.read_image.ensures.reads.reads h).now (c.in-Ok.ensures.header h) c.in-Ok.ensures.version c.in-Ok.ensures.parts.journal (c.in-Ok.ensures.holds h) (c.in-Ok.ensures.means h)

pub returns-in-Ok-clause-leaves : goal.returns-in-Ok-clause-leaves
returns-in-Ok-clause-leaves g c = λ h.
    let shaken = c.sync.ensures.moment (c.read_image.ensures.reads.honest h) in
    opens_leaves (g.D.Disk.now c.args.disk.now) (g.D.Disk.now c.sync.new.self) (g.D.Disk.now c.read_image.new.disk) (g.D.Disk.past c.args.disk.now) (g.D.Disk.past c.sync.new.self) (g.D.Disk.past c.read_image.new.disk) shaken (c.read_image.ensures.reads.reads h)

pub returns-in-Err-read_image-clause-fault : goal.returns-in-Err-read_image-clause-fault
returns-in-Err-read_image-clause-fault g c =
    let e = c.in-Err-read_image.refusal in
    ⊎_elim (λ none. inl none) (λ more. ⊎_elim (λ device. inr (inl device)) (λ fault. inr (inr (λ h.
    let calm = (c.in_default.ensures.tick (c.read_image.ensures.reads.honest h)).now in
    settled (g.D.Disk.now c.args.disk.now) (g.D.Disk.now c.sync.new.self) (g.D.Disk.now c.read_image.new.disk) (IsFirstFault e)
    calm (c.read_image.ensures.reads.reads h).now (fault h)))) more) c.in-Err-read_image.ensures.fault

pub returns-in-Err-read_image-clause-leaves : goal.returns-in-Err-read_image-clause-leaves
returns-in-Err-read_image-clause-leaves g c = λ h.
    let ticked = c.sync.ensures.moment (c.read_image.ensures.reads.honest h) in
    opens_leaves (g.D.Disk.now c.args.disk.now) (g.D.Disk.now c.sync.new.self) (g.D.Disk.now c.read_image.new.disk) (g.D.Disk.past c.args.disk.now) (g.D.Disk.past c.sync.new.self) (g.D.Disk.past c.read_image.new.disk) ticked (c.read_image.ensures.reads.reads h)

pub returns-in-Ok-clause-found : goal.returns-in-Ok-clause-found
returns-in-Ok-clause-found g c = λ h.
    let i = c.in-Ok.image in
    let synced = c.sync.new.self in
    let sure = (c.in_default.ensures.tick (c.read_image.ensures.reads.honest h)).now in
    settled (g.D.Disk.now c.args.disk.now) (g.D.Disk.now synced) (g.D.Disk.now c.read_image.new.disk)
    (λ file. (seen i.header ≡ header_of file) × Reads layout_in_use file (Ok (record { contents = i.memory.contents; count = i.journal.count; room = i.journal.room })))
    sure (c.read_image.ensures.reads.reads h).now (c.in-Ok.ensures.header h, c.in-Ok.ensures.means h)

pub returns-in-Ok-clause-fits : goal.returns-in-Ok-clause-fits
returns-in-Ok-clause-fits g c =
    let i = c.in-Ok.image in
    let parts = c.in-Ok.ensures.parts in (
      record {
        cells = parts.sizes.cells;
        elements = parts.sizes.elements;
        ring = ring_young (seen i.header) i.journal c.in-Ok.ensures.version parts.journal;
        first = parts.journal.first;
        step = tt;
      },
      parts.journal.none,
    )
