use Rattle.std.proofs.Common.{◌≡◌, ◌⊎◌, ap, subst, inl, inr}
use Rattle.im_types.specs.Types.{Sizes, sizes_of, Header}
use Rattle.im_disk.specs.Since.{LeavesWithin}
use Rattle.im_migration.specs.Migration.{BlankOrLaid, IsLaidDown, PlaceFails}
use Rattle.im_migration.proofs.preparing.put_memory.Goals as goal

pub returns-in-Ok-clause-leaves : goal.returns-in-Ok-clause-leaves
returns-in-Ok-clause-leaves g c = λ honest.
    let runs = c.put_image.ensures.runs in (
      runs.honest honest,
      subst (λ (h : Header). LeavesWithin g.N.Disk.now g.N.Disk.past c.args.new c.put_image.new.new
          (BlankOrLaid h c.args.original.now.memory.now.contents)) c.header_for-header.ensures.seen (runs.kept honest),
    )

pub returns-in-Ok-clause-laid : goal.returns-in-Ok-clause-laid
returns-in-Ok-clause-laid g c = λ honest file left.
    subst (λ (h : Header). IsLaidDown h c.args.original.now.memory.now.contents file) c.header_for-header.ensures.seen
    (c.in-Ok.ensures.laid honest file left)

pub returns-in-Err-clause-leaves : goal.returns-in-Err-clause-leaves
returns-in-Err-clause-leaves g c = λ honest.
    let runs = c.put_image.ensures.runs in (
      runs.honest honest,
      subst (λ (h : Header). LeavesWithin g.N.Disk.now g.N.Disk.past c.args.new c.put_image.new.new
          (BlankOrLaid h c.args.original.now.memory.now.contents)) c.header_for-header.ensures.seen (runs.kept honest),
    )

pub returns-in-Err-clause-refused : goal.returns-in-Err-clause-refused
returns-in-Err-clause-refused g c =
    subst (λ (s : Sizes). PlaceFails g.N.Disk c.args.new c.put_image.new.new c.in-Err.fault s)
    (ap sizes_of c.header_for-header.ensures.limits) c.in-Err.ensures.none
