use Rattle.std.proofs.Common.{sym, ap, subst, inl, inr, ⊎_elim}
use Rattle.{im_types.specs.Types.Sizes, im_types.specs.Types.sizes_of, im_image.specs.Headers.seen}
use Rattle.im_migration.proofs.Parts.{has_count, leaves_same, means_same, refused_old, refused_place, same_sizes}
use Rattle.im_migration.specs.Migration.{IsPlace}
use Rattle.im_migration.proofs.moving.migrate.Goals as goal

pub returns-in-Ok-put_image-clause-leaves : goal.returns-in-Ok-put_image-clause-leaves
returns-in-Ok-put_image-clause-leaves g c = λ h.
    leaves_same c.in-Ok.image (g.O.Disk.now c.args.old.now).bytes
    (g.O.Disk.honest c.read_image.new.disk) c.in-Ok.ensures.means c.in-Ok.ensures.header
    (seen c.header_for-header.result) c.count-count.result c.header_for-header.ensures.seen c.count-count.ensures.count
    (g.N.Disk.now c.args.new) (g.N.Disk.now c.put_image.new.new) (g.N.Disk.past c.args.new)
    (g.N.Disk.past c.put_image.new.new)
    (c.put_image.ensures.runs.kept h)

pub returns-in-Ok-put_image-clause-moved : goal.returns-in-Ok-put_image-clause-moved
returns-in-Ok-put_image-clause-moved g c = λ honest here file left.
    means_same c.in-Ok.image (g.O.Disk.now c.args.old.now).bytes
    (g.O.Disk.honest c.read_image.new.disk) c.in-Ok.ensures.means c.in-Ok.ensures.header
    (seen c.header_for-header.result) c.count-count.result c.header_for-header.ensures.seen c.count-count.ensures.count
    file (c.in-Ok-put_image.ensures.laid here file left) honest

pub returns-in-Ok-put_image-clause-count : goal.returns-in-Ok-put_image-clause-count
returns-in-Ok-put_image-clause-count g c =
    has_count c.in-Ok.image (g.O.Disk.now c.args.old.now).bytes
    (g.O.Disk.honest c.read_image.new.disk) c.in-Ok.ensures.means c.in-Ok.ensures.header c.count-count.result
    (sym c.count-count.ensures.count)

pub returns-in-Ok-put_image-clause-place : goal.returns-in-Ok-put_image-clause-place
returns-in-Ok-put_image-clause-place g c = λ honest here.
    subst (λ (s : Sizes). IsPlace s (g.N.Disk.now c.args.new).bytes)
    (same_sizes c.in-Ok.image (g.O.Disk.now c.args.old.now).bytes
    (g.O.Disk.honest c.read_image.new.disk) c.in-Ok.ensures.means c.in-Ok.ensures.header
    (sizes_of c.header_for-header.result.limits) (ap sizes_of c.header_for-header.ensures.limits) honest)
    (c.in-Ok-put_image.ensures.place here)

pub returns-in-Ok-clause-leaves : goal.returns-in-Ok-clause-leaves
returns-in-Ok-clause-leaves g c = λ h.
    leaves_same c.in-Ok.image (g.O.Disk.now c.args.old.now).bytes
    (g.O.Disk.honest c.read_image.new.disk) c.in-Ok.ensures.means c.in-Ok.ensures.header
    (seen c.header_for-header.result) c.count-count.result c.header_for-header.ensures.seen c.count-count.ensures.count
    (g.N.Disk.now c.args.new) (g.N.Disk.now c.put_image.new.new) (g.N.Disk.past c.args.new)
    (g.N.Disk.past c.put_image.new.new)
    (c.put_image.ensures.runs.kept h)

pub returns-in-Ok-clause-place : goal.returns-in-Ok-clause-place
returns-in-Ok-clause-place g c =
    refused_place c.in-Ok.image (g.O.Disk.now c.args.old.now).bytes
    (g.O.Disk.honest c.read_image.new.disk) c.in-Ok.ensures.means c.in-Ok.ensures.header
    (g.N.Disk.honest c.put_image.new.new) (g.N.Disk.now c.args.new).bytes c.in-Err-put_image.refusal
    (sizes_of c.header_for-header.result.limits) (ap sizes_of c.header_for-header.ensures.limits)
    c.in-Err-put_image.ensures.none

pub returns-clause-place : goal.returns-clause-place
returns-clause-place g c =
    refused_old (g.O.Disk.honest c.read_image.new.disk) (g.N.Disk.honest c.args.new)
    (g.O.Disk.now c.args.old.now).bytes (g.N.Disk.now c.args.new).bytes c.in-Err.refusal c.in-Err.ensures.fault

pub returns-in-Ok-clause-faults : goal.returns-in-Ok-clause-faults
returns-in-Ok-clause-faults g c =
    let f = c.in-Err-put_image.ensures.runs.faults in record {
      one_of = ⊎_elim (λ wrong. inr (inr (inr (inl (inl wrong))))) (⊎_elim inl (λ device. inr (inr (inl device)))) f.0;
      failed = λ device. inr (f.1 device).0;
      passed = λ other. (c.in-Ok.ensures.reads.faults, f.2 other);
    }
