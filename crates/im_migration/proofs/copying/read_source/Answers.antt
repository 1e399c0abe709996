use Rattle.im_migration.proofs.Copies.{no_sizes, not_opened, source_found}
use Rattle.im_migration.proofs.copying.read_source.Goals as goal

pub returns-in-Ok-limits_for-clause-found : goal.returns-in-Ok-limits_for-clause-found
returns-in-Ok-limits_for-clause-found g c =
    source_found c.args.asked c.in-Ok.image (g.O.Disk.now c.args.old.now).bytes
    (g.O.Disk.honest c.read_image.new.disk) c.in-Ok.ensures.means c.in-Ok.ensures.header
    c.in-Ok-limits_for.limits c.in-Ok-limits_for.ensures.sizes c.resize_image.result c.resize_image.ensures.sizes
    c.resize_image.ensures.count c.resize_image.ensures.memory

pub returns-in-Ok-clause-none : goal.returns-in-Ok-clause-none
returns-in-Ok-clause-none g c =
    no_sizes c.args.asked c.in-Ok.image (g.O.Disk.now c.args.old.now).bytes (g.O.Disk.honest c.read_image.new.disk)
    c.in-Ok.ensures.means c.in-Ok.ensures.header c.in-Err-limits_for.refusal c.in-Err-limits_for.ensures.none

pub returns-clause-none : goal.returns-clause-none
returns-clause-none g c =
    not_opened c.args.asked (g.O.Disk.now c.args.old.now).bytes (g.O.Disk.honest c.read_image.new.disk)
    c.in-Err.refusal c.in-Err.ensures.fault
