use Rattle.im_migration.proofs.Copies.{no_sizes, not_opened}
use Rattle.im_migration.proofs.copying.length_for_copy.Goals as goal

pub returns-clause-none : goal.returns-clause-none
returns-clause-none g c =
    no_sizes c.args.asked c.in-Ok.image (g.O.Disk.now c.args.old.now).bytes
    (g.O.Disk.honest c.read_image.new.disk) c.in-Ok.ensures.means c.in-Ok.ensures.header
    c.in-Err-limits_for.refusal c.in-Err-limits_for.ensures.none

pub returns-in-Err-clause-none : goal.returns-in-Err-clause-none
returns-in-Err-clause-none g c =
    not_opened c.args.asked (g.O.Disk.now c.args.old.now).bytes (g.O.Disk.honest c.read_image.new.disk)
    c.in-Err.refusal c.in-Err.ensures.fault
