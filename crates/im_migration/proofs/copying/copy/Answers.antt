use Rattle.im_migration.proofs.Copies.{leaves_copy, means_copy, no_place, no_source}
use Rattle.im_migration.proofs.copying.copy.Goals as goal

pub returns-in-Ok-put_image-clause-leaves : goal.returns-in-Ok-put_image-clause-leaves
returns-in-Ok-put_image-clause-leaves g c = λ h. (
  c.put_image.ensures.runs.honest h,
  leaves_copy c.args.asked c.in-Ok.source (g.O.Disk.now c.args.old.now).bytes
      (g.O.Disk.honest c.read_source.new.old) c.in-Ok.ensures.whole c.in-Ok.ensures.found
      (g.N.Disk.now c.args.new) (g.N.Disk.now c.put_image.new.new) (g.N.Disk.past c.args.new)
      (g.N.Disk.past c.put_image.new.new)
      (c.put_image.ensures.runs.kept h),
)

pub returns-in-Ok-put_image-clause-copied : goal.returns-in-Ok-put_image-clause-copied
returns-in-Ok-put_image-clause-copied g c = λ honest here file left.
    means_copy c.args.asked c.in-Ok.source (g.O.Disk.now c.args.old.now).bytes
    (g.O.Disk.honest c.read_source.new.old) c.in-Ok.ensures.whole c.in-Ok.ensures.found file
    (c.in-Ok-put_image.ensures.laid here file left) honest

pub returns-in-Ok-clause-leaves : goal.returns-in-Ok-clause-leaves
returns-in-Ok-clause-leaves g c = λ h. (
  c.put_image.ensures.runs.honest h,
  leaves_copy c.args.asked c.in-Ok.source (g.O.Disk.now c.args.old.now).bytes
      (g.O.Disk.honest c.read_source.new.old) c.in-Ok.ensures.whole c.in-Ok.ensures.found
      (g.N.Disk.now c.args.new) (g.N.Disk.now c.put_image.new.new) (g.N.Disk.past c.args.new)
      (g.N.Disk.past c.put_image.new.new)
      (c.put_image.ensures.runs.kept h),
)

pub returns-in-Ok-clause-refused : goal.returns-in-Ok-clause-refused
returns-in-Ok-clause-refused g c =
    no_place c.args.asked c.in-Ok.source (g.O.Disk.now c.args.old.now).bytes
    (g.O.Disk.honest c.read_source.new.old) c.in-Ok.ensures.whole c.in-Ok.ensures.found
    (g.N.Disk.honest c.put_image.new.new) (g.N.Disk.now c.args.new).bytes c.in-Err-put_image.refusal
    c.in-Err-put_image.ensures.none

pub returns-clause-refused : goal.returns-clause-refused
returns-clause-refused g c =
    no_source c.args.asked (g.O.Disk.honest c.read_source.new.old) (g.N.Disk.honest c.args.new)
    (g.O.Disk.now c.args.old.now).bytes (g.N.Disk.now c.args.new).bytes c.in-Err.refusal c.in-Err.ensures.none
