use Rattle.std.proofs.Common.{codes}
use Rattle.{im_types.specs.Types.layout_1, im_disk.specs.File.account_of, im_migration.specs.Migration.MeansSame}
use Rattle.im_program.proofs.MovedLemmas.{moved, read_since, same_bytes}
use Rattle.im_program.specs.Moving.{TellsCount}
use Rattle.im_program.proofs.moving.migrate_file.Goals as goal

pub returns-clause-moved : goal.returns-clause-moved
returns-clause-moved g c =
    let other = g.T.Start in
    let opened = c.in-Ok.from in
    let mid = c.length_of.new.old in
    let old = c.migrate_on-status.new.old in
    moved g.S.Start other MeansSame (TellsCount layout_1 (codes "migrated")) (account_of other mid).now.bytes
    c.in-Ok-length_of.length c.in-Ok-place_at.to c.migrate_on-status.result.1 old c.in-Ok-place_at.ensures.found
    (same_bytes other opened mid old c.in-Ok.ensures.found c.in-Ok-length_of.ensures.reads.reads
    c.migrate_on-status.ensures.reads.honest)
    (g.W.Write.contents c.args.out.now) (g.W.Write.contents c.migrate_on-status.new.out) c.migrate_on-status.result.0
    c.migrate_on-status.ensures.leaves
    (λ honest done h. c.migrate_on-status.ensures.moved done h honest) c.migrate_on-status.ensures.told
    (read_since other opened mid old c.in-Ok.ensures.found c.in-Ok-length_of.ensures.reads.reads
    c.migrate_on-status.ensures.reads.honest c.migrate_on-status.ensures.reads.reads)

pub returns-clause-named : goal.returns-clause-named
returns-clause-named g c = λ honest. c.in-Ok-place_at.ensures.named (c.migrate_on-status.ensures.honest honest)

pub returns-clause-old : goal.returns-clause-old
returns-clause-old g c = λ honest.
    c.in-Ok.ensures.named (c.in-Ok-length_of.ensures.reads.honest (c.migrate_on-status.ensures.reads.honest honest))
