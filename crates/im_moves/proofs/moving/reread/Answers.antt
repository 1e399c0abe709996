use Rattle.im_moves.proofs.MovingLemmas.{loaded_again}
use Rattle.im_moves.proofs.moving.reread.Goals as goal

pub returns-in-Ok-read_dump-clause-means : goal.returns-in-Ok-read_dump-clause-means
returns-in-Ok-read_dump-clause-means g c = λ honest.
    loaded_again c.what_was_dumped_is_loaded.ensures (g.D.Disk.now c.args.old.now).bytes c.new-text.result.items
    c.dump.new.out.items c.as_slice.result.now c.in-Ok-read_dump.loaded c.new-text.ensures.items c.as_slice.ensures.value
    (c.in-Ok.ensures.told.dumps honest) c.in-Ok-read_dump.ensures.found
