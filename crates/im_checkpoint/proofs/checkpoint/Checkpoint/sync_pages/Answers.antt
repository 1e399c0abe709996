use Rattle.{im_pages.specs.PageSets.pages_from, im_image.specs.Headers.seen}
use Rattle.im_checkpoint.proofs.PageLists.{kept_done}
use Rattle.im_checkpoint.proofs.checkpoint.Checkpoint.sync_pages.Goals as goal

pub returns-in-Err-clause-keeps : goal.returns-in-Err-clause-keeps
returns-in-Err-clause-keeps g c = λ h n m j kept.
    let e = c.self.inside in
    let before = kept_done c.args.self.now (seen e.header) e.step e.count
    (pages_from e.next e.left) e.recent e.older e.copies c.self.view_is n m j
    (g.D.Disk.now c.args.disk.now) kept c.requires.step in
    record {
      leaves = c.close_other.ensures.leaves h e.count _ m j before;
      kept = tt;
    }

pub returns-clause-keeps : goal.returns-clause-keeps
returns-clause-keeps g c = λ h n m j kept.
    let e = c.self.inside in
    let before = kept_done c.args.self.now (seen e.header) e.step e.count
    (pages_from e.next e.left) e.recent e.older e.copies c.self.view_is n m j
    (g.D.Disk.now c.args.disk.now) kept c.requires.step in
    record {
      leaves = c.close_other.ensures.leaves h e.count _ m j before;
      kept = c.in_default.ensures.kept h e.count _ m j before;
    }
