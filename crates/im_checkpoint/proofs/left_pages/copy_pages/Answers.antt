use Rattle.im_types.specs.Types.{sizes_of}
use Rattle.im_checkpoint.proofs.Copying.{copied_all, copied_more}
use Rattle.im_checkpoint.proofs.left_pages.copy_pages.Goals as goal

pub loop-page-preserved : goal.loop-page-preserved
loop-page-preserved c =
    let p = c.args.pages.now in
    copied_more (sizes_of p.limits) p.memory.now.records c.args.named.now p.left.now p.recent.now c.args.from
    c.loop-page.at c.in-Some.page c.args.copies.now c.loop-page.copies c.copy_page.new.copies
    c.loop-page.invariant c.in-Some.ensures c.copy_page.ensures.space c.copy_page.ensures.copied
    c.copy_page.ensures.stay

pub returns-clause-copied : goal.returns-clause-copied
returns-clause-copied c =
    let p = c.args.pages.now in
    copied_all (sizes_of p.limits) p.memory.now.records c.args.named.now p.left.now p.recent.now c.args.from
    c.loop-page.at c.args.copies.now c.loop-page.copies c.loop-page.invariant c.in_default.ensures c.requires.size
