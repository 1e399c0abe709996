use Rattle.im_istore.proofs.Blocks.{Agree-start}

pub returns : Rattle.im_stories_memory.proofs.accesses.pair.Goals.returns
returns c = rw c.in_ok-table.ensures.free (Agree-start c.args.cells c.in_ok-arena.arena c.in_ok-arena.ensures.empty)
