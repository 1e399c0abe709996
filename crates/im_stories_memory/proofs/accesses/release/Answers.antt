use Rattle.im_istore.proofs.Blocks.{Agree-release}

pub returns : Rattle.im_stories_memory.proofs.accesses.release.Goals.returns
returns c = Agree-release c.release.result c.args.table.now c.release.new.self c.args.arena.now c.args.base c.release.ensures.done c.release.ensures.released c.release.ensures.same c.requires
