use Rattle.im_istore.proofs.Blocks.{Agree-place}

pub returns : Rattle.im_stories_memory.proofs.accesses.place.Goals.returns
returns c = Agree-place c.place.result c.args.table.now c.place.new.self c.args.arena.now c.args.n c.args.kind c.place.ensures.least c.place.ensures.made c.place.ensures.same c.requires.agree
