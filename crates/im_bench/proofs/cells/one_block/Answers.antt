use Rattle.im_istore.proofs.Blocks.{Agree-place, Agree-start}

pub returns : Rattle.im_bench.proofs.cells.one_block.Goals.returns
returns c = Agree-place c.place.result _ c.place.new.self c.in_ok-arena.arena _ c.args.kind c.place.ensures.least c.place.ensures.made c.place.ensures.same
    (rw c.in_ok-table.ensures.free (Agree-start 1048576 c.in_ok-arena.arena c.in_ok-arena.ensures.empty))
