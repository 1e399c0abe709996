use Rattle.im_contents.specs.Local.{LieIn}

abbrev pub invariant-loop-cell : Rattle.im_contents.proofs.blocks.are_in.Given.invariant-loop-cell
invariant-loop-cell l = LieIn l.cells l.from l.cell l.block
