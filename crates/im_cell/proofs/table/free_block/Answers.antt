use Rattle.std.proofs.Common.{None, sym, subst, arith}
use Rattle.im_types.specs.Types.{fill}
use Rattle.im_cell.{proofs.Changed.held-block, proofs.Changed.IsTable-left, specs.Table.IsTable}
use Rattle.im_cell.proofs.table.free_block.Goals as goal

pub fill-requires-clause-inside : goal.fill-requires-clause-inside
fill-requires-clause-inside c = (c.requires.table.blocks.within c.args.block.base c.args.block c.requires.block).2

pub give-requires-clause-some : goal.give-requires-clause-some
give-requires-clause-some c =
    let w = c.requires.table.blocks.within c.args.block.base c.args.block c.requires.block in omega arith

pub give-requires-clause-held : goal.give-requires-clause-held
give-requires-clause-held c = held-block c.args.slots.now c.args.holes.now c.args.block c.requires.table
    c.requires.block

pub returns-clause-table : goal.returns-clause-table
returns-clause-table c =
    subst (λ s. IsTable s c.give.new.self) (sym c.fill.ensures)
    (subst (λ h. IsTable (fill c.args.slots.now c.args.block.base c.args.block.length None) h) (sym c.give.ensures)
    (IsTable-left c.args.slots.now c.args.holes.now c.args.block c.requires.table c.requires.block))
