use Rattle.std.proofs.Common.{sym, ap, ◌∙◌, subst}
use Rattle.{im_types.specs.Types.fill, im_laws.proofs.BlockLemmas.place-fits}
use Rattle.im_cell.{proofs.Changed.IsTable-made, proofs.Changed.place-table, specs.Table.IsTable}
use Rattle.im_cell.proofs.table.place_block.Goals as goal

pub returns-in-None-clause-place : goal.returns-in-None-clause-place
returns-in-None-clause-place c = c.in-None.ensures.place
    ∙ place-table c.args.slots.now c.args.holes.now c.args.n c.requires.table

pub fill-requires-clause-inside : goal.fill-requires-clause-inside
fill-requires-clause-inside c = place-fits c.args.n c.args.slots.now c.in-Some.base
    (sym (place-table c.args.slots.now c.args.holes.now c.args.n c.requires.table) ∙ sym c.in-Some.ensures.place)

pub returns-in-Some-clause-table : goal.returns-in-Some-clause-table
returns-in-Some-clause-table c =
    subst (λ s. IsTable s c.take.new.self)
    (sym (c.fill.ensures ∙ ap (fill c.args.slots.now c.in-Some.base c.args.n) c.of.ensures.slot))
    (IsTable-made c.args.slots.now c.args.holes.now c.take.new.self c.in-Some.base c.args.n c.args.kind
    c.requires.table c.requires.some
    (sym (place-table c.args.slots.now c.args.holes.now c.args.n c.requires.table) ∙ sym c.in-Some.ensures.place)
    c.in-Some.ensures.taken)

pub returns-in-Some-clause-place : goal.returns-in-Some-clause-place
returns-in-Some-clause-place c = c.in-Some.ensures.place
    ∙ place-table c.args.slots.now c.args.holes.now c.args.n c.requires.table
