use Rattle.std.proofs.Common.{◌≡◌, false, take, drop, sym, ap, ◌∙◌, subst}
use Rattle.std.specs.List.{list_any}
use Rattle.im_types.specs.Types.{CellEmpty as Empty, fill, change_each}
use Rattle.im_cell.proofs.{Blocks.emptied-fill, Blocks.IsBlock-at, Changed.IsTable-emptied}
use Rattle.im_cell.specs.{Slots.is_waiting_slot, Slots.length_of, Slots.with_cell, Table.IsTable}
use Rattle.im_cell.proofs.table.CellTable.reset.Goals as goal

pub invariant_of-self : goal.invariant_of-self
invariant_of-self c =
    let f = c.in-Some.ensures.found in
    let block = IsBlock-at c.self.inside.slots c.args.self.now c.args.base c.in-Some.block c.self.view_is f.begins f.found
    c.self.invariant.blocks in
    subst (λ s. IsTable s c.self.inside.holes) (sym (c.fill.ensures
    ∙ ap (fill c.self.inside.slots c.in-Some.block.base c.in-Some.block.length) c.of.ensures.slot))
    (IsTable-emptied c.self.inside.slots c.self.inside.holes c.in-Some.block c.self.invariant block.here
    (subst (λ s. list_any is_waiting_slot (take c.in-Some.block.length (drop c.in-Some.block.base s)) ≡ false)
    (sym c.self.view_is) f.quiet))

pub returns-clause-emptied : goal.returns-clause-emptied
returns-clause-emptied c done =
    let f = c.in-Some.ensures.found in
    let block = IsBlock-at c.self.inside.slots c.args.self.now c.args.base c.in-Some.block c.self.view_is f.begins f.found
    c.self.invariant.blocks in
    c.fill.ensures ∙ ap (fill c.self.inside.slots c.in-Some.block.base c.in-Some.block.length) c.of.ensures.slot
    ∙ sym (emptied-fill c.self.inside.slots c.in-Some.block block.here c.self.invariant.blocks)
    ∙ ap (λ s. change_each (with_cell Empty) s c.in-Some.block.base c.in-Some.block.length) c.self.view_is
    ∙ ap (λ a. change_each (with_cell Empty) c.args.self.now a c.in-Some.block.length) f.begins
    ∙ ap (λ o. change_each (with_cell Empty) c.args.self.now c.args.base (length_of o)) (sym f.found)
