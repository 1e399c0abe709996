use Rattle.std.proofs.Common.{◌≡◌, ◌+◌, ◌≤◌, sym, refl, ◌∙◌, subst, arith}
use Rattle.{im_laws.proofs.BlockLemmas.place-fits, im_pages.specs.PageSets.size_of}
use Rattle.im_memory.proofs.{CellsLemmas.place-cells, CoverLemmas.alloc-block, CoverLemmas.alloc-none}
use Rattle.im_memory.specs.Covering.{most_by_new, with_new}
use Rattle.im_memory.proofs.touches.touch_alloc.Goals as goal

pub touch_cells-requires : goal.touch_cells-requires
touch_cells-requires c = omega (arith, place-fits c.args.n c.args.table.now c.in-Some.base (sym c.in-Some.ensures))

pub returns-in-Some-clause-places : goal.returns-in-Some-clause-places
returns-in-Some-clause-places c = alloc-block c.args.table.now c.args.arena.now c.args.kind c.args.n _ _ c.in-Some.base c.in-Some.ensures c.touch_cells.ensures.cells

pub returns-in_default-clause-places : goal.returns-in_default-clause-places
returns-in_default-clause-places c = alloc-none c.args.table.now c.args.arena.now c.args.kind c.args.n _ _ c.in_default.ensures

pub returns-in-Some-clause-few : goal.returns-in-Some-clause-few
returns-in-Some-clause-few c =
    subst (λ o. size_of c.touch_cells.new.pages ≤ size_of c.args.pages.now + most_by_new c.args.n o)
    (c.in-Some.ensures ∙ sym (place-cells c.args.table.now c.args.arena.now c.args.n)) c.touch_cells.ensures.few

pub returns-in-Some-clause-block : goal.returns-in-Some-clause-block
returns-in-Some-clause-block c =
    subst (λ o. c.touch_cells.new.pages ≡ with_new c.args.pages.now c.args.n o)
    (c.in-Some.ensures ∙ sym (place-cells c.args.table.now c.args.arena.now c.args.n)) c.touch_cells.ensures.state

pub returns-in_default-clause-block : goal.returns-in_default-clause-block
returns-in_default-clause-block c =
    subst (λ o. c.args.pages.now ≡ with_new c.args.pages.now c.args.n o)
    (c.in_default.ensures ∙ sym (place-cells c.args.table.now c.args.arena.now c.args.n)) refl
