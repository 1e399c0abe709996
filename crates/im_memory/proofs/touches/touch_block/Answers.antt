use Rattle.std.proofs.Common.{◌≡◌, ◌+◌, ◌≤◌, refl, subst}
use Rattle.im_pages.specs.PageSets.{size_of}
use Rattle.im_memory.proofs.CoverLemmas.{is-inner, is-none, whole-block, whole-inner, whole-none}
use Rattle.im_memory.{proofs.TouchLemmas.found-base, specs.Covering.most_by_block, specs.Covering.with_block}
use Rattle.im_memory.proofs.touches.touch_block.Goals as goal

pub returns-then-block-a-clause-places : goal.returns-then-block-a-clause-places
returns-then-block-a-clause-places c =
    whole-block c.args.table.now c.args.arena.now c.args.a _ _ c.in-Some.block c.in-Some.ensures.block c.if-block-a.true c.touch_cells.ensures.cells

pub returns-else-block-a-clause-places : goal.returns-else-block-a-clause-places
returns-else-block-a-clause-places c =
    whole-inner c.args.table.now c.args.arena.now c.args.a _ _ c.in-Some.block c.in-Some.ensures.block c.if-block-a.false

pub returns-in_default-clause-places : goal.returns-in_default-clause-places
returns-in_default-clause-places c = whole-none c.args.table.now c.args.arena.now c.args.a _ _ c.in_default.ensures.block

pub returns-then-block-a-clause-few : goal.returns-then-block-a-clause-few
returns-then-block-a-clause-few c =
    subst (λ o. size_of c.touch_cells.new.pages ≤ size_of c.args.pages.now + most_by_block o)
    (found-base c.args.table.now c.args.arena.now c.args.a c.in-Some.block c.in-Some.ensures.block c.if-block-a.true)
    c.touch_cells.ensures.few

pub returns-then-block-a-clause-block : goal.returns-then-block-a-clause-block
returns-then-block-a-clause-block c =
    subst (λ o. c.touch_cells.new.pages ≡ with_block c.args.pages.now o)
    (found-base c.args.table.now c.args.arena.now c.args.a c.in-Some.block c.in-Some.ensures.block c.if-block-a.true)
    c.touch_cells.ensures.state

pub returns-else-block-a-clause-block : goal.returns-else-block-a-clause-block
returns-else-block-a-clause-block c =
    subst (λ o. c.args.pages.now ≡ with_block c.args.pages.now o)
    (is-inner c.args.table.now c.args.arena.now c.args.a c.in-Some.block c.in-Some.ensures.block c.if-block-a.false)
    refl

pub returns-in_default-clause-block : goal.returns-in_default-clause-block
returns-in_default-clause-block c =
    subst (λ o. c.args.pages.now ≡ with_block c.args.pages.now o)
    (is-none c.args.table.now c.args.arena.now c.args.a c.in_default.ensures.block) refl
