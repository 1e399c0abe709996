use Rattle.std.proofs.Common.{◌++◌, string_bytes, codes, sym, append-nil}
use Rattle.im_dialogue.{proofs.ListLemmas.said_more, specs.Showing.cell_said}
use Rattle.im_dialogue.proofs.listing.add_cells_from.Goals as goal

pub loop-i-init : goal.loop-i-init
loop-i-init c = sym (append-nil _)

pub loop-i-preserved : goal.loop-i-preserved
loop-i-preserved c = said_more (λ a. codes ", " ++ cell_said c.args.memory.now.contents a) c.args.from c.loop-i.i
    (string_bytes c.args.out.now) _ _ c.loop-i.invariant c.in_ok-add_cell_part.ensures
