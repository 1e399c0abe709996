use Rattle.std.proofs.Common.{Bool, [], ◌++◌, if◌then◌else◌, string_bytes, codes, sym, ap, ◌∙◌, ap₂, append-nil}
use Rattle.im_types.specs.Types.{held_at, block_at, presence_in}
use Rattle.im_dialogue.{proofs.ListLemmas.told_more, specs.Counting.is_counted, specs.Showing.shown_at}
use Rattle.im_dialogue.proofs.listing.add_parts.Goals as goal

pub loop-a-init : goal.loop-a-init
loop-a-init c = sym (append-nil _)

pub loop-a-preserved : goal.loop-a-preserved
loop-a-preserved c = told_more
    (λ a. is_counted c.args.sort a (block_at c.args.memory.now.contents.cells a)
    (presence_in (held_at c.args.memory.now.contents.cells a)))
    c.loop-a.a (λ a. codes ", " ++ shown_at c.args.sort c.args.memory.now.contents a) (string_bytes c.args.out.now) _ _
    c.loop-a.invariant
    (c.in_ok-add_part_if.ensures ∙ ap (λ (w : Bool). string_bytes c.loop-a.out
    ++ (if w then codes ", " ++ shown_at c.args.sort c.args.memory.now.contents c.loop-a.a else []))
    (c.is_counted-wanted.ensures ∙ ap₂ (is_counted c.args.sort c.loop-a.a) c.block.ensures c.cell.ensures))
