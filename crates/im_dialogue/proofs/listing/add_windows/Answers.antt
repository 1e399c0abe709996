use Rattle.std.proofs.Common.{◌++◌, string_bytes, codes, sym, append-nil}
use Rattle.im_types.specs.Types.{bounds}
use Rattle.im_dialogue.{proofs.ListLemmas.said_next, specs.Showing.window_said}
use Rattle.im_dialogue.proofs.listing.add_windows.Goals as goal

pub loop-element-init : goal.loop-element-init
loop-element-init c = sym (append-nil _)

pub loop-element-preserved : goal.loop-element-preserved
loop-element-preserved c =
    said_next (λ e. codes ", " ++ window_said e (bounds c.args.memory.now.contents.windows e)) c.loop-element.element
    (string_bytes c.args.out.now) _ _ c.loop-element.invariant c.in_ok-add_window_part.ensures
