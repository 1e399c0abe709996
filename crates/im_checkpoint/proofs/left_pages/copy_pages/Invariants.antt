use Rattle.std.proofs.Common.{◌-◌, length}
use Rattle.im_types.specs.Types.{sizes_of}
use Rattle.im_checkpoint.proofs.Copying.{HasCopied}
use Rattle.im_checkpoint.proofs.left_pages.copy_pages.Given as goal

abbrev pub invariant-loop-page : goal.invariant-loop-page
invariant-loop-page l =
    HasCopied (sizes_of l.pages.limits) l.pages.memory.now.records l.named l.pages.left.now l.pages.recent.now
    l.from l.at l.initial.copies l.copies

abbrev pub decreases-loop-page : goal.decreases-loop-page
decreases-loop-page l = length l.named - l.at
