use Rattle.std.proofs.Common.{◌≡◌, drop}
use Rattle.im_types.specs.Types.{layout_of, accept_in}

abbrev pub invariant-loop-command : Rattle.im_image.proofs.reading.replay.Given.invariant-loop-command
invariant-loop-command l = accept_in (layout_of l.version) l.initial.memory.contents l.commands
    ≡ accept_in (layout_of l.version) l.memory.contents (drop l.command-index l.commands)
