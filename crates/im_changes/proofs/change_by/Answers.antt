use Rattle.std.proofs.Common.{length, ap, ◌∙◌}
use Rattle.{im_types.specs.Types.Asks, im_types.specs.Types.is_below, im_fulls.proofs.BelowLemmas.command-below}

pub returns-in-Request-clause-below : Rattle.im_changes.proofs.change_by.Goals.returns-in-Request-clause-below
returns-in-Request-clause-below c =
    let m = c.args.memory.now.contents in
    ap (λ change. is_below (length m.cells) change) c.change_of.ensures
    ∙ command-below m (Asks c.in-Request.request) c.cells-cells.ensures.memory.blocks
