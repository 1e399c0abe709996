use Rattle.std.proofs.Common.{length, sym, ap, ◌∙◌}
use Rattle.im_holes.proofs.Shown.{length-cells}

pub returns : Rattle.im_holes.proofs.holes.Holes.cells.Goals.returns
returns c = c.count.ensures ∙ ap length c.as_slice.ensures.value
    ∙ sym (length-cells c.self.inside.begins.items c.self.inside.tags.items c.self.invariant.count)
    ∙ ap length c.self.view_is
