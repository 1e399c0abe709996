use Rattle.std.proofs.Common.{length, sym, ap, ◌∙◌}
use Rattle.im_contents.proofs.RowLemmas.{length-spread}

pub returns : Rattle.im_contents.proofs.lists.Lists.len.Goals.returns
returns c =
    let i = c.self.inside in
    sym (ap length (sym c.self.view_is) ∙ length-spread i.waiters.items i.ends.items i.cells c.self.invariant.1)
