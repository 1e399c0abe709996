use Rattle.std.proofs.Common.{sym, subst}
use Rattle.im_cell.proofs.Begun.{IsGivenTo, IsGivenTo-more}

pub loop-at-preserved-then-at-end : Rattle.im_cell.proofs.counts.give_free.Goals.loop-at-preserved-then-at-end
loop-at-preserved-then-at-end c = subst (λ h. IsGivenTo c.args.cells.now h c.free_until-end.result) (sym c.give.ensures)
    (IsGivenTo-more c.args.cells.now c.loop-at.holes c.loop-at.at c.free_until-end.result c.requires.blocks
    c.free_until-end.ensures c.loop-at.invariant)
