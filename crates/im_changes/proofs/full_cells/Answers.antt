use Rattle.std.proofs.Common.{◌≡◌, true, List, length, sym, subst, arith}
use Rattle.std.specs.List.{AllByRecursion}
use Rattle.{im_types.specs.Types.is_below, im_types.specs.Types.Change, im_fulls.proofs.BelowLemmas.opening-below}
use Rattle.im_changes.proofs.CellLemmas.{fills-all}

pub returns-clause-below : Rattle.im_changes.proofs.full_cells.Goals.returns-clause-below
returns-clause-below c =
    let m = c.args.memory.now.contents in
    subst (λ (xs : List Change). AllByRecursion (λ change. is_below (length m.cells) change ≡ true) xs)
    (sym (fills-all m c.loop-a.changes.items c.loop-a.a
    (omega (arith, c.cells-a-end.ensures.count)) c.loop-a.invariant)) (opening-below m)
