use Rattle.std.proofs.{Common.length, Common.ap, Common.arith, lemmas.List.with_items_is}
use Rattle.im_cell.proofs.Seen.{filled-long, length-shown}
use Rattle.im_cell.proofs.units.CellUnits.fill.Goals as goal

pub fill_shown-requires-clause-inside : goal.fill_shown-requires-clause-inside
fill_shown-requires-clause-inside c = omega (
  arith,
  c.requires.inside,
  length-shown c.self.inside.units.items c.self.inside.cells,
  ap length c.self.view_is,
)

pub fill_shown-requires-clause-room : goal.fill_shown-requires-clause-room
fill_shown-requires-clause-room c = omega (arith, c.self.invariant.0, c.as_mut_slice.ensures.len)

pub fill_shown-requires-clause-few : goal.fill_shown-requires-clause-few
fill_shown-requires-clause-few c = omega (arith, c.self.invariant.2, c.as_mut_slice.ensures.len)

pub invariant_of-self : goal.invariant_of-self
invariant_of-self c =
    let long = filled-long c.as_mut_slice.result.now c.fill_shown.new.units c.self.inside.cells c.fill_shown.new.cells
    _ _ _ c.fill_shown.ensures in
    rw (with_items_is c.self.inside.units c.fill_shown.new.units
    (omega (arith, c.fill_shown.auto.units, c.as_mut_slice.ensures.len))) (
      omega (arith, long, c.self.invariant.0, c.fill_shown.auto.units, c.as_mut_slice.ensures.len),
      omega (arith, long, c.self.invariant.1),
      omega (arith, c.self.invariant.2, c.fill_shown.auto.units, c.as_mut_slice.ensures.len),
    )
