use Rattle.std.proofs.Common.{arith}
use Rattle.im_cell.proofs.Seen.{same-long}
use Rattle.im_cell.proofs.filling.fill_shown.Goals as goal

pub write_out_cut-requires-2-clause-inside : goal.write_out_cut-requires-2-clause-inside
write_out_cut-requires-2-clause-inside c = omega (
  arith,
  c.requires.inside,
  same-long c.args.units.now
      c.write_out_cut.new.units c.args.cells.now c.write_out_cut.new.cells c.write_out_cut.ensures.same,
)

pub write_out_cut-requires-2-clause-room : goal.write_out_cut-requires-2-clause-room
write_out_cut-requires-2-clause-room c = omega (
  arith,
  c.requires.room,
  c.write_out_cut.auto.units,
  same-long
      c.args.units.now
      c.write_out_cut.new.units c.args.cells.now c.write_out_cut.new.cells c.write_out_cut.ensures.same,
)

pub fill_uncut-requires-clause-inside : goal.fill_uncut-requires-clause-inside
fill_uncut-requires-clause-inside c = omega (
  arith,
  c.requires.inside,
  same-long c.args.units.now
      c.write_out_cut.new.units c.args.cells.now c.write_out_cut.new.cells c.write_out_cut.ensures.same,
  same-long c.write_out_cut.new.units c.write_out_cut-2.new.units c.write_out_cut.new.cells
      c.write_out_cut-2.new.cells c.write_out_cut-2.ensures.same,
)

pub fill_uncut-requires-clause-room : goal.fill_uncut-requires-clause-room
fill_uncut-requires-clause-room c = omega (
  arith,
  c.requires.room,
  c.write_out_cut.auto.units,
  c.write_out_cut-2.auto.units,
  same-long c.args.units.now
      c.write_out_cut.new.units c.args.cells.now c.write_out_cut.new.cells c.write_out_cut.ensures.same,
  same-long c.write_out_cut.new.units c.write_out_cut-2.new.units c.write_out_cut.new.cells
      c.write_out_cut-2.new.cells c.write_out_cut-2.ensures.same,
)
