use Rattle.std.proofs.Common.{◌∙◌, arith}
use Rattle.im_cell.proofs.Seen.{own-there, same-long}
use Rattle.im_cell.proofs.filling.own_slot.Goals as goal

pub slot-requires : goal.slot-requires
slot-requires c = omega (
  arith,
  c.requires.inside,
  same-long c.args.units.now c.give_records.new.units c.args.cells.now c.give_records.new.cells
      c.give_records.ensures.same,
)

pub returns-clause-slot : goal.returns-clause-slot
returns-clause-slot c = c.slot.ensures ∙ own-there c.args.units.now c.give_records.new.units c.args.cells.now
    c.give_records.new.cells c.args.at c.give_records.ensures.same c.give_records.ensures.own c.requires.inside
