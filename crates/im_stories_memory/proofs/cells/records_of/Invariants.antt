use Rattle.std.proofs.Common.{◌≡◌, map, take}
use Rattle.im_cell.specs.Slots.{shown_slot}

-- the cells so far
abbrev pub invariant-loop-a : Rattle.im_stories_memory.proofs.cells.records_of.Given.invariant-loop-a
invariant-loop-a l = map shown_slot l.records.items ≡ take l.a l.table
