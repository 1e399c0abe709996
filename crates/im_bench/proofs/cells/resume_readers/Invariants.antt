use Rattle.std.proofs.Common.{◌<◌, List, length, Option}
use Rattle.{im_arena.specs.Lists.list_at, im_cell.specs.declared.Slot.Slot, im_istore.specs.Agreement.AgreeBut}
use Rattle.im_bench.proofs.cells.resume_readers.Given as goal

abbrev pub invariant-loop-reader : goal.invariant-loop-reader
invariant-loop-reader l = record {
  inside : l.a < length l.arena.held.lists;
  draining : (slots : List (Option Slot)) → AgreeBut l.a slots l.initial.arena → AgreeBut l.a slots l.arena;
}

abbrev pub decreases-loop-reader : goal.decreases-loop-reader
decreases-loop-reader l = length (list_at l.arena.held l.a)
