use Rattle.std.proofs.Common.{◌≡◌, ℕ, ◌<◌, ◌≢◌, List, length, slice_get, Option}
use Rattle.{im_types.specs.Types.answer_each, im_arena.specs.Lists.list_at, im_cell.specs.declared.Slot.Slot}
use Rattle.im_istore.specs.{Access.replies_to, Agreement.AgreeBut, Joined.cells_of}
use Rattle.im_memory.specs.{Changing.IsAway, Resuming.AreAwaited}
use Rattle.im_memory.proofs.acts.drain.Given as goal

-- those that are left on the list still have to be answered, and then all are
abbrev pub invariant-loop-reader : goal.invariant-loop-reader
invariant-loop-reader l = record {
  listed : l.a < length l.arena.held.lists;
  awaited : AreAwaited l.sessions (replies_to (list_at l.arena.held l.a) l.value);
  windows : answer_each l.sessions (replies_to (list_at l.arena.held l.a) l.value)
      ≡ answer_each l.initial.sessions (replies_to (list_at l.initial.arena.held l.a) l.value);
  nodes : l.arena.held.nodes ≡ l.initial.arena.held.nodes;
  draining : (slots : List (Option Slot)) → AgreeBut l.a slots l.initial.arena → AgreeBut l.a slots l.arena
      × (cells_of slots l.arena ≡ cells_of slots l.initial.arena);
  ends : (b : ℕ) → b ≢ l.a → slice_get l.arena.links.ends b ≡ slice_get l.initial.arena.links.ends b;
  records : (n : ℕ) → IsAway l.initial.arena l.a n → slice_get l.arena.links.records n
      ≡ slice_get l.initial.arena.links.records n;
  away : (n : ℕ) → IsAway l.initial.arena l.a n → IsAway l.arena l.a n;
}

abbrev pub decreases-loop-reader : goal.decreases-loop-reader
decreases-loop-reader l = length (list_at l.arena.held l.a)
