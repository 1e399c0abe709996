use Rattle.std.proofs.Common.{◌≡◌, ◌+◌, ◌<◌, ◌≤◌, [], ◌++◌, length, vec_len, vec_capacity}
use Rattle.im_arena.specs.Lists.{list_at, with_list}
use Rattle.im_istore.proofs.drain.Given as goal

abbrev pub invariant-loop-reader : goal.invariant-loop-reader
invariant-loop-reader l = record {
  inside : l.a < length l.arena.held.lists;
  items : l.readers.items ++ list_at l.arena.held l.a ≡ l.initial.readers.items ++ list_at l.initial.arena.held l.a;
  rest : with_list l.arena.held l.a [] ≡ with_list l.initial.arena.held l.a [];
  room : vec_len l.readers + length (list_at l.arena.held l.a) ≤ vec_capacity l.readers;
}

abbrev pub decreases-loop-reader : goal.decreases-loop-reader
decreases-loop-reader l = length (list_at l.arena.held l.a)
