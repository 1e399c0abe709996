use Rattle.std.proofs.Common.{◌≡◌, ◌≤◌, length}
use Rattle.im_arena.specs.{Chain.place_from, Table.next_of, Table.steps_from}

abbrev pub invariant-loop-count : Rattle.im_arena.proofs.Arena.len.Given.invariant-loop-count
invariant-loop-count l = record {
  node : l.node ≡ place_from (next_of l.self-inside.nodes.items) l.initial.node l.count;
  before : l.count ≤ steps_from (next_of l.self-inside.nodes.items) l.initial.node (length l.self-inside.nodes.items);
}
