use Rattle.std.proofs.Common.{◌≡◌, ◌≤◌, length}
use Rattle.im_arena.specs.{Chain.place_from, Table.next_of, Table.steps_from}

abbrev pub invariant-loop-step : Rattle.im_arena.proofs.Arena.at.Given.invariant-loop-step
invariant-loop-step l = record {
  node : l.node ≡ place_from (next_of l.self-inside.nodes.items) l.initial.node l._step;
  before : l._step ≤ steps_from (next_of l.self-inside.nodes.items) l.initial.node (length l.self-inside.nodes.items);
}
