use Rattle.std.proofs.Common.{◌≡◌, ℕ, ◌+◌, ◌<◌, false, length}
use Rattle.im_types.specs.Types.{NONE}
use Rattle.im_arena.specs.Table.{next_of, used_of}

abbrev pub invariant-loop-node : Rattle.im_arena.proofs.free_nodes.Given.invariant-loop-node
invariant-loop-node l = record {
  size : length l.nodes.items ≡ l.node;
  unused : (n : ℕ) → n < length l.nodes.items → used_of l.nodes.items n ≡ false;
  chained : (n : ℕ) → n < length l.nodes.items → n + 1 < l.count → next_of l.nodes.items n ≡ n + 1;
  tail : (n : ℕ) → n < length l.nodes.items → n + 1 ≡ l.count → next_of l.nodes.items n ≡ NONE;
}
