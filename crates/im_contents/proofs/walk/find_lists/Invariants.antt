use Rattle.std.proofs.Common.{◌≡◌, ◌≤◌, false, length, drop, replicate}
use Rattle.im_contents.specs.{Row.Rise, Row.spread, Walk.after_lists, Walk.walk_all}

abbrev pub invariant-loop-cell : Rattle.im_contents.proofs.walk.find_lists.Given.invariant-loop-cell
invariant-loop-cell l = record {
  size : length l.marks ≡ length l.nodes;
  rise : Rise 0 l.ends.items (length l.waiters.items);
  few : length l.ends.items ≤ l.cell;
  walked : walk_all l.nodes l.cells (replicate (length l.nodes) false)
      ≡ after_lists (spread l.waiters.items l.ends.items l.cell) (walk_all l.nodes (drop l.cell l.cells) l.marks);
}
