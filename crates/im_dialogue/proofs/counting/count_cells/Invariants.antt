use Rattle.std.proofs.Common.{◌≡◌, ◌≤◌, length, filter}
use Rattle.std.specs.List.{range_with_len}
use Rattle.im_types.specs.Types.{held_at, block_at, presence_in}
use Rattle.im_dialogue.specs.Counting.{is_counted}

abbrev pub invariant-loop-a : Rattle.im_dialogue.proofs.counting.count_cells.Given.invariant-loop-a
invariant-loop-a l = record {
  many : l.count ≡ length (filter (λ a. is_counted l.sort a (block_at l.memory.contents.cells a)
      (presence_in (held_at l.memory.contents.cells a))) (range_with_len 0 l.a));
  few : l.count ≤ l.a;
}
