use Rattle.std.proofs.Common.{◌≡◌, ◌++◌, string_bytes, codes, filter, flat_map}
use Rattle.std.specs.List.{range_with_len}
use Rattle.im_types.specs.Types.{held_at, block_at, presence_in}
use Rattle.im_dialogue.specs.{Counting.is_counted, Showing.shown_at}

abbrev pub invariant-loop-a : Rattle.im_dialogue.proofs.listing.add_parts.Given.invariant-loop-a
invariant-loop-a l = string_bytes l.out ≡ string_bytes l.fn.out
    ++ flat_map (λ a. codes ", " ++ shown_at l.sort l.memory.contents a)
    (filter (λ a. is_counted l.sort a (block_at l.memory.contents.cells a)
    (presence_in (held_at l.memory.contents.cells a))) (range_with_len 0 l.a))
