use Rattle.std.proofs.Common.{◌≡◌, ◌++◌, string_bytes, codes, flat_map}
use Rattle.std.specs.List.{range_with_len}
use Rattle.im_dialogue.specs.Showing.{cell_said}

abbrev pub invariant-loop-i : Rattle.im_dialogue.proofs.listing.add_cells_from.Given.invariant-loop-i
invariant-loop-i l = string_bytes l.out ≡ string_bytes l.fn.out
    ++ flat_map (λ a. codes ", " ++ cell_said l.memory.contents a) (range_with_len l.from l.i)
