use Rattle.std.proofs.Common.{◌≡◌, ◌++◌, string_bytes, codes, flat_map}
use Rattle.std.specs.List.{range_with_len}
use Rattle.im_types.specs.Types.{bounds}
use Rattle.im_dialogue.specs.Showing.{window_said}

abbrev pub invariant-loop-element : Rattle.im_dialogue.proofs.listing.add_windows.Given.invariant-loop-element
invariant-loop-element l = string_bytes l.out ≡ string_bytes l.fn.out
    ++ flat_map (λ e. codes ", " ++ window_said e (bounds l.memory.contents.windows e)) (range_with_len 0 l.element)
