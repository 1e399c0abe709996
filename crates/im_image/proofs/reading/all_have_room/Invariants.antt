use Rattle.std.{proofs.Common.◌≡◌, proofs.Common.true, proofs.Common.take, specs.List.list_all}
use Rattle.im_types.specs.Types.{layout_1, has_room_for}

abbrev pub invariant-loop-element : Rattle.im_image.proofs.reading.all_have_room.Given.invariant-loop-element
invariant-loop-element l = list_all (has_room_for layout_1) (take l.element l.memory.contents.windows) ≡ true
