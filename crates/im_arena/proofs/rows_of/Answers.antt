use Rattle.std.proofs.Common.{◌≡◌, ◌+◌, replicate, refl}
use Rattle.im_arena.specs.Table.{empty_row}

pub returns : Rattle.im_arena.proofs.rows_of.Goals.returns
returns c =
    let items : c.in_ok-rows.rows.items
    ≡ replicate (c.args.lists + 1) empty_row = rw c.empty.ensures at
    (c.in_ok-rows.ensures.items_if_clones_equal (λ y h. h)) in
    rw (items, c.full.ensures) refl
